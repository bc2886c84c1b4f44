-- What the board does before and at a request, as the core means it.
use Rattle.std.proofs.Common.{◌≡◌, ℕ, ◌+◌, ◌-◌, ◌^◌, ◌<◌, ◌≤◌, suc, Bool, true, false, cond, eqb, ◌&&◌, List, [], ◌∷◌, inr, Option, Some, None, IfSome, unwrap_or, min, length, filter, ◌++◌, Result, Ok, Err, OnOk, is_err, not, refl, ap, sym, subst, ◌∙◌, arith}
use Rattle.std.specs.Prelude.{map}
use Rattle.std.proofs.lemmas.Bool.{false≢true}
use Rattle.wc_text.specs.declared.names.Handle.{Handle}
use Rattle.wc_text.specs.declared.names.LinkId.{LinkId}
use Rattle.wc_nickdiff.specs.Held.{OfBuffer, touches_of}
use Rattle.wc_session.specs.RequestContext.{Context}
use Rattle.wc_outside.specs.Keyed.{at_key, put_at}
use Rattle.wc_outside.proofs.KeyedLemmas.{at_key-put_same, at_key-key}
use Rattle.wc_filters.specs.declared.filter.Filter.{Filter}
use Rattle.wc_model.specs.declared.change.Change.{Change}
use Rattle.wc_model.specs.declared.change.Flip.{Flip}
use Rattle.wc_model.specs.declared.notice.Notice.{Notice}
use Rattle.wc_model.specs.Order.{order}
use Rattle.wc_model.specs.World.{World}
use Rattle.wc_relaycmd.specs.declared.request.Request.{Request}
use Rattle.wc_relaycmd.specs.Answers.{request_of}
use Rattle.wc_relaycmd.specs.Utf8.{RequestIsUtf8}
use Rattle.wc_session.specs.declared.client.Client.{Client}
use Rattle.wc_session.specs.declared.outcome.Outcome.{Outcome}
use Rattle.wc_session.specs.declared.outcome.Outcome.TheVariants as outcome
use Rattle.wc_session.specs.Known.{Known}
use Rattle.wc_session.specs.Reply.{reply_of}
use Rattle.wc_session.specs.Served.{OnServed, AnswersRequest}
use Rattle.wc_board.specs.declared.connection.Connection.{Connection}
use Rattle.wc_board.specs.Answered.{is_nicklist, pushes_before, PushedIf, IsPushed, AnsweredIf, AnsweredAt, AnswersAfterPushes, IsUnchanged}
use Rattle.wc_board.specs.BoardView.{BoardView}
use Rattle.wc_board.specs.Connections.{connection_link, client_of, is_open, is_open_at, session_at, new_connection}
use Rattle.wc_board.specs.Pushes.{pushed_connection}
use Rattle.wc_board.specs.Served.{ConnectionsKept, NoticeServed}
use Rattle.wc_core.specs.State.{Beside, State, Stepped}
use Rattle.wc_board.proofs.PushConnections.{ConnectionsKept-refl}
use Rattle.wc_board.proofs.PushEach.{open_number, number_more, none_left, all_is}
use Rattle.wc_text.specs.declared.names.Cause.TheVariants.{Surplus}
use Rattle.wc_servers.specs.Seats.{ServersView, used_up}
use Rattle.wc_core.specs.CoreView.{CoreView}
use Rattle.wc_core.specs.Changing.{made_step, with_filters}
use Rattle.wc_core.specs.Contexts.{context_in}
use Rattle.wc_core.specs.Fitted.{flips_change}
use Rattle.wc_core.specs.BoardSteps.{board_of, Keeps}
use Rattle.wc_core.specs.News.{hotlist_after, rows_after}
use Rattle.wc_core.specs.declared.core_hotlist.News.{News}
use Rattle.wc_hotlist.specs.declared.row.HotRow.{HotRow}
use Rattle.wc_core.specs.Inputs.{Makes, push_before, AnswersRequestOf}
use Rattle.wc_core.specs.Limits.{client_limit}
use Rattle.wc_core.specs.Step.{client_link, no_step, push_step, request_step, line_step, arrival_step}
use Rattle.wc_core.specs.Served.{AdmitsUnlessStarved, OutcomeUtf8, state_of}
use Rattle.wc_core.proofs.CoreLemmas.{news_after, came-surplus, starves-only, came, changes-some, some-change, outcome-text, line-missing, line-leaving, line-asked, MadeOn}
use Rattle.wc_core.proofs.DidLemmas.{KeepsClients-trans}
use Rattle.wc_core.proofs.PushLemmas.{IsPushedCore, push-done, keeps-touches, same-told}
use Rattle.wc_core.proofs.ReplyLemmas.{reply_fits}
use Rattle.wc_core.specs.Contained.{RanOutOfMemory, Counts, starving_number, Runs, RunsHere, beside_in, raised, RunsFor}
use Rattle.wc_core.proofs.RunLemmas.{Runs-stays, Runs-starved}
use Rattle.wc_core.proofs.CountLemmas.{counts-none, starving_more, AreDropped, counts-dropped, kept_less, raised-by, raised-none, kept_dropped}
use Rattle.wc_core.proofs.BoardStepLemmas.{by-both, by-one}

-- the core with this board and count
abbrev pub with_board : CoreView → BoardView → ℕ → CoreView
with_board core board starved = record core { world = board.world; pending = board.pending; connections = board.connections; starved = starved }

-- who was dropped is counted
abbrev pub Counted : CoreView → List Connection → ℕ → Type 0
Counted old connections n = (n ≡ raised old.starved (open_number old.connections - open_number connections)) × (old.starved ≤ n)

-- the count after these connections, where so many were open before
abbrev pub count_since : CoreView → List Connection → ℕ → ℕ
count_since old connections before = min (old.starved + (before - open_number connections)) (2 ^ 64 - 1)

pub counted-as : (old : CoreView) (connections : List Connection) (before : ℕ) → before ≡ open_number old.connections → old.starved ≤ count_since old connections before → Counted old connections (count_since old connections before)
counted-as old connections before same rises =
    let n = open_number old.connections - open_number connections in
    let e : count_since old connections before ≡ min (old.starved + n) (2 ^ 64 - 1) = ap (count_since old connections) same in
    let less : old.starved ≤ min (old.starved + n) (2 ^ 64 - 1) = omega (arith, e, rises) in
    (e ∙ raised-by old.starved n less, rises)

-- nobody was dropped
counted-none : (old : CoreView) (n : ℕ) → Counted old old.connections n → n ≡ old.starved
counted-none old n c = (let none : open_number old.connections - open_number old.connections ≡ 0 = omega arith in c.0 ∙ ap (raised old.starved) none)

-- ---- pushes

-- the board made its pushes
pushed-core : (old : CoreView) (between : BoardView) (n : ℕ) → IsPushed (board_of old) between → Counted old between.connections n → IsPushedCore old (with_board old between n)
pushed-core old between n is counted = record {
  board = is;
  stays = ap (λ (world : World). record old { world = world; pending = between.pending; connections = between.connections; starved = n }) is.world;
  kept = is.kept;
  rows = is.rows;
  rises = counted.1;
  counts = counts-dropped old (with_board old between n) dropped (let sum = are.sum in let less = are.less in omega (arith, sum, less)) counted.0 refl;
  all = λ below same told told_are.
      let ns = order old.world.groups in
      let push = pushed_connection old.world told ns in
      let none : dropped ≡ 0 = raised-none old.starved dropped below (sym counted.0 ∙ same) in
      let less = are.less in
      none_left ns push (all_is old.world told ns) old.connections between.connections (is.each told told_are) (omega (arith, none, less));
} where
  dropped : ℕ
  dropped = open_number old.connections - open_number between.connections

  are : AreDropped old.connections between.connections
  are = kept_dropped old.connections between.connections is.kept

pub push-by : (old : CoreView) (board : BoardView) (n : ℕ) → IsPushed (board_of old) board → Counted old board.connections n → Runs old (with_board old board n) push_step
push-by old board n is counted = push-done old (with_board old board n) (pushed-core old board n is counted)

-- what is pushed before a request
before-done : (old : CoreView) (between : BoardView) (n : ℕ) (client : Client) (request : Request) → PushedIf (client.logged_in && is_nicklist request.command) (board_of old) between → Counted old between.connections n → Runs old (with_board old between n) (λ state. push_before client request state)
before-done old between n client request pushed counted = by (client.logged_in && is_nicklist request.command) pushed where
  stays : Counted old old.connections n → Runs old (with_board old (board_of old) n) no_step
  stays c = let P : ℕ → Type 0 = λ m. Runs old (record old { starved = m }) no_step in subst P (sym (counted-none old n c)) (Runs-stays old)

  by : (b : Bool) → PushedIf b (board_of old) between → Runs old (with_board old between n) (λ state. cond b (push_step state) (no_step state))
  by true is = push-done old (with_board old between n) (pushed-core old between n is counted)
  by false same =
      let P : BoardView → Type 0 = λ b. Runs old (with_board old b n) no_step in
      let Q : BoardView → Type 0 = λ b. Counted old b.connections n in
      subst P (sym same) (stays (subst Q same counted))

-- clients are kept where something may be pushed
pushed-kept : (b : Bool) (old between : BoardView) → PushedIf b old between → ConnectionsKept old.connections between.connections
pushed-kept true old between is = is.kept
pushed-kept false old between same = let P : BoardView → Type 0 = λ b. ConnectionsKept old.connections b.connections in subst P (sym same) (ConnectionsKept-refl old.connections)

pushed-world : (b : Bool) (old between : BoardView) → PushedIf b old between → between.world ≡ old.world
pushed-world true old between is = is.world
pushed-world false old between same = ap (λ (b : BoardView). b.world) same

pushed-clients-same : (b : Bool) (old between : BoardView) → PushedIf b old between → map client_of between.connections ≡ map client_of old.connections
pushed-clients-same true old between is = is.clients
pushed-clients-same false old between same = ap (λ (b : BoardView). map client_of b.connections) same

abbrev client_in : Option Connection → Option Client
client_in None = None
client_in (Some connection) = Some (client_of connection)

at-clients : (k : ℕ) (connections : List Connection) → at_key client_link k (map client_of connections) ≡ client_in (at_key connection_link k connections)
at-clients k [] = refl
at-clients k (x ∷ connections) = by (eqb (connection_link x) k) (at-clients k connections) where
  by : (t : Bool) → at_key client_link k (map client_of connections) ≡ client_in (at_key connection_link k connections)
      → cond t (Some (client_of x)) (at_key client_link k (map client_of connections)) ≡ client_in (cond t (Some x) (at_key connection_link k connections))
  by true more = refl
  by false more = more

client-same : (k : ℕ) (old new : List Connection) (before now : Connection) → map client_of new ≡ map client_of old → at_key connection_link k old ≡ Some before → at_key connection_link k new ≡ Some now → client_of now ≡ client_of before
client-same k old new before now same was is =
    ap (λ o. unwrap_or o (client_of now)) (sym (ap client_in is) ∙ sym (at-clients k new) ∙ ap (at_key client_link k) same ∙ at-clients k old ∙ ap client_in was)

-- ---- the answer

answered-board : (k : ℕ) (context : Context) (request : Request) (result : Outcome) (old new : BoardView) (o : Option Connection) → AnsweredAt k context request result old new o → new ≡ record old { connections = new.connections }
answered-board k context request result old new None answered = answered.stays ∙ ap (λ (b : BoardView). record old { connections = b.connections }) (sym answered.stays)
answered-board k context request result old new (Some s) answered = by (is_open s) answered where
  by : (t : Bool) → AnsweredIf t k context request result old new s → new ≡ record old { connections = new.connections }
  by true answered = answered.put ∙ ap (λ (b : BoardView). record old { connections = b.connections }) (sym answered.put)
  by false answered = answered.stays ∙ ap (λ (b : BoardView). record old { connections = b.connections }) (sym answered.stays)

put-open : (k : ℕ) (s y : Connection) (connections : List Connection) → is_open y ≡ is_open s → at_key connection_link k connections ≡ Some s → open_number (put_at connection_link k y connections) ≡ open_number connections
put-open k s y [] same at = refl
put-open k s y (x ∷ connections) same at = by (eqb (connection_link x) k) (λ a. put-open k s y connections same a) at where
  by : (t : Bool) → (at_key connection_link k connections ≡ Some s → open_number (put_at connection_link k y connections) ≡ open_number connections) → cond t (Some x) (at_key connection_link k connections) ≡ Some s
      → open_number (cond t (y ∷ connections) (x ∷ put_at connection_link k y connections)) ≡ open_number (x ∷ connections)
  by true more a =
      let here : x ≡ s = ap (λ o. unwrap_or o x) a in
      number_more y connections (is_open x) (same ∙ sym (ap is_open here)) ∙ sym (number_more x connections (is_open x) refl)
  by false more a =
      number_more x (put_at connection_link k y connections) (is_open x) refl ∙ ap (λ n. cond (is_open x) (suc n) n) (more a) ∙ sym (number_more x connections (is_open x) refl)

answered-open : (k : ℕ) (context : Context) (request : Request) (result : Outcome) (old new : BoardView) (o : Option Connection) → at_key connection_link k old.connections ≡ o → AnsweredAt k context request result old new o → open_number new.connections ≡ open_number old.connections
answered-open k context request result old new None at answered = ap (λ (b : BoardView). open_number b.connections) answered.stays
answered-open k context request result old new (Some s) at answered = by (is_open s) answered where
  by : (t : Bool) → AnsweredIf t k context request result old new s → open_number new.connections ≡ open_number old.connections
  by true answered = ap (λ (b : BoardView). open_number b.connections) answered.put ∙ put-open k s (record s { session = answered.session }) old.connections refl at
  by false answered = ap (λ (b : BoardView). open_number b.connections) answered.stays

-- a request is answered after what is pushed before it
pub answers : (old : CoreView) (board : BoardView) (n k : ℕ) (request : Request) (result : Outcome) → AnswersAfterPushes k (context_in old) request result (board_of old) board → Counted old board.connections n → AnswersRequestOf k request result old (with_board old board n)
answers old board n k request result is counted = record {
  between = with_board old between n;
  pushed = by (at_key connection_link k old.connections) is.pushed;
  uncut = refl;
  dropped = open_number old.connections - open_number between.connections;
  left = (let sum = are.sum in let less = are.less in omega (arith, sum, less));
  counted = now.0;
  asker = λ opened shut. (let less = kept_less k old.connections between.connections kept opened shut in omega (arith, less));
  same = λ before now was here sits. client-same k old.connections between.connections before now (pushed-clients-same pushes (board_of old) between is.pushed) was here;
  world = pushed-world pushes (board_of old) between is.pushed;
  context = refl;
  answered = ap (λ (b : BoardView). with_board old b n) (answered-board k (context_in old) request result between board (at_key connection_link k between.connections) is.answered);
  board = is.answered;
} where
  between : BoardView
  between = is.between

  pushes : Bool
  pushes = pushes_before (at_key connection_link k old.connections) request.command

  opened : open_number board.connections ≡ open_number between.connections
  opened = answered-open k (context_in old) request result between board (at_key connection_link k between.connections) refl is.answered

  now : Counted old between.connections n
  now = (let P : ℕ → Type 0 = λ m. (n ≡ raised old.starved (open_number old.connections - m)) × (old.starved ≤ n) in subst P opened counted)

  kept : ConnectionsKept old.connections between.connections
  kept = pushed-kept pushes (board_of old) between is.pushed

  are : AreDropped old.connections between.connections
  are = kept_dropped old.connections between.connections kept

  by : (o : Option Connection) → PushedIf (pushes_before o request.command) (board_of old) between → IfSome o (λ connection. Runs old (with_board old between n) (λ state. push_before connection.session.client request state))
  by None pushed = tt
  by (Some s) pushed = before-done old between n s.session.client request pushed now

-- ---- who asked

none-open : is_open_at None ≡ true → ⊥
none-open e = false≢true e

open-answered : (k : ℕ) (context : Context) (request : Request) (result : Outcome) (between new : BoardView) (o : Option Connection) → at_key connection_link k between.connections ≡ o → RequestIsUtf8 request → AnsweredAt k context request result between new o
    → OnServed result (is_open_at (at_key connection_link k new.connections) ≡ true)
open-answered k context request result between new None at utf8 answered = let P : Outcome → Type 0 = λ r. OnServed r (is_open_at (at_key connection_link k new.connections) ≡ true) in subst P (sym answered.starves) tt
open-answered k context request result between new (Some s) at utf8 answered = by (is_open s) refl answered where
  by : (t : Bool) → is_open s ≡ t → AnsweredIf t k context request result between new s → OnServed result (is_open_at (at_key connection_link k new.connections) ≡ true)
  by false sits answered = let P : Outcome → Type 0 = λ r. OnServed r (is_open_at (at_key connection_link k new.connections) ≡ true) in subst P (sym answered.starves) tt
  by true sits answered = of result answered.answered where
    put : new.connections ≡ put_at connection_link k (record s { session = answered.session }) between.connections
    put = ap (λ (b : BoardView). b.connections) answered.put

    opens : answered.session.client.link ≡ s.session.client.link → is_open_at (at_key connection_link k new.connections) ≡ true
    opens same =
        let key : client_link answered.session.client ≡ k = ap (λ (l : LinkId). l.0) same ∙ at_key-key connection_link k between.connections s at in
        ap (λ connections. is_open_at (at_key connection_link k connections)) put ∙ ap is_open_at (at_key-put_same connection_link k s (record s { session = answered.session }) between.connections key at) ∙ sits

    link : (r : Outcome) → AnswersRequest s.session answered.session r (reply_of between.world context s.session.client request) → answered.session.client.link ≡ s.session.client.link
    link r a = ap (λ (c : Client). c.link) a.client ∙ (reply_fits between.world context s.session.client request utf8).link

    of : (r : Outcome) → OnServed r (AnswersRequest s.session answered.session r (reply_of between.world context s.session.client request)) → OnServed r (is_open_at (at_key connection_link k new.connections) ≡ true)
    of outcome.Replied a = opens (link outcome.Replied a)
    of outcome.Silent a = opens (link outcome.Silent a)
    of (outcome.Input buffer text) a = opens (link (outcome.Input buffer text) a)
    of (outcome.Leave why) a = opens (link (outcome.Leave why) a)
    of outcome.NoMemory a = tt

text-answered : (k : ℕ) (context : Context) (request : Request) (result : Outcome) (between new : BoardView) (o : Option Connection) → RequestIsUtf8 request → AnsweredAt k context request result between new o → OutcomeUtf8 result
text-answered k context request result between new None utf8 answered = subst OutcomeUtf8 (sym answered.starves) tt
text-answered k context request result between new (Some s) utf8 answered = by (is_open s) answered where
  by : (t : Bool) → AnsweredIf t k context request result between new s → OutcomeUtf8 result
  by false answered = subst OutcomeUtf8 (sym answered.starves) tt
  by true answered = outcome-text between.world context s.session.client request s.session answered.session result utf8 answered.answered

-- who asked is open after the answer, unless it found no memory
pub asked-open : (k : ℕ) (request : Request) (result : Outcome) (old new : CoreView) → RequestIsUtf8 request → AnswersRequestOf k request result old new → OnServed result (is_open_at (at_key connection_link k new.connections) ≡ true)
asked-open k request result old new utf8 is = open-answered k (context_in old) request result (board_of is.between) (board_of new) (at_key connection_link k is.between.connections) refl utf8 is.board

-- what it asked to be typed is text
pub asked-text : (k : ℕ) (request : Request) (result : Outcome) (old new : CoreView) → RequestIsUtf8 request → AnswersRequestOf k request result old new → OutcomeUtf8 result
asked-text k request result old new utf8 is = text-answered k (context_in old) request result (board_of is.between) (board_of new) (at_key connection_link k is.between.connections) utf8 is.board

-- ---- lines

-- the line of a client that is not open, or not there
pub line-shut : (old : CoreView) (k : ℕ) (line : List ℕ) → is_open_at (at_key connection_link k old.connections) ≡ false → RunsHere k old old (λ state. line_step state line (at_key client_link k state.clients))
line-shut old k line shut = by (at_key connection_link k old.connections) refl shut where
  by : (o : Option Connection) → at_key connection_link k old.connections ≡ o → is_open_at o ≡ false → RunsHere k old old (λ state. line_step state line (at_key client_link k state.clients))
  by None at shut = line-missing old k line at
  by (Some s) at shut = line-leaving old k line s at shut

-- the line of an open client, whose request was served
pub line-served : (old new : CoreView) (k : ℕ) (line : List ℕ) (session : Known) (request : Option Request) → session_at (at_key connection_link k old.connections) ≡ Some session → is_open_at (at_key connection_link k old.connections) ≡ true → request ≡ request_of session.client.escaped line
    → IfSome (at_key connection_link k old.connections) (λ connection. RunsFor (Some k) old new (λ state. request_step state connection.session.client request)) → RunsHere k old new (λ state. line_step state line (at_key client_link k state.clients))
line-served old new k line session request there sits e done = by (at_key connection_link k old.connections) refl there sits done where
  by : (o : Option Connection) → at_key connection_link k old.connections ≡ o → session_at o ≡ Some session → is_open_at o ≡ true → IfSome o (λ connection. RunsFor (Some k) old new (λ state. request_step state connection.session.client request)) → RunsHere k old new (λ state. line_step state line (at_key client_link k state.clients))
  by None at there sits done = absurd (none-open sits)
  by (Some s) at there sits done =
      let same : s.session ≡ session = ap (λ o. unwrap_or o session) there in
      line-asked old new k line s request at sits (e ∙ ap (λ (known : Known). request_of known.client.escaped line) (sym same)) done

-- a line that is no request
pub line-passed : (k : ℕ) (old : CoreView) (o : Option Connection) → IfSome o (λ connection. RunsFor (Some k) old old (λ state. request_step state connection.session.client None))
line-passed k old None = tt
line-passed k old (Some s) = Runs-stays old

-- ---- by what the calls of the board say

more : (old : CoreView) (board : BoardView) (new : CoreView) (before : ℕ) → new ≡ record (with_board old board old.starved) { starved = count_since old board.connections before } → old.starved ≤ new.starved → old.starved ≤ count_since old board.connections before
more old board new before e rises = (let same = ap (λ (c : CoreView). c.starved) e in omega (arith, same, rises))

-- after a request
pub answers-counted : (old : CoreView) (board : BoardView) (new : CoreView) (before k : ℕ) (request : Request) (result : Outcome) → AnswersAfterPushes k (context_in old) request result (board_of old) board → new ≡ record (with_board old board old.starved) { starved = count_since old board.connections before }
    → before ≡ open_number old.connections → old.starved ≤ new.starved → AnswersRequestOf k request result old new
answers-counted old board new before k request result is e same rises =
    let P : CoreView → Type 0 = λ new. AnswersRequestOf k request result old new in
    subst P (sym e) (answers old board (count_since old board.connections before) k request result is (counted-as old board.connections before same (more old board new before e rises)))

-- as many are open after a request as before at most
pub answers-open : (old board : BoardView) (k : ℕ) (context : Context) (request : Request) (result : Outcome) → AnswersAfterPushes k context request result old board → open_number board.connections ≤ open_number old.connections
answers-open old board k context request result is =
    let opened = answered-open k context request result is.between board (at_key connection_link k is.between.connections) refl is.answered in
    let less = (kept_dropped old.connections is.between.connections (pushed-kept (pushes_before (at_key connection_link k old.connections) request.command) old is.between is.pushed)).less in
    omega (arith, opened, less)

-- after pushes
pub push-counted : (old : CoreView) (board : BoardView) (new : CoreView) (before : ℕ) → IsPushed (board_of old) board → new ≡ record (with_board old board old.starved) { starved = count_since old board.connections before } → before ≡ open_number old.connections → old.starved ≤ new.starved
    → Runs old new push_step
push-counted old board new before is e same rises =
    let P : CoreView → Type 0 = λ new. Runs old new push_step in
    subst P (sym e) (push-by old board (count_since old board.connections before) is (counted-as old board.connections before same (more old board new before e rises)))

pub came-by : (told : Beside) (old : CoreView) (board : BoardView) (servers : ServersView) (link : LinkId) (nonce : List ℕ) → length (filter (λ connection. is_open connection) old.connections) < client_limit old.options → servers ≡ used_up link.0 old.servers
    → board ≡ record (board_of old) { connections = old.connections ++ new_connection link nonce ∷ [] } → AdmitsUnlessStarved told link.0 old (with_board (record old { servers = servers }) board old.starved) None (arrival_step (state_of old told) link.0 nonce)
came-by told old board servers link nonce few used e =
    let P : BoardView → Type 0 = λ b. AdmitsUnlessStarved told link.0 old (with_board (record old { servers = servers }) b old.starved) None (arrival_step (state_of old told) link.0 nonce) in
    let came_to = record (board_of old) { connections = old.connections ++ new_connection link nonce ∷ [] } in
    let Q : ServersView → Type 0 = λ servers. AdmitsUnlessStarved told link.0 old (with_board (record old { servers = servers }) came_to old.starved) None (arrival_step (state_of old told) link.0 nonce) in
    subst P (sym e) (subst Q (sym used) (came told old link nonce few))

pub surplus-by : (told : Beside) (old : CoreView) (servers : ServersView) (link : LinkId) (nonce : List ℕ) → client_limit old.options ≤ length (filter (λ connection. is_open connection) old.connections) → servers ≡ used_up link.0 old.servers
    → AdmitsUnlessStarved told link.0 old (record old { servers = servers }) (Some Surplus) (arrival_step (state_of old told) link.0 nonce)
surplus-by told old servers link nonce full used =
    let Q : ServersView → Type 0 = λ servers. AdmitsUnlessStarved told link.0 old (record old { servers = servers }) (Some Surplus) (arrival_step (state_of old told) link.0 nonce) in
    subst Q (sym used) (came-surplus told old link nonce full)

-- the hotlist heeds what was read of a change
heeded : (old mid new : CoreView) (k : ℕ) (news : News) (change : Change) → mid ≡ record old { starved = k } → new ≡ record mid { hotlist = rows_after mid.hotlist news } → ((rows : List HotRow) → rows_after rows news ≡ hotlist_after rows change.buffer change.what)
    → new ≡ record old { hotlist = news_after old change; starved = k }
heeded old mid new k news change counts heeds reads =
    heeds ∙ ap (λ (core : CoreView). record core { hotlist = rows_after core.hotlist news }) counts ∙ ap (λ rows. record old { hotlist = rows; starved = k }) (reads old.hotlist)

pub changed-some : (old : CoreView) (board : BoardView) (mid new : CoreView) (before : ℕ) (change : Change) (news : News) (notice : Notice) → MadeOn old board.world board.pending change notice → NoticeServed board.world notice old.connections board.connections
    → mid ≡ record (with_board old board old.starved) { starved = count_since old board.connections before } → before ≡ open_number old.connections → old.starved ≤ mid.starved
    → ((rows : List HotRow) → rows_after rows news ≡ hotlist_after rows change.buffer change.what) → new ≡ record mid { hotlist = rows_after mid.hotlist news } → Makes old change new
changed-some old board mid new before change news notice made served e same rises reads heeds =
    let k = count_since old board.connections before in
    let c = counted-as old board.connections before same (more old board mid before e rises) in
    changes-some old new board.world board.pending board.connections k change notice made served (heeded (with_board old board old.starved) mid new k news change e heeds reads) c.0 c.1

-- the core with a board of which what was touched alone is another
idle-by : (old : CoreView) (board : BoardView) → board.world ≡ old.world → board.connections ≡ old.connections → with_board old board old.starved ≡ record old { pending = board.pending }
idle-by old board world connections =
    ap (λ (w : World). record old { world = w; pending = board.pending; connections = board.connections }) world ∙ ap (λ (all : List Connection). record old { pending = board.pending; connections = all }) connections

-- no change is made, for want of memory
unchanged-starves : (old : CoreView) (board : BoardView) (new : CoreView) → IsUnchanged (board_of old) board → new ≡ record (with_board old board old.starved) { starved = min (old.starved + 1) (2 ^ 64 - 1); cuts = min (old.cuts + 1) (2 ^ 64 - 1) } → old.starved ≤ new.starved → RanOutOfMemory old new
unchanged-starves old board new stays counts rises =
    let mid : CoreView = record old { pending = board.pending } in
    let same : with_board old board old.starved ≡ mid = idle-by old board stays.world stays.connections in
    let starves = starves-only mid new (counts ∙ ap (λ (core : CoreView). record core { starved = min (old.starved + 1) (2 ^ 64 - 1); cuts = min (old.cuts + 1) (2 ^ 64 - 1) }) same) rises in
    record {
      keeps = KeepsClients-trans old mid new (keeps-touches old board.pending stays.touches) starves.keeps;
      board = by-both (board_of old) (board_of mid) (board_of new) (by-one (board_of old) (board_of mid) (Keeps (record { same = stays.touches; put = refl })) tt) starves.board;
      counts = record { dropped = starves.counts.dropped; short = starves.counts.short; own = starves.counts.own; lost = starves.counts.lost; leaving = starves.counts.leaving; counted = starves.counts.counted; cuts = starves.counts.cuts };
      causes = starves.causes;
      counted = starves.counted;
      cut = starves.cut;
      quits = starves.quits;
      servers = starves.servers;
      holds = λ told were. (let h = starves.holds told (same-told old board.pending (beside_in told) stays.touches were) in record { same = h.same; told = h.told });
    }

pub changed-none : (old : CoreView) (board : BoardView) (new : CoreView) (change : Change) → IsUnchanged (board_of old) board → new ≡ record (with_board old board old.starved) { starved = min (old.starved + 1) (2 ^ 64 - 1); cuts = min (old.cuts + 1) (2 ^ 64 - 1) } → old.starved ≤ new.starved → Makes old change new
changed-none old board new change stays counts rises = inr (unchanged-starves old board new stays counts rises)

-- flags were changed, and the filters taken that ask for it
pub refilters-some : (old : CoreView) (board : BoardView) (mid new : CoreView) (before : ℕ) (flips : List Flip) (filters : List Filter) (notice : Notice) → MadeOn old board.world board.pending (flips_change flips) notice → NoticeServed board.world notice old.connections board.connections
    → mid ≡ record (with_board old board old.starved) { starved = count_since old board.connections before } → before ≡ open_number old.connections → old.starved ≤ mid.starved → new ≡ record mid { filters = filters } → Runs old new (λ state. made_step (with_filters state filters) (flips_change flips))
unfolding hotlist_after
refilters-some old board mid new before flips filters notice made served e same rises takes =
    let k = count_since old board.connections before in
    let c = counted-as old board.connections before same (more old board mid before e rises) in
    let P : CoreView → Type 0 = λ core. Runs old core (λ state. made_step (with_filters state filters) (flips_change flips)) in
    subst P (sym (takes ∙ ap (λ (core : CoreView). record core { filters = filters }) e)) (some-change old filters board.world board.pending board.connections k (flips_change flips) notice made served c.0 c.1)

-- no flag is changed, for want of memory
pub refilters-none : (old : CoreView) (board : BoardView) (new : CoreView) (step : State → Stepped) → IsUnchanged (board_of old) board → new ≡ record (with_board old board old.starved) { starved = min (old.starved + 1) (2 ^ 64 - 1); cuts = min (old.cuts + 1) (2 ^ 64 - 1) } → old.starved ≤ new.starved → Runs old new step
refilters-none old board new step stays counts rises = Runs-starved old new step (unchanged-starves old board new stays counts rises)

-- nobody is dropped as a client comes
pub came-counts : (old : CoreView) (board : BoardView) (servers : ServersView) (link : LinkId) (nonce : List ℕ) → board ≡ record (board_of old) { connections = old.connections ++ new_connection link nonce ∷ [] } → Counts 0 old (with_board (record old { servers = servers }) board old.starved)
came-counts old board servers link nonce e =
    counts-none old (with_board (record old { servers = servers }) board old.starved) (ap (λ (b : BoardView). starving_number b.connections) e ∙ starving_more old.connections (new_connection link nonce) refl) refl refl

-- what holds where a call did not fail
pub on_ok : {A E : Type 0} (r : Result A E) (P : Type 0) → is_err r ≡ false → OnOk r P → P
on_ok (Ok v) P e h = h
on_ok (Err f) P e h = absurd (false≢true (sym e))

pub not_not : (b : Bool) → not b ≡ false → b ≡ true
not_not true e = refl
not_not false e = absurd (false≢true (sym e))

-- the core after pushes of nothing, of which nobody was dropped
pub idle-counted : (old : CoreView) (board : BoardView) (new : CoreView) (before : ℕ) → ((buffer : Handle) → touches_of buffer old.pending ≡ []) → board.world ≡ old.world → board.connections ≡ old.connections → new ≡ record (with_board old board old.starved) { starved = count_since old board.connections before } → before ≡ open_number old.connections
    → old.starved ≤ new.starved → new ≡ record old { pending = new.pending }
idle-counted old board new before none world connections e same rises =
    let c = counted-as old board.connections before same (more old board new before e rises) in
    let stayed : count_since old board.connections before ≡ old.starved =
    c.0 ∙ (let P : List Connection → Type 0 = λ all. raised old.starved (open_number old.connections - open_number all) ≡ old.starved in subst P (sym connections) (stays old)) in
    let is : new ≡ record old { pending = board.pending } = e ∙ ap (λ (n : ℕ). record (with_board old board old.starved) { starved = n }) stayed ∙ idle-by old board world connections in
    is ∙ ap (λ (pending : List OfBuffer). record old { pending = pending }) (sym (ap (λ (c : CoreView). c.pending) is))
  where
    stays : (old : CoreView) → raised old.starved (open_number old.connections - open_number old.connections) ≡ old.starved
    stays old = (let none : open_number old.connections - open_number old.connections ≡ 0 = omega arith in ap (raised old.starved) none)
