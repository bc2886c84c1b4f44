-- What each of the core's calls does.
use Rattle.std.proofs.Common.{◌≡◌, cond, ◌&&◌, ◌||◌, ◌⊎◌, ℕ, ◌+◌, ◌-◌, ◌^◌, ◌<◌, ◌≤◌, true, false, List, [], ◌∷◌, ◌++◌, length, inl, inr, Option, Some, None, Bool, max, not, nat_eq, ◌≢◌, refl, ap, sym, subst, ◌∙◌, arith, nat_lt, min, filter, IfSome}
use Rattle.std.specs.Prelude.{map}
use Rattle.std.proofs.lemmas.Bool.{false≢true}
use Rattle.std.proofs.lemmas.Bool.Decides.{nat_tests}
use Rattle.wc_text.specs.declared.names.Cause.{Cause}
use Rattle.wc_text.specs.declared.names.Cause.TheVariants.{Surplus, NoMemory}
use Rattle.wc_text.specs.declared.names.LinkId.{LinkId}
use Rattle.wc_outside.specs.Keyed.{at_key, put_at}
use Rattle.wc_outside.proofs.KeyedLemmas.{at_key-key, put_at-same}
use Rattle.wc_relaycmd.specs.declared.request.Request.{Request}
use Rattle.wc_relaycmd.specs.Answers.{request_of}
use Rattle.wc_relaycmd.specs.Utf8.{RequestIsUtf8}
use Rattle.wc_session.specs.declared.client.Client.{Client}
use Rattle.wc_session.specs.declared.outcome.Outcome.{Outcome}
use Rattle.wc_session.specs.declared.outcome.Outcome.TheVariants as outcome
use Rattle.wc_session.specs.Known.{Known, new_session, new_client}
use Rattle.wc_session.specs.Reply.{Answer, reply_of}
use Rattle.wc_session.specs.Served.{OnServed, OnNoMemory, AnswersRequest}
use Rattle.wc_board.specs.declared.connection.Connection.{Connection}
use Rattle.wc_core.specs.CoreView.{CoreView}
use Rattle.wc_core.specs.Contexts.{context_in, context_of}
use Rattle.wc_core.specs.BoardSteps.{board_of, BoardStep, AnswersClient, Answers, Loses, Tells, IsBy, StepsBy}
use Rattle.wc_core.proofs.BoardStepLemmas.{steps-one, by-same, by-one, by-both}
use Rattle.wc_text.specs.declared.names.Handle.{Handle}
use Rattle.wc_model.specs.declared.change.Change.{Change}
use Rattle.wc_model.specs.declared.notice.Notice.{Notice}
use Rattle.wc_model.specs.declared.refused.ChangeRefused.{ChangeRefused}
use Rattle.wc_model.specs.World.{World}
use Rattle.wc_model.specs.Apply.{refusal, after}
use Rattle.wc_model.specs.Notices.{Accepted}
use Rattle.wc_model.specs.Touches.{told_after}
use Rattle.wc_nickdiff.specs.Held.{OfBuffer}
use Rattle.wc_session.specs.RequestContext.{Context}
use Rattle.wc_core.specs.News.{hotlist_after}
use Rattle.wc_core.specs.Typed.{TypedCommand}
use Rattle.wc_filters.specs.declared.filter.Filter.{Filter}
use Rattle.wc_hotlist.specs.declared.row.HotRow.{HotRow}
use Rattle.wc_core.specs.Resolved.{Effect, effect_of, refusal_text, told_refusal}
use Rattle.wc_core.specs.Fitted.{fitted}
use Rattle.wc_core.specs.Inputs.{Makes, MakesChange, RefusesChange, push_before, AnswersRequestOf}
use Rattle.wc_core.specs.Limits.{client_limit}
use Rattle.wc_core.specs.State.{State, Act, Stepped, Closes, has_end, outs_of}
use Rattle.wc_core.specs.Step.{client_link, no_step, then_does, push_step, reply_step, sends, tell_all_step, made_step, change_step_if, refusal_step, ask_step_if, ask_step, effect_step, typed_step, leave_step, arrival_step, outcome_step, answer_step, request_step, line_step}
use Rattle.wc_board.specs.Connections.{connection_link, is_open, is_open_at, leaving_on, left_if, left_at}
use Rattle.wc_core.specs.Served.{clients_of, WereTold, close_of, LeavesBy, AdmitsUnlessStarved, OutcomeUtf8, plain_beside, Follows, KeepsClients, or_else, state_of}
use Rattle.wc_board.specs.Served.{StaysOrStarves, told_connection, NoticeServed, ConnectionsKept}
use Rattle.wc_board.specs.Answered.{is_nicklist, AnsweredIf, AnsweredAt}
use Rattle.wc_board.specs.BoardView.{BoardView, NoStrayTouches}
use Rattle.wc_board.specs.Told.{told_of, AreTold, AreTouched}
use Rattle.wc_board.specs.Told.{Told}
use Rattle.wc_core.specs.State.{Beside, beside}
use Rattle.wc_board.proofs.TellLaw.{change_keeps_told}
use Rattle.wc_buffers.specs.Kept.{AreBuffers}
use Rattle.wc_core.proofs.CloseLemmas.{reply-later, pushes-closes, answer-closes-same}
use Rattle.wc_servers.specs.Outs.{ServersFollow}
use Rattle.wc_servers.specs.Seats.{ServersView, used_up}
use Rattle.wc_core.proofs.ComeLemmas.{ServersKeep-refl}
use Rattle.wc_core.proofs.DidLemmas.{servers-same, ClosesLater, leaves-none, Follows-stays, KeepsClients-refl, KeepsClients-trans, KeepsClients-connections, saves-as, no-outs, or-false}
use Rattle.wc_core.proofs.ConnectionLemmas.{open-length, clients-push, links-push, unsent-push, leaving-push, kept-push, client-open, client-missing, client-leaving, end-sends, end-told, outs-sends, outs-told}
use Rattle.wc_board.proofs.ConnectionLemmas.{ConnectionsKept-causes}
use Rattle.wc_board.proofs.PushEach.{open_number}
use Rattle.wc_servers.proofs.OutLemmas.{ServersFollow-refl}
use Rattle.wc_board.proofs.PartLemmas.{notice_map, notice_kept}
use Rattle.wc_core.proofs.ServeLemmas.{open_none, told_to_all, told-left, Follows-told, KeepsClients-told, with_rows, with_news, KeepsClients-put, reply-left, Follows-reply, leave-left, Follows-leave}
use Rattle.wc_core.proofs.ReplyLemmas.{reply_fits}
use Rattle.wc_core.proofs.PushLemmas.{Runs-over}
use Rattle.wc_core.specs.Contained.{Rest, state_with, first_stage, last_stage, RunsBy, RunsAt, RunsFor, Runs, RanOutOfMemory, RanOutFor, Counts, Holds, IsDone, LosesAsker, LosesAskerIf, RunsHere, beside_in, want_number, rest_in, starving_number, raised, starved_by}
use Rattle.wc_eval.specs.Verdicts.{Agrees, VerdictsView}
use Rattle.wc_core.specs.Changing.{put_step, reach_step, way_after, with_filters}
use Rattle.wc_core.proofs.RunLemmas.{IsOn-first, Runs-starved, Runs-stays, RunsAt-exact, RunsAt-then, contained-none, RunsAt-starved, RunsBy-any, or-more}
use Rattle.wc_core.proofs.CountLemmas.{AreDropped, Counts-refl, counts-dropped, counts-none, counts-short, kept_dropped, raised-none, served_none, starved_by-raised, starving_put, told_starving, counts-after-drops}
use Rattle.wc_core.proofs.ChainLemmas.{stays-by, ends-then}

-- ---- want of memory

-- nothing went out
unsaid : (old new : CoreView) → new.servers ≡ old.servers → ServersFollow old.servers new.servers []
unsaid old new e = let P : ServersView → Type 0 = λ v. ServersFollow old.servers v [] in subst P (sym e) (ServersFollow-refl old.servers)

-- want of memory alone
pub starves-only : (old new : CoreView) → new ≡ record old { starved = min (old.starved + 1) (2 ^ 64 - 1); cuts = min (old.cuts + 1) (2 ^ 64 - 1) } → old.starved ≤ new.starved → RanOutOfMemory old new
starves-only old new e rises =
    let after : CoreView = record old { starved = min (old.starved + 1) (2 ^ 64 - 1); cuts = min (old.cuts + 1) (2 ^ 64 - 1) } in
    let count : new.starved ≡ min (old.starved + 1) (2 ^ 64 - 1) = ap (λ (c : CoreView). c.starved) e in
    let cuts : new.cuts ≡ min (old.cuts + 1) (2 ^ 64 - 1) = ap (λ (c : CoreView). c.cuts) e in
    record {
      keeps = KeepsClients-connections old new (ap board_of e) rises (saves-as old new after e refl refl) (servers-same old new (ap (λ (c : CoreView). c.servers) e)) (ap (λ (c : CoreView). c.verdicts) e);
      board = by-same (board_of old) (board_of new) (ap board_of e);
      counts = counts-short old new (ap (λ (c : CoreView). starving_number c.connections) e) count cuts;
      causes = λ distinct j. inl (ap (λ (c : CoreView). leaving_on j c.connections) e);
      counted = λ below. omega arith;
      cut = λ below. omega (arith, cuts, below);
      holds = λ told were. (let P : CoreView → Type 0 = λ c. Holds c (state_with old told) in subst P (sym e) (record { same = refl; told = were }));
      quits = ap (λ (c : CoreView). c.quits) e ∙ sym (or-false old.quits);
      servers = unsaid old new (ap (λ (c : CoreView). c.servers) e);
    }

pub starved_only : (old new : CoreView) (step : State → Stepped) → new ≡ record old { starved = min (old.starved + 1) (2 ^ 64 - 1); cuts = min (old.cuts + 1) (2 ^ 64 - 1) } → old.starved ≤ new.starved → Runs old new step
starved_only old new step e rises = Runs-starved old new step (starves-only old new e rises)

-- the same of whatever would have been done
pub starves-as : (old new : CoreView) → new ≡ record old { starved = min (old.starved + 1) (2 ^ 64 - 1); cuts = min (old.cuts + 1) (2 ^ 64 - 1) } → old.starved ≤ new.starved → (told : Rest) (stepped : Stepped) → RunsAt told old new stepped
starves-as old new e rises told stepped = RunsAt-starved told old new stepped (starves-only old new e rises)

-- ---- notices

-- what is told is done, whoever is dropped meanwhile
told-done : (told : Rest) (told' : Told) (old : CoreView) (rows : List HotRow) (filters : List Filter) (world : World) (pending : List OfBuffer) (connections : List Connection) (starved : ℕ) (n : Notice) → AreTold world pending (told_of told')
    → IsDone told old (record old { world = world; pending = pending; connections = connections; hotlist = rows; filters = filters; starved = starved }) (tell_all_step (with_news (state_with old told) rows filters) told' world n)
told-done told told' old rows filters world pending connections starved n were =
    let new : CoreView = record old { world = world; pending = pending; connections = connections; hotlist = rows; filters = filters; starved = starved } in
    record {
      holds = record { same = refl; told = were };
      is_on = inr refl;
      oracle = refl;
      quits = sym (ap (λ t. old.quits || t) (end-told world n told.clients) ∙ or-false old.quits);
      servers = no-outs old new (tell_all_step (with_news (state_with old told) rows filters) told' world n).acts refl (outs-told world n told.clients);
    }

told-all : (told : Rest) (told' : Told) (old : CoreView) (rows : List HotRow) (filters : List Filter) (world : World) (pending : List OfBuffer) (n : Notice) → BoardStep (board_of old) (board_of (told_to_all old world pending n)) → StepsBy None (board_of old) (board_of (told_to_all old world pending n)) → (WereTold old (beside_in told) → AreTold world pending (told_of told'))
    → RunsAt told old (told_to_all (with_rows old rows filters) world pending n) (tell_all_step (with_news (state_with old told) rows filters) told' world n)
told-all told told' old rows filters world pending n step board were =
    let new : CoreView = told_to_all (with_rows old rows filters) world pending n in
    let of : List Client → Stepped = λ clients. tell_all_step (record (with_news (state_with old told) rows filters) { clients = clients }) told' world n in
    RunsAt-exact told old new of
    (KeepsClients-told old new (steps-one (board_of old) (board_of new) step) (notice_kept world n old.connections (map (told_connection world n) old.connections) (notice_map world n old.connections)) (omega arith) (inl (refl, refl)) (ServersKeep-refl old.servers) refl)
    board
    (counts-none old new (told_starving world n old.connections) refl refl)
    (λ distinct. told-left (beside_in told) told' old world n) (λ distinct before. Follows-told (beside_in told) told' old rows filters world pending n distinct (were before))
    (λ distinct before. told-done told told' old rows filters world pending (map (told_connection world n) old.connections) old.starved n (were before))

-- the rows that were told after a change
abbrev rows_after : CoreView → Change → Rest → Told
rows_after old change told = told_after old.world change.buffer change.what told.rows

-- the hotlist after a change
abbrev pub news_after : CoreView → Change → List HotRow
news_after old change = hotlist_after old.hotlist change.buffer change.what

-- what a board says of a change that it made
pub record MadeOn (old : CoreView) (world : World) (pending : List OfBuffer) (change : Change) (n : Notice) : Type 0 where
  pub accepted : Accepted old.world change world n
  pub touched : AreTouched old.world change old.pending pending
  pub are : AreBuffers world.groups
  pub stray : NoStrayTouches old.world old.pending

were_after : (old : CoreView) (world : World) (pending : List OfBuffer) (change : Change) (n : Notice) → MadeOn old world pending change n → (told : Rest) → WereTold old (beside_in told) → AreTold world pending (told_of (rows_after old change told))
were_after old world pending change n made told before =
    let P : World → Type 0 = λ w. AreTold w pending (told_of (rows_after old change told)) in
    let Q : World → Type 0 = λ w. AreBuffers w.groups in
    subst P (sym made.accepted.after) (change_keeps_told old.world change old.pending pending told.rows made.accepted.accepted (subst Q made.accepted.after made.are) made.stray made.touched before)

-- the step of a change by what its notice says
abbrev noted_step : CoreView → List Filter → Change → Rest → World → Notice → Stepped
noted_step old filters change told world n = tell_all_step (with_news (state_with old told) (news_after old change) filters) (rows_after old change told) world n

-- what is so of the notice that was told is so of the change
as_change : (P : Stepped → Type 0) (old : CoreView) (filters : List Filter) (world : World) (change : Change) (n : Notice) (told : Rest) → Accepted old.world change world n → P (noted_step old filters change told world n) → P (made_step (with_filters (state_with old told) filters) change)
as_change P old filters world change n told accepted is =
    let Q : World → Type 0 = λ w. P (noted_step old filters change told w n) in
    let R : Notice → Type 0 = λ n. P (noted_step old filters change told (after old.world change) n) in
    subst R accepted.notice (subst Q accepted.after is)

-- the board made a change, and told it to all whom its notice is for
told-change : (old : CoreView) (filters : List Filter) (world : World) (pending : List OfBuffer) (change : Change) (n : Notice) → MadeOn old world pending change n → Runs old (told_to_all (with_rows old (news_after old change) filters) world pending n) (λ state. made_step (with_filters state filters) change)
told-change old filters world pending change n made = λ told.
    let new : CoreView = told_to_all (with_rows old (news_after old change) filters) world pending n in
    let step : BoardStep (board_of old) (board_of new) =
    Tells (record { change = change; notice = n; accepted = made.accepted; touched = made.touched; each = notice_map world n old.connections }) in
    as_change (λ stepped. RunsAt told old new stepped) old filters world change n told made.accepted (told-all told (rows_after old change told) old (news_after old change) filters world pending n step (by-one (board_of old) (board_of new) step tt) (were_after old world pending change n made told))

-- the core after a change that was made and told, and that the hotlist heeds
abbrev pub changed_core : CoreView → List Filter → Change → World → List OfBuffer → List Connection → ℕ → CoreView
changed_core old filters change world pending connections k = record old { world = world; pending = pending; connections = connections; hotlist = news_after old change; filters = filters; starved = k }

-- some may have found no memory for it, each of whom is counted
pub some-change : (old : CoreView) (filters : List Filter) (world : World) (pending : List OfBuffer) (connections : List Connection) (k : ℕ) (change : Change) (n : Notice) → MadeOn old world pending change n → NoticeServed world n old.connections connections
    → k ≡ raised old.starved (open_number old.connections - open_number connections) → old.starved ≤ k → Runs old (changed_core old filters change world pending connections k) (λ state. made_step (with_filters state filters) change)
some-change old filters world pending connections k change n made served count rises = λ told. record {
  keeps = KeepsClients-told old new (steps-one (board_of old) (board_of new) (Tells (record { change = change; notice = n; accepted = made.accepted; touched = made.touched; each = served }))) kept rises (inl (refl, refl)) (ServersKeep-refl old.servers) refl;
  board = by-one (board_of old) (board_of new) (Tells (record { change = change; notice = n; accepted = made.accepted; touched = made.touched; each = served })) tt;
  counts = counts-dropped old new dropped (let sum = are.sum in let less = are.less in omega (arith, sum, less)) count refl;
  causes = λ here distinct j. inr (ConnectionsKept-causes j old.connections connections kept);
  does = λ here same below distinct were agrees.
      let none : dropped ≡ 0 = raised-none old.starved dropped below (sym count ∙ same) in
      let less = are.less in
      let all : connections ≡ map (told_connection world n) old.connections = served_none world n old.connections connections served (omega (arith, none, less)) in
      let C : List Connection → CoreView = λ connections. changed_core old filters change world pending connections k in
      let P : List Connection → Type 0 = λ connections. Follows (beside_in told) old (C connections) (made_step (with_filters (state_with old told) filters) change) in
      let g = (told-change old filters world pending change n made told).does here refl below distinct were agrees in
      subst P (sym all) (record { means = record { same = g.means.same; told = g.means.told }; oracle = g.oracle; bytes = g.bytes; leaving = g.leaving; quits = g.quits; servers = g.servers; parts = g.parts });
  contains = λ below distinct were agrees.
      let d = as_change (λ stepped. IsDone told old new stepped) old filters world change n told made.accepted (told-done told (rows_after old change told) old (news_after old change) filters world pending connections k n (were_after old world pending change n made told were)) in
      record { whole = λ same. d; quits = λ over. sym d.quits ∙ over; part = record { stage = last_stage (made_step (with_filters (state_with old told) filters) change); is_on = d.is_on; holds = d.holds; servers = d.servers } };
} where
  new : CoreView
  new = changed_core old filters change world pending connections k

  dropped : ℕ
  dropped = open_number old.connections - open_number connections

  kept : ConnectionsKept old.connections connections
  kept = notice_kept world n old.connections connections served

  are : AreDropped old.connections connections
  are = kept_dropped old.connections connections kept

pub changes-some : (old new : CoreView) (world : World) (pending : List OfBuffer) (connections : List Connection) (k : ℕ) (change : Change) (n : Notice) → MadeOn old world pending change n → NoticeServed world n old.connections connections
    → new ≡ changed_core old old.filters change world pending connections k → k ≡ raised old.starved (open_number old.connections - open_number connections) → old.starved ≤ k → Makes old change new
changes-some old new world pending connections k change n made served e count rises =
    let P : CoreView → Type 0 = λ c. Runs old c (λ state. made_step state change) in
    inl (made.accepted.accepted, subst P (sym e) (some-change old old.filters world pending connections k change n made served count rises))

-- ---- changes and refusals

pub asks-made : (old new : CoreView) (change : Change) → MakesChange old change new → Runs old new (λ state. ask_step state change)
asks-made old new change (inl made) = λ told.
    let P : Option ChangeRefused → Type 0 = λ o. RunsAt told old new (ask_step_if (state_with old told) change o) in
    subst P (sym made.0) (made.1 told)
asks-made old new change (inr starves) = Runs-starved old new (λ state. ask_step state change) starves

pub asks-told : (old mid new : CoreView) (change : Change) (reason : ChangeRefused) (text : List ℕ) → RefusesChange old change reason mid → text ≡ refusal_text reason → Runs mid new (λ state. refusal_step state text) → Runs old new (λ state. ask_step state change)
asks-told old mid new change reason text refuses e done = λ told.
    let P : Option ChangeRefused → Type 0 = λ o. RunsAt told old new (ask_step_if (state_with old told) change o) in
    let Q : List ℕ → Type 0 = λ t. RunsAt told old new (refusal_step (state_with old told) t) in
    subst P (sym refuses.refused) (subst Q e (Runs-over old mid new (λ state. refusal_step state text) refuses.stays refuses.touches done told))

abbrev refusal_line : CoreView → List ℕ → Change
refusal_line old text = told_refusal old.moment text

tells-by : (old new : CoreView) (text : List ℕ) (o : Option ChangeRefused) → refusal old.world (fitted old.filters old.world (refusal_line old text)) ≡ o → Runs old new (λ state. change_step_if state (refusal_line old text) o) → Runs old new (λ state. refusal_step state text)
tells-by old new text o e done = λ told.
    let P : Option ChangeRefused → Type 0 = λ o. RunsAt told old new (change_step_if (state_with old told) (refusal_line old text) o) in
    subst P (sym e) (done told)

pub tells-made : (old new : CoreView) (text : List ℕ) → MakesChange old (told_refusal old.moment text) new → Runs old new (λ state. refusal_step state text)
tells-made old new text (inl made) = tells-by old new text None made.0 made.1
tells-made old new text (inr starves) = Runs-starved old new (λ state. refusal_step state text) starves

pub tells-skipped : (old new : CoreView) (text : List ℕ) (reason : ChangeRefused) → RefusesChange old (told_refusal old.moment text) reason new → Runs old new (λ state. refusal_step state text)
tells-skipped old new text reason refuses = tells-by old new text (Some reason) refuses.refused (Runs-over old new new no_step refuses.stays refuses.touches (Runs-stays new))

pub tells-changed : (old new : CoreView) (text : List ℕ) (line : Change) (o : Option ChangeRefused) → line ≡ told_refusal old.moment text → (o ≡ None → MakesChange old line new)
    → IfSome o (λ reason. RefusesChange old line reason new) → Runs old new (λ state. refusal_step state text)
tells-changed old new text line None e made refuses = let P : Change → Type 0 = λ line. MakesChange old line new in tells-made old new text (subst P e (made refl))
tells-changed old new text line (Some reason) e made refuses =
    let P : Change → Type 0 = λ line. RefusesChange old line reason new in
    tells-skipped old new text reason (subst P e refuses)

-- numbers that a test tells apart
pub not_same : (m n : ℕ) → not (nat_eq m n) ≡ true → m ≢ n
not_same m n e same = by (nat_eq m n) refl e where
  by : (t : Bool) → nat_eq m n ≡ t → not t ≡ true → ⊥
  by true q e = false≢true e
  by false q e = let ne : m ≢ n = grind (arith, nat_tests) in ne same

-- and numbers that it does not
pub are_same : (m n : ℕ) → not (nat_eq m n) ≡ false → m ≡ n
are_same m n e = by (nat_eq m n) refl e where
  by : (t : Bool) → nat_eq m n ≡ t → not t ≡ false → m ≡ n
  by true q e = grind (arith, nat_tests)
  by false q e = absurd (false≢true (sym e))

-- what was resolved is done
pub does-resolved : (old new : CoreView) (buffer : Handle) (typed : TypedCommand) (r : Effect) → r ≡ effect_of old.world old.moment buffer typed → Runs old new (λ state. effect_step state r) → Runs old new (λ state. typed_step state buffer typed)
does-resolved old new buffer typed r e done = λ told.
    let P : Effect → Type 0 = λ r. RunsAt told old new (effect_step (state_with old told) r) in
    subst P e (done told)

-- ---- the connection of a link

open_of : (o : Option Connection) (s : Connection) → o ≡ Some s → is_open_at o ≡ true → is_open s ≡ true
open_of o s at sits = sym (ap is_open_at at) ∙ sits

-- the board from which an open client leaves
left_board : (old : CoreView) (k : ℕ) (s : Connection) (why : Cause) → at_key connection_link k old.connections ≡ Some s → is_open s ≡ true
    → record (board_of old) { connections = put_at connection_link k (record { session = s.session; leaving = Some why }) old.connections } ≡ record (board_of old) { connections = left_at k why old.connections (at_key connection_link k old.connections) }
left_board old k s why at sits = sym (ap (λ (o : Option Connection). record (board_of old) { connections = left_at k why old.connections o }) at ∙ ap (λ (t : Bool). record (board_of old) { connections = left_if t k why old.connections s }) sits)

-- the client of a link is marked as leaving, which is counted where it is for want of memory
leave-put : (old : CoreView) (k : ℕ) (s : Connection) (why : Cause) (n : ℕ) → n ≡ starved_by why old.starved → old.starved ≤ n → at_key connection_link k old.connections ≡ Some s → is_open s ≡ true
    → RunsFor (Some k) old (record old { connections = put_at connection_link k (record { session = s.session; leaving = Some why }) old.connections; starved = n }) (λ state. leave_step state k why)
leave-put old k s why n counts rises at sits = λ told.
    let of : List Client → Stepped = λ clients. leave_step (record (state_with old told) { clients = clients }) k why in
    RunsAt-exact told old new of keeps
    (by-one (board_of old) (board_of new) lost refl)
    (record { dropped = want_number (Some why); short = 0; own = 0; lost = omega arith; leaving = starving_put k s y old.connections at sits; counted = counts ∙ starved_by-raised why old.starved ∙ ap (raised old.starved) (omega arith); cuts = refl })
    (λ distinct j. leave-left (beside_in told) old k s why j at sits)
    (λ distinct were. (let g = Follows-leave (beside_in told) old k s why distinct at sits were in record { means = record { same = g.means.same; told = g.means.told }; oracle = g.oracle; bytes = g.bytes; leaving = g.leaving; quits = g.quits; servers = g.servers; parts = g.parts }))
    (λ distinct were. record { holds = record { same = refl; told = were }; is_on = inr refl; oracle = refl; quits = sym (or-false old.quits); servers = ServersFollow-refl old.servers })
  where
    y : Connection
    y = record { session = s.session; leaving = Some why }

    new : CoreView
    new = record old { connections = put_at connection_link k y old.connections; starved = n }

    lost : BoardStep (board_of old) (board_of new)
    lost = Loses (record { link = k; cause = why; put = left_board old k s why at sits })

    keeps : KeepsClients old new
    keeps =
        let put = KeepsClients-put old k s y (steps-one (board_of old) (board_of new) lost) at sits (at_key-key connection_link k old.connections s at) in
        record { board = put.board; rises = rises; links = put.links; kept = put.kept; saves = put.saves; servers = put.servers; verdicts = put.verdicts }

-- the open client of a link leaves
pub client-lost : (old new : CoreView) (k : ℕ) (why : Cause) → is_open_at (at_key connection_link k old.connections) ≡ true
    → new ≡ record old { connections = left_at k why old.connections (at_key connection_link k old.connections); starved = starved_by why old.starved } → old.starved ≤ starved_by why old.starved → RunsFor (Some k) old new (λ state. leave_step state k why)
client-lost old new k why opened e rises =
    let P : CoreView → Type 0 = λ c. RunsFor (Some k) old c (λ state. leave_step state k why) in
    subst P (sym e) (by (at_key connection_link k old.connections) refl opened)
  where
    by : (o : Option Connection) → at_key connection_link k old.connections ≡ o → is_open_at o ≡ true → RunsFor (Some k) old (record old { connections = left_at k why old.connections o; starved = starved_by why old.starved }) (λ state. leave_step state k why)
    by None at sits = absurd (false≢true sits)
    by (Some s) at sits =
        let Q : Bool → Type 0 = λ t. RunsFor (Some k) old (record old { connections = left_if t k why old.connections s; starved = starved_by why old.starved }) (λ state. leave_step state k why) in
        subst Q (sym sits) (leave-put old k s why (starved_by why old.starved) refl rises at sits)

leave-starves : (j k : ℕ) (before after : Option Cause) → LeavesBy before (or_else (cond (nat_eq k j) (Some NoMemory) None) None) after → StaysOrStarves before after
leave-starves j k before after (inr e) = e
leave-starves j k before after (inl e) = by (nat_eq k j) before e where
  by : (t : Bool) (before : Option Cause) → after ≡ or_else before (or_else (cond t (Some NoMemory) None) None) → StaysOrStarves before after
  by true None e = inr e
  by true (Some why) e = inl e
  by false None e = inl e
  by false (Some why) e = inl e

-- it leaves as it finds no memory for what it asked, which is cut short
pub asker-starves : (old new : CoreView) (k : ℕ) → is_open_at (at_key connection_link k old.connections) ≡ true → LosesAsker k old new → old.starved ≤ new.starved → RanOutFor (Some k) false [] old new
asker-starves old new k opened lost rises =
    let P : Bool → Type 0 = λ t. LosesAskerIf t k old new in
    starves (subst P opened lost)
  where
    left : List Connection
    left = left_at k NoMemory old.connections (at_key connection_link k old.connections)

    mid : CoreView
    mid = record old { connections = left; starved = min (old.starved + 1) (2 ^ 64 - 1) }

    starves : new ≡ record mid { cuts = min (old.cuts + 1) (2 ^ 64 - 1) } → RanOutFor (Some k) false [] old new
    starves e =
        let count : new.starved ≡ min (old.starved + 1) (2 ^ 64 - 1) = ap (λ (c : CoreView). c.starved) e in
        let cuts : new.cuts ≡ min (old.cuts + 1) (2 ^ 64 - 1) = ap (λ (c : CoreView). c.cuts) e in
        let rest = rest_in old (plain_beside old) in
        let f = client-lost old mid k NoMemory opened refl (omega (arith, rises, count)) rest in
        let Q : CoreView → Type 0 = λ c. KeepsClients old c in
        let R : List Connection → Type 0 = λ connections. starving_number connections ≡ starving_number old.connections + 1 in
        record {
          keeps = subst Q (sym e) (record { board = f.keeps.board; rises = f.keeps.rises; links = f.keeps.links; kept = f.keeps.kept; saves = f.keeps.saves; servers = f.keeps.servers; verdicts = f.keeps.verdicts });
          board = (let S : BoardView → Type 0 = λ board. StepsBy (Some k) (board_of old) board in subst S (sym (ap board_of e)) f.board);
          counts = record { dropped = 1; short = 0; own = 1; lost = omega arith; leaving = subst R (sym (ap (λ (c : CoreView). c.connections) e)) (one_more (at_key connection_link k old.connections) refl opened); counted = count; cuts = cuts };
          causes = λ distinct j.
              let S : List Connection → Type 0 = λ connections. StaysOrStarves (leaving_on j old.connections) (leaving_on j connections) in
              subst S (sym (ap (λ (c : CoreView). c.connections) e)) (leave-starves j k (leaving_on j old.connections) (leaving_on j left) (f.causes refl distinct j));
          counted = λ below. omega (arith, count, below);
          cut = λ below. omega (arith, cuts, below);
          holds = λ told were. (let T : CoreView → Type 0 = λ c. Holds c (state_with old told) in subst T (sym e) (record { same = refl; told = were }));
          quits = ap (λ (c : CoreView). c.quits) e ∙ sym (or-false old.quits);
          servers = unsaid old new (ap (λ (c : CoreView). c.servers) e);
        }
      where
        one_more : (o : Option Connection) → at_key connection_link k old.connections ≡ o → is_open_at o ≡ true → starving_number (left_at k NoMemory old.connections o) ≡ starving_number old.connections + 1
        one_more None at sits = absurd (false≢true sits)
        one_more (Some s) at sits =
            let U : Bool → Type 0 = λ t. starving_number (left_if t k NoMemory old.connections s) ≡ starving_number old.connections + 1 in
            subst U (sym sits) (starving_put k s (record s { leaving = Some NoMemory }) old.connections at sits)

-- ---- lines of clients

pub line-missing : (old : CoreView) (k : ℕ) (line : List ℕ) → at_key connection_link k old.connections ≡ None → RunsHere k old old (λ state. line_step state line (at_key client_link k state.clients))
line-missing old k line none = λ told. rw (client-missing k old.connections none) (Runs-stays old (rest_in old told))

pub line-leaving : (old : CoreView) (k : ℕ) (line : List ℕ) (s : Connection) → at_key connection_link k old.connections ≡ Some s → is_open s ≡ false → RunsHere k old old (λ state. line_step state line (at_key client_link k state.clients))
line-leaving old k line s at leaving = λ told.
    let rest = rest_in old told in
    record {
      keeps = KeepsClients-refl old;
      board = by-same (board_of old) (board_of old) refl;
      counts = Counts-refl old;
      causes = λ here distinct j. rw (client-leaving k old.connections s distinct at leaving) (inl (leaves-none old (no_step (state_of old told)) (λ j. refl) j));
      does = λ here same below distinct were agrees. rw (client-leaving k old.connections s distinct at leaving) (Follows-stays told old were);
      contains = λ below distinct were agrees. rw (client-leaving k old.connections s distinct at leaving) (contained-none rest old were);
    }

pub line-asked : (old new : CoreView) (k : ℕ) (line : List ℕ) (s : Connection) (request : Option Request) → at_key connection_link k old.connections ≡ Some s → is_open s ≡ true → request ≡ request_of s.session.client.escaped line
    → RunsFor (Some k) old new (λ state. request_step state s.session.client request) → RunsHere k old new (λ state. line_step state line (at_key client_link k state.clients))
line-asked old new k line s request at sits e done = λ told.
    let P : Option Request → Type 0 = λ r. RunsBy (Some k) (rest_in old told) old new (request_step (state_of old told) s.session.client r) in
    rw (client-open k old.connections s at sits) (subst P e (done (rest_in old told)))

-- ---- requests

-- the core after the reply, before what the answer asks for
abbrev pub replied : CoreView → ℕ → Known → CoreView
replied old k session' = record old { connections = put_at connection_link k (record { session = session'; leaving = None }) old.connections }

ask-answer : (old new : CoreView) (k : ℕ) (s : Connection) (session' : Known) (answer : Answer) (result : Outcome) → (step : BoardStep (board_of old) (board_of (replied old k session'))) → IsBy (Some k) (board_of old) (board_of (replied old k session')) step → at_key connection_link k old.connections ≡ Some s → is_open s ≡ true → answer.client.link ≡ s.session.client.link
    → AnswersRequest s.session session' result answer → RunsFor (Some k) (replied old k session') new (λ state. outcome_step state k result)
    → RunsFor (Some k) old new (λ state. answer_step state (client_link s.session.client) answer)
ask-answer old new k s session' answer result step own at sits same answered done = λ told.
    let here : client_link s.session.client ≡ k = at_key-key connection_link k old.connections s at in
    let key : client_link session'.client ≡ k = ap (λ (c : Client). client_link c) answered.client ∙ ap (λ (l : LinkId). l.0) same ∙ here in
    let y : Connection = record { session = session'; leaving = None } in
    let mid = replied old k session' in
    let of : Client → List Client → Stepped = λ client clients. reach_step (record (state_with old told) { clients = put_at client_link k client clients }) (sends k answer.messages) in
    let P : Client → Type 0 = λ client. RunsBy (Some k) told old mid (of client told.clients) in
    let reply : RunsBy (Some k) told old mid (of answer.client told.clients) = subst P answered.client
    (RunsAt-exact told old mid (of session'.client)
    (KeepsClients-put old k s y (steps-one (board_of old) (board_of mid) step) at sits key) (by-one (board_of old) (board_of mid) step own) (counts-none old mid (let n = starving_put k s y old.connections at sits in omega (arith, n)) refl refl)
    (λ distinct j. reply-left old k s session' answer.messages j at sits key)
    (λ distinct were. Follows-reply (beside_in told) old k s session' answer.messages at sits key answered.sends.bytes were)
    (λ distinct were. record { holds = record { same = refl; told = were }; is_on = inr refl; oracle = refl; quits = sym (ap (λ t. old.quits || t) (end-sends k answer.messages) ∙ or-false old.quits); servers = no-outs old mid (sends k answer.messages) refl (outs-sends k answer.messages) })) in
    let Q : Outcome → Type 0 = λ o. RunsFor (Some k) mid new (λ state. outcome_step state k o) in
    rw here (RunsAt-then told old mid new (of answer.client told.clients) (λ next. outcome_step next k answer.outcome) (reply-later mid k (of answer.client told.clients).state answer.messages answer.outcome) refl reply (subst Q answered.outcome done))

-- the client is answered
answered_steps : (old : CoreView) (k : ℕ) (s : Connection) (session' : Known) (request : Request) (result : Outcome) → at_key connection_link k old.connections ≡ Some s → is_open s ≡ true
    → OnServed result (AnswersRequest s.session session' result (reply_of old.world (context_in old) s.session.client request)) → OnNoMemory result (session' ≡ s.session) → AnswersClient (board_of old) (board_of (replied old k session'))
answered_steps old k s session' request result at sits answered same = record {
  link = k;
  connection = s;
  context = context_in old;
  request = request;
  result = result;
  at = at;
  sits = sits;
  answered = record {
    session = session';
    answered = answered;
    refused = same;
    put = ap (λ (leaving : Option Cause). record (board_of old) { connections = put_at connection_link k (record { session = session'; leaving = leaving }) old.connections }) (sym (open_none s sits));
  };
}

-- a client that found no memory for a reply is as it was
put-same : (k : ℕ) (s : Connection) (connections : List Connection) → at_key connection_link k connections ≡ Some s → put_at connection_link k s connections ≡ connections
put-same k s connections at = put_at-same connection_link k connections s at

-- a request of an open client, whose answer was followed
pub ask-served : (old new : CoreView) (k : ℕ) (s : Connection) (session' : Known) (request : Request) (result : Outcome) → at_key connection_link k old.connections ≡ Some s → is_open s ≡ true → RequestIsUtf8 request
    → OnServed result (AnswersRequest s.session session' result (reply_of old.world (context_in old) s.session.client request)) → OnNoMemory result (session' ≡ s.session)
    → OnServed result (RunsFor (Some k) (replied old k session') new (λ state. outcome_step state k result)) → OnNoMemory result (LosesAsker k (replied old k session') new) → old.starved ≤ new.starved
    → RunsFor (Some k) old new (λ state. reply_step state s.session.client request)
unfolding answered_steps
ask-served old new k s session' request outcome.Replied at sits utf8 answered same done lost rises = ask-answer old new k s session' (reply_of old.world (context_in old) s.session.client request) outcome.Replied (Answers (answered_steps old k s session' request outcome.Replied at sits answered same)) refl at sits (reply_fits old.world (context_in old) s.session.client request utf8).link answered done
ask-served old new k s session' request outcome.Silent at sits utf8 answered same done lost rises = ask-answer old new k s session' (reply_of old.world (context_in old) s.session.client request) outcome.Silent (Answers (answered_steps old k s session' request outcome.Silent at sits answered same)) refl at sits (reply_fits old.world (context_in old) s.session.client request utf8).link answered done
ask-served old new k s session' request (outcome.Input buffer text) at sits utf8 answered same done lost rises = ask-answer old new k s session' (reply_of old.world (context_in old) s.session.client request) (outcome.Input buffer text) (Answers (answered_steps old k s session' request (outcome.Input buffer text) at sits answered same)) refl at sits (reply_fits old.world (context_in old) s.session.client request utf8).link answered done
ask-served old new k s session' request (outcome.Leave why) at sits utf8 answered same done lost rises = ask-answer old new k s session' (reply_of old.world (context_in old) s.session.client request) (outcome.Leave why) (Answers (answered_steps old k s session' request (outcome.Leave why) at sits answered same)) refl at sits (reply_fits old.world (context_in old) s.session.client request utf8).link answered done
ask-served old new k s session' request outcome.NoMemory at sits utf8 answered same done lost rises =
    let C : Known → CoreView = λ session. replied old k session in
    let D : List Connection → CoreView = λ connections. record old { connections = connections } in
    let stays : replied old k session' ≡ old =
    ap C same ∙ ap (λ leaving. D (put_at connection_link k (record { session = s.session; leaving = leaving }) old.connections)) (sym (open_none s sits)) ∙ ap D (put-same k s old.connections at) in
    let P : CoreView → Type 0 = λ c. LosesAsker k c new in
    let opened : is_open_at (at_key connection_link k old.connections) ≡ true = ap is_open_at at ∙ sits in
    Runs-starved old new (λ state. reply_step state s.session.client request) (asker-starves old new k opened (subst P stays lost) rises)

-- the text that a request types is text
pub outcome-text : (world : World) (context : Context) (client : Client) (request : Request) (old new : Known) (result : Outcome) → RequestIsUtf8 request
    → OnServed result (AnswersRequest old new result (reply_of world context client request)) → OutcomeUtf8 result
outcome-text world context client request old new outcome.Replied utf8 answered = tt
outcome-text world context client request old new outcome.Silent utf8 answered = tt
outcome-text world context client request old new (outcome.Input buffer text) utf8 answered = subst OutcomeUtf8 (sym answered.outcome) (reply_fits world context client request utf8).text
outcome-text world context client request old new (outcome.Leave why) utf8 answered = tt
outcome-text world context client request old new outcome.NoMemory utf8 answered = tt

request-parts : (client : Client) (request : Request) (state : State) → request_step state client (Some request) ≡ then_does (push_before client request state) (λ next. reply_step next client request)
request-parts client request state = by (client.logged_in && is_nicklist request.command) where
  by : (b : Bool) → cond b (then_does (push_step state) (λ next. reply_step next client request)) (reply_step state client request) ≡ then_does (cond b (push_step state) (no_step state)) (λ next. reply_step next client request)
  by true = refl
  by false = refl

pushes_before-closes : (j : ℕ) (client : Client) (request : Request) (state : State) → close_of j (push_before client request state).acts ≡ None
pushes_before-closes j client request state = by (client.logged_in && is_nicklist request.command) where
  by : (b : Bool) → close_of j (cond b (push_step state) (no_step state)).acts ≡ None
  by true = pushes-closes j state
  by false = refl

-- nothing is answered: who asked left before that, and what it asked is cut short
abbrev pub CutAfterwards : ℕ → CoreView → CoreView → Type 0
CutAfterwards k between new = (is_open_at (at_key connection_link k between.connections) ≡ false) × (new ≡ record between { cuts = min (between.cuts + 1) (2 ^ 64 - 1) })

answer-shut : (between mid new : CoreView) (k : ℕ) (result : Outcome) → mid ≡ record between { connections = mid.connections } → result ≡ outcome.NoMemory → mid.connections ≡ between.connections → OnNoMemory result (LosesAsker k mid new)
    → is_open_at (at_key connection_link k between.connections) ≡ false → CutAfterwards k between new
answer-shut between mid new k result e starves stays lost shut =
    let P : Outcome → Type 0 = λ o. OnNoMemory o (LosesAsker k mid new) in
    let Q : CoreView → Type 0 = λ c. LosesAsker k c new in
    let R : Bool → Type 0 = λ t. LosesAskerIf t k between new in
    let same : mid ≡ between = e ∙ ap (λ (connections : List Connection). record between { connections = connections }) stays in
    (shut, subst R shut (subst Q same (subst P starves lost)))

-- whom a reply closes hangs on the world and what it is answered from beside it alone
reply-closes-same : (j : ℕ) (client : Client) (request : Request) (s t : State) → s.world ≡ t.world → context_of s ≡ context_of t → close_of j (reply_step s client request).acts ≡ close_of j (reply_step t client request).acts
reply-closes-same j client request s t world context =
    let k = client_link client in
    let of : State → Answer → List Act = λ state answer. (answer_step state k answer).acts in
    let a = reply_of s.world (context_of s) client request in
    let b = reply_of t.world (context_of t) client request in
    let same : a ≡ b = ap (λ w. reply_of w (context_of s) client request) world ∙ ap (λ c. reply_of t.world c client request) context in
    ap (λ answer. close_of j (of s answer)) same ∙ answer-closes-same j k b s t

-- the answer to a request that may have found no memory
answer-done : (between mid new : CoreView) (k : ℕ) (client : Client) (request : Request) (result : Outcome) (o : Option Connection) → at_key connection_link k between.connections ≡ o → ((now : Connection) → o ≡ Some now → is_open now ≡ true → now.session.client ≡ client)
    → RequestIsUtf8 request → mid ≡ record between { connections = mid.connections }
    → AnsweredAt k (context_in between) request result (record { world = between.world; pending = between.pending; connections = between.connections }) (record { world = mid.world; pending = mid.pending; connections = mid.connections }) o
    → OnServed result (RunsFor (Some k) mid new (λ state. outcome_step state k result)) → OnNoMemory result (LosesAsker k mid new) → between.starved ≤ new.starved → RunsFor (Some k) between new (λ state. reply_step state client request) ⊎ CutAfterwards k between new
answer-done between mid new k client request result None at same utf8 e answered done lost rises = inr (answer-shut between mid new k result e answered.starves (ap (λ (b : BoardView). b.connections) answered.stays) lost (ap is_open_at at))
answer-done between mid new k client request result (Some now) at same utf8 e answered done lost rises = by (is_open now) refl answered
  where
    by : (t : Bool) → is_open now ≡ t
        → AnsweredIf t k (context_in between) request result (record { world = between.world; pending = between.pending; connections = between.connections }) (record { world = mid.world; pending = mid.pending; connections = mid.connections }) now
        → RunsFor (Some k) between new (λ state. reply_step state client request) ⊎ CutAfterwards k between new
    by false sits answered = inr (answer-shut between mid new k result e answered.starves (ap (λ (b : BoardView). b.connections) answered.stays) lost (ap is_open_at at ∙ sits))
    by true sits answered =
        let put : mid.connections ≡ put_at connection_link k (record { session = answered.session; leaving = None }) between.connections =
        ap (λ (b : BoardView). b.connections) answered.put ∙ ap (λ leaving. put_at connection_link k (record { session = answered.session; leaving = leaving }) between.connections) (open_none now sits) in
        let there : mid ≡ replied between k answered.session = e ∙ ap (λ (connections : List Connection). record between { connections = connections }) put in
        let P : CoreView → Type 0 = λ c. OnServed result (RunsFor (Some k) c new (λ state. outcome_step state k result)) in
        let Q : CoreView → Type 0 = λ c. OnNoMemory result (LosesAsker k c new) in
        let R : Client → Type 0 = λ client. RunsFor (Some k) between new (λ state. reply_step state client request) in
        inl (subst R (same now refl sits) (ask-served between new k now answered.session request result at sits utf8 answered.answered answered.refused (subst P there done) (subst Q there lost) rises))

push_before-world : (client : Client) (request : Request) (state : State) → (push_before client request state).state.world ≡ state.world
push_before-world client request state = by (client.logged_in && is_nicklist request.command) where
  by : (b : Bool) → (cond b (push_step state) (no_step state)).state.world ≡ state.world
  by true = refl
  by false = refl

push_before-context : (client : Client) (request : Request) (state : State) → context_of (push_before client request state).state ≡ context_of state
push_before-context client request state = by (client.logged_in && is_nicklist request.command) where
  by : (b : Bool) → context_of (cond b (push_step state) (no_step state)).state ≡ context_of state
  by true = refl
  by false = refl

-- who asked left in the pushes before the answer, and what it asked is cut short
cut-after-pushes : {own : Option ℕ} → (told : Rest) (old between new : CoreView) (k : ℕ) (first : Stepped) (next : State → Stepped) → ((j : ℕ) → close_of j first.acts ≡ None) → between.cuts ≡ old.cuts → (old.starved < 2 ^ 64 - 1 → between.starved ≢ old.starved)
    → Counts 0 old new → RunsBy own told old between first → new ≡ record between { cuts = min (between.cuts + 1) (2 ^ 64 - 1) } → RunsBy own told old new (then_does first next)
cut-after-pushes told old between new k first next none uncut drops counts f e =
    let after : CoreView = record between { cuts = min (between.cuts + 1) (2 ^ 64 - 1) } in
    let cuts : new.cuts ≡ min (between.cuts + 1) (2 ^ 64 - 1) = ap (λ (c : CoreView). c.cuts) e in
    let starved : new.starved ≡ between.starved = ap (λ (c : CoreView). c.starved) e in
    let verdicts : new.verdicts ≡ between.verdicts = ap (λ (c : CoreView). c.verdicts) e in
    let P : VerdictsView → Type 0 = λ v. Agrees told.oracle v in
    record {
      keeps = KeepsClients-trans old between new f.keeps (KeepsClients-connections between new (ap board_of e) (omega (arith, starved)) (saves-as between new after e refl refl) (servers-same between new (ap (λ (c : CoreView). c.servers) e)) verdicts);
      board = by-both (board_of old) (board_of between) (board_of new) f.board (by-same (board_of between) (board_of new) (ap board_of e));
      counts = counts;
      causes = λ here distinct j.
          let Q : CoreView → Type 0 = λ c. StaysOrStarves (leaving_on j old.connections) (leaving_on j c.connections) in
          inr (subst Q (sym e) (stays-by old between j (close_of j first.acts) (none j) (f.causes here distinct j)));
      does = λ here same below distinct were agrees. absurd (drops below (sym starved ∙ same));
      contains = λ below distinct were agrees.
          let first_done = (f.contains below distinct were (subst P verdicts agrees)).whole uncut in
          let R : CoreView → Type 0 = λ c. Holds c first.state in
          record {
            whole = λ same. absurd (omega (arith, cuts, same, uncut, below));
            part = record { stage = last_stage first; is_on = IsOn-first (last_stage first) (first_stage (state_with old told)) first.way (way_after (outs_of first.acts) (next first.state).way) first_done.is_on; holds = subst R (sym e) (record { same = first_done.holds.same; told = first_done.holds.told }); servers = (let V : ServersView → Type 0 = λ v. ServersFollow old.servers v (outs_of first.acts) in subst V (sym (ap (λ (c : CoreView). c.servers) e)) first_done.servers) };
            quits = λ over. or-more old.quits (has_end first.acts) (has_end (then_does first next).acts) (ends-then first.acts (next first.state).acts) (sym first_done.quits ∙ ap (λ (c : CoreView). c.quits) (sym e) ∙ over);
          };
    }

pub ask-done : (old mid new : CoreView) (k : ℕ) (request : Request) (result : Outcome) → is_open_at (at_key connection_link k old.connections) ≡ true → AnswersRequestOf k request result old mid → RequestIsUtf8 request
    → OnServed result (RunsFor (Some k) mid new (λ state. outcome_step state k result)) → OnNoMemory result (LosesAsker k mid new) → mid.starved ≤ new.starved
    → IfSome (at_key connection_link k old.connections) (λ connection. RunsFor (Some k) old new (λ state. request_step state connection.session.client (Some request)))
ask-done old mid new k request result opened is utf8 done lost rises = by (at_key connection_link k old.connections) refl is.pushed
  where
    by : (o : Option Connection) → at_key connection_link k old.connections ≡ o → IfSome o (λ connection. Runs old is.between (λ state. push_before connection.session.client request state)) → IfSome o (λ connection. RunsFor (Some k) old new (λ state. request_step state connection.session.client (Some request)))
    by None at pushed = tt
    by (Some s) at pushed = λ told.
        let P : Stepped → Type 0 = λ step. RunsBy (Some k) told old new step in
        subst P (sym (request-parts client request (state_with old told))) (whole told reply)
      where
        client : Client
        client = s.session.client

        next : State → Stepped
        next state = reply_step state client request

        less : is.between.starved ≤ new.starved
        less = (let e = ap (λ (c : CoreView). c.starved) is.answered in omega (arith, e, rises))

        reply : RunsFor (Some k) is.between new next ⊎ CutAfterwards k is.between new
        reply =
            let Q : Context → Type 0 = λ context. AnsweredAt k context request result (record { world = is.between.world; pending = is.between.pending; connections = is.between.connections }) (record { world = mid.world; pending = mid.pending; connections = mid.connections }) (at_key connection_link k is.between.connections) in
            answer-done is.between mid new k client request result (at_key connection_link k is.between.connections) refl (λ now here sits. is.same s now at here sits) utf8 is.answered (subst Q (sym is.context) is.board) done lost less

        whole : (told : Rest) → RunsFor (Some k) is.between new next ⊎ CutAfterwards k is.between new → RunsBy (Some k) told old new (then_does (push_before client request (state_with old told)) next)
        whole told (inl run) =
            let first = push_before client request (state_with old told) in
            let closes : ClosesLater is.between first next = record { first_none = λ j. pushes_before-closes j client request (state_with old told); same = λ j. reply-closes-same j client request (state_of is.between (beside first.state)) first.state (is.world ∙ sym (push_before-world client request (state_with old told))) (is.context ∙ sym (push_before-context client request (state_with old told))) } in
            RunsAt-then told old is.between new first next closes is.uncut (RunsBy-any (Some k) told old is.between first (pushed told)) run
        whole told (inr cut) =
            cut-after-pushes told old is.between new k (push_before client request (state_with old told)) next (λ j. pushes_before-closes j client request (state_with old told)) is.uncut drops (counts-after-drops old is.between new is.dropped some is.left is.counted is.uncut cut.1) (RunsBy-any (Some k) told old is.between (push_before client request (state_with old told)) (pushed told)) cut.1
          where
            some : 0 < is.dropped
            some = is.asker opened cut.0

            drops : old.starved < 2 ^ 64 - 1 → is.between.starved ≢ old.starved
            drops below same = (let none = raised-none old.starved is.dropped below (sym is.counted ∙ same) in omega (arith, none, some))

-- ---- arrivals

-- link numbers up to that of an arrival are used
abbrev pub used_core : ℕ → CoreView → CoreView
used_core link old = record old { servers = used_up link old.servers }

-- no arrival changes the oracle
arrival-oracle : (state : State) (link : ℕ) (nonce : List ℕ) → (arrival_step state link nonce).state.oracle ≡ state.oracle
arrival-oracle state link nonce = by (nat_lt (length state.clients) (client_limit state.options)) where
  came_to : Stepped
  came_to = put_step (record state { clients = state.clients ++ new_client (record { 0 = link }) nonce ∷ []; used = max state.used link })

  taken : Stepped
  taken = reach_step (record state { used = max state.used link }) (Closes link Surplus ∷ [])

  by : (t : Bool) → (cond t came_to taken).state.oracle ≡ state.oracle
  by true = refl
  by false = refl

pub came-surplus : (told : Beside) (old : CoreView) (link : LinkId) (nonce : List ℕ) → client_limit old.options ≤ length (filter (λ connection. is_open connection) old.connections) → AdmitsUnlessStarved told link.0 old (used_core link.0 old) (Some Surplus) (arrival_step (state_of old told) link.0 nonce)
came-surplus told old link nonce full =
    let same = open-length old.connections in
    let test : nat_lt (length (clients_of old.connections)) (client_limit old.options) ≡ false = grind (arith, nat_tests) in
    record {
      rises = omega arith;
      oracle = rw test refl;
      connections = refl;
      servers = refl;
      kept = λ j some. refl;
      cause = rw test (inl refl);
      comes = λ stay below were. rw test (record { means = record { same = refl; told = were }; bytes = λ j. refl; leaving = λ j. refl; quits = refl; acts = refl });
    }

pub came-starved : (told : Beside) (old new : CoreView) (link : LinkId) (nonce : List ℕ) → new ≡ record (used_core link.0 old) { starved = min (old.starved + 1) (2 ^ 64 - 1) } → old.starved ≤ new.starved → AdmitsUnlessStarved told link.0 old new (Some NoMemory) (arrival_step (state_of old told) link.0 nonce)
came-starved told old new link nonce e rises =
    let count : new.starved ≡ min (old.starved + 1) (2 ^ 64 - 1) = ap (λ (c : CoreView). c.starved) e in
    record {
      rises = rises;
      oracle = arrival-oracle (state_of old told) link.0 nonce;
      connections = ap (λ (c : CoreView). c.connections) e;
      servers = ap (λ (c : CoreView). c.servers) e;
      kept = λ j some. ap (λ (c : CoreView). at_key connection_link j c.connections) e;
      cause = inr refl;
      comes = λ same below were. absurd (omega arith);
    }

pub came : (told : Beside) (old : CoreView) (link : LinkId) (nonce : List ℕ) → length (filter (λ connection. is_open connection) old.connections) < client_limit old.options
    → AdmitsUnlessStarved told link.0 old (record (used_core link.0 old) { connections = old.connections ++ record { session = new_session link nonce; leaving = None } ∷ [] }) None (arrival_step (state_of old told) link.0 nonce)
came told old link nonce few =
    let same = open-length old.connections in
    let connection : Connection = record { session = new_session link nonce; leaving = None } in
    let test : nat_lt (length (clients_of old.connections)) (client_limit old.options) ≡ true = grind (arith, nat_tests) in
    record {
      rises = omega arith;
      oracle = rw test refl;
      connections = links-push old.connections connection;
      servers = refl;
      kept = λ j some. kept-push j old.connections connection some;
      cause = tt;
      comes = λ stay below were. rw test (record {
        means = record { same = rw (clients-push old.connections (new_session link nonce)) refl; told = were };
        bytes = λ j. unsent-push j old.connections connection refl;
        leaving = λ j. leaving-push j old.connections connection refl;
        quits = refl;
        acts = refl;
      });
    }
