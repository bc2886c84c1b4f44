-- What one event leaves of the core and of its clients.
use Rattle.std.proofs.Common.{◌≡◌, ◌≢◌, ℕ, Bool, true, false, cond, List, [], ◌∷◌, ◌++◌, length, Option, Some, None, refl, sym, ap, subst, ◌∙◌, arith, eqb, nat_lt, max}
use Rattle.std.proofs.lemmas.Bool.{false≢true}
use Rattle.std.proofs.lemmas.Bool.Decides.{nat_tests}
use Rattle.wc_text.specs.declared.names.Cause.{Cause}
use Rattle.wc_text.specs.declared.names.Cause.TheVariants as cause
use Rattle.wc_text.specs.declared.names.LinkId.{LinkId}
use Rattle.wc_outside.specs.Keyed.{at_key, put_at, without}
use Rattle.wc_outside.proofs.KeyedLemmas.{at_key-key, put_at-same, at_key-put_other, at_key-without_other, at_key-filter_same}
use Rattle.wc_relaycmd.specs.declared.request.Request.{Request}
use Rattle.wc_relaycmd.specs.Answers.{request_of}
use Rattle.wc_text.specs.Splits.{BeginsWithout}
use Rattle.wc_relaycmd.proofs.ReadLemmas.{reads-request_of}
use Rattle.wc_relaycmd.proofs.RequestTexts.{RequestIsUtf8-reads}
use Rattle.wc_session.specs.declared.client.Client.{Client}
use Rattle.wc_session.specs.declared.outcome.Outcome.{Outcome}
use Rattle.wc_session.specs.declared.outcome.Outcome.TheVariants as outcome
use Rattle.wc_session.specs.Known.{new_client}
use Rattle.wc_session.specs.Reply.{Answer, reply_of}
use Rattle.wc_core.specs.Contexts.{context_of}
use Rattle.wc_core.specs.Events.{Event, Start, Tick, Arrives, Line as LineCame, Stands, Ends, Fails, Breaks, ListenFails}
use Rattle.wc_core.specs.State.{State, Stepped, Closes}
use Rattle.wc_servers.specs.Seats.{server_link}
use Rattle.wc_core.specs.Limits.{client_limit}
use Rattle.wc_core.specs.Step.{client_link, sends, leave_step, outcome_step, answer_step, reply_step, request_step, link_line_step, link_loss_step, step}
use Rattle.wc_core.specs.Changing.{put_step, reach_step}
use Rattle.wc_core.specs.Served.{OutcomeUtf8}
use Rattle.wc_core.specs.Typed.{lines_of_text}
use Rattle.wc_core.proofs.ReplyLemmas.{reply_fits}
use Rattle.wc_mirror_laws.specs.Held.{HeldPart, Lines, HeldOf, Has}
use Rattle.wc_mirror_laws.specs.Settled.{asked_by, asked_with, asked_in, client_on, is_following, IsPlain, LimitStays}
use Rattle.wc_mirror_laws.specs.Kept.{is_first_alone, IsStateKept}
use Rattle.wc_mirror_laws.specs.Mirrors.{mirror_after, StepKeeps}
use Rattle.wc_mirror_laws.proofs.ClientLemmas.{following-push, first-push, first-put, first-without}
use Rattle.wc_mirror_laws.proofs.ChangeLemmas.{mirror-append}
use Rattle.wc_mirror_laws.proofs.InputLemmas.{Tells-runs, Tells-start}
use Rattle.wc_mirror_laws.proofs.LimitLemmas.{Counts, counts_same, counts_then}
use Rattle.wc_mirror_laws.proofs.NewsLemmas.{News, EventNews, news_stays, news_put, news_then}
use Rattle.wc_mirror_laws.proofs.ServerLemmas.{Tells-line, Tells-loss, Tells-stands}
use Rattle.wc_mirror_laws.proofs.AskedLemmas.{before_reply, asked_after, Tells-before, OnInput, input_stays}
use Rattle.wc_mirror_laws.proofs.PushLemmas.{Tells-pushes}
use Rattle.wc_mirror_laws.proofs.TypedLemmas.{parted_text}

kept-clients : (link : ℕ) (state : State) (clients : List Client) → IsStateKept link state → is_first_alone link clients ≡ true → IsStateKept link (record state { clients = clients })
kept-clients link state clients kept e = record { most = kept.most; world = kept.world; once = kept.once; shown = kept.shown; told = kept.told; texts = kept.texts; rows = kept.rows; news = kept.news; there = kept.there; first = e }

kept-leaves : (link : ℕ) (state : State) (k : ℕ) (why : Cause) → IsStateKept link state → IsStateKept link (leave_step state k why).state
kept-leaves link state k why kept = kept-clients link state (without client_link k state.clients) kept (first-without link k state.clients kept.first)

-- ---- what an answer asks of the core

kept-follows : (link : ℕ) (state : State) (k : ℕ) (o : Outcome) → OutcomeUtf8 o → IsStateKept link state → IsStateKept link (outcome_step state k o).state
kept-follows link state k outcome.Replied utf8 kept = kept
kept-follows link state k outcome.Silent utf8 kept = kept
kept-follows link state k (outcome.Input buffer text) utf8 kept = (Tells-runs Lines None link [] state buffer (lines_of_text text) tt kept (parted_text text utf8)).kept
kept-follows link state k (outcome.Leave why) utf8 kept = kept-leaves link state k why kept
kept-follows link state k outcome.NoMemory utf8 kept = kept

right-follows : (which : HeldPart) (limit : Option ℕ) (link : ℕ) (id : List ℕ) (state : State) (k : ℕ) (o : Outcome) (part : HeldOf which) → OutcomeUtf8 o → IsStateKept link state → BeginsWithout 95 id
    → OnInput o (IsPlain limit (client_on link state)) → is_following limit (client_on link (outcome_step state k o).state) ≡ true → LimitStays limit state.world (outcome_step state k o).state.world → Has which part state
    → Has which (mirror_after which limit link id part (outcome_step state k o).acts) (outcome_step state k o).state
right-follows which limit link id state k outcome.Replied part utf8 kept free plain after stays had = had
right-follows which limit link id state k outcome.Silent part utf8 kept free plain after stays had = had
right-follows which limit link id state k (outcome.Input buffer text) part utf8 kept free plain after stays had =
    let tells = Tells-runs which limit link id state buffer (lines_of_text text) free kept (parted_text text utf8) in
    tells.right (sym tells.following ∙ after) plain stays part had
right-follows which limit link id state k (outcome.Leave why) part utf8 kept free plain after stays had = had
right-follows which limit link id state k outcome.NoMemory part utf8 kept free plain after stays had = had

-- the state after the messages of an answer
abbrev pub put : State → ℕ → Client → State
put state k client = record state { clients = put_at client_link k client state.clients }

pub kept-put : (link : ℕ) (state : State) (k : ℕ) (client : Client) → client_link client ≡ k → IsStateKept link state → IsStateKept link (put state k client)
kept-put link state k client here kept = kept-clients link state (put_at client_link k client state.clients) kept (first-put link k client state.clients here ∙ kept.first)

kept-answers : (link : ℕ) (state : State) (k : ℕ) (answer : Answer) → client_link answer.client ≡ k → OutcomeUtf8 answer.outcome → IsStateKept link state → IsStateKept link (answer_step state k answer).state
kept-answers link state k answer here utf8 kept = kept-follows link (put state k answer.client) k answer.outcome utf8 (kept-put link state k answer.client here kept)

-- where the messages of an answer leave a part right, so does what follows them
pub right-answers : (which : HeldPart) (limit : Option ℕ) (link : ℕ) (id : List ℕ) (state : State) (k : ℕ) (answer : Answer) (part : HeldOf which) → client_link answer.client ≡ k → OutcomeUtf8 answer.outcome → IsStateKept link state → BeginsWithout 95 id
    → OnInput answer.outcome (IsPlain limit (client_on link (put state k answer.client))) → is_following limit (client_on link (answer_step state k answer).state) ≡ true → LimitStays limit state.world (answer_step state k answer).state.world
    → Has which (mirror_after which limit link id part (sends k answer.messages)) state
    → Has which (mirror_after which limit link id part (answer_step state k answer).acts) (answer_step state k answer).state
right-answers which limit link id state k answer part here utf8 kept free plain after stays had =
    let next = put state k answer.client in
    let last = (outcome_step next k answer.outcome).state in
    subst (λ part. Has which part last) (sym (mirror-append which limit link id part (sends k answer.messages) (outcome_step next k answer.outcome).acts))
    (right-follows which limit link id next k answer.outcome (mirror_after which limit link id part (sends k answer.messages)) utf8 (kept-put link state k answer.client here kept) free plain after stays had)

-- a client that is typed for did not come to ask for lines that went
on_input : (o : Outcome) (P Q : Type 0) → (P → Q) → OnInput o P → OnInput o Q
on_input (outcome.Input buffer text) P Q f p = f p
on_input _ P Q f p = tt

pub reply_plain : (limit : Option ℕ) (link : ℕ) (state : State) (client : Client) (request : Request) → at_key client_link (client_link client) state.clients ≡ Some client → IsPlain limit (client_on link state)
    → OnInput (reply_of state.world (context_of state) client request).outcome (IsPlain limit (client_on link (put state (client_link client) (reply_of state.world (context_of state) client request).client)))
reply_plain limit link state client request at plain =
    let k = client_link client in
    let answer = reply_of state.world (context_of state) client request in
    let same = subst (λ clients. IsPlain limit (at_key client_link link clients)) (sym (put_at-same client_link k state.clients client at)) plain in
    on_input answer.outcome (answer.client ≡ client) (IsPlain limit (client_on link (put state k answer.client))) (λ e. subst (λ c. IsPlain limit (client_on link (put state k c))) (sym e) same)
    (input_stays state.world (context_of state) client request)

-- ---- what is answered to a request

-- what is typed by a request is text
pub reply_text : (state : State) (client : Client) (line : List ℕ) (request : Request) → request_of client.escaped line ≡ Some request → OutcomeUtf8 (reply_of state.world (context_of state) client request).outcome
reply_text state client line request e =
    (reply_fits state.world (context_of state) client request (RequestIsUtf8-reads line client.escaped request (reads-request_of line client.escaped request e))).text

pub reply_link : (state : State) (client : Client) (line : List ℕ) (request : Request) → request_of client.escaped line ≡ Some request
    → client_link (reply_of state.world (context_of state) client request).client ≡ client_link client
reply_link state client line request e =
    ap (λ (l : LinkId). l.0) (reply_fits state.world (context_of state) client request (RequestIsUtf8-reads line client.escaped request (reads-request_of line client.escaped request e))).link

-- ---- a line of a client

-- what the client of a link asks by a line of it
pub asked_here : (link k : ℕ) (state : State) (line : List ℕ) (o : Option Client) → eqb k link ≡ true → at_key client_link k state.clients ≡ o
    → asked_in link state (LineCame k line) ≡ asked_by line o
asked_here link k state line o here at =
    let same : k ≡ link = grind (arith, nat_tests) in
    ap (λ b. cond b (asked_by line (client_on link state)) []) here ∙ ap (λ n. asked_by line (at_key client_link n state.clients)) (sym same) ∙ ap (asked_by line) at

kept-line : (link : ℕ) (state : State) (k : ℕ) (line : List ℕ) → IsStateKept link state → IsStateKept link (step state (LineCame k line)).state
kept-line link state k line kept = came (at_key client_link k state.clients) where
  served : (client : Client) (o : Option Request) → request_of client.escaped line ≡ o → IsStateKept link (request_step state client o).state
  served client None e = kept
  served client (Some request) e =
      let next = (before_reply state client request).state in
      subst (λ (s : Stepped). IsStateKept link s.state) (sym (asked_after state client request))
      (kept-answers link next (client_link client) (reply_of next.world (context_of next) client request) (reply_link next client line request e) (reply_text next client line request e)
      (Tells-before Lines None link [] state client request tt kept).kept)

  came : (o : Option Client) → IsStateKept link (link_line_step state k line o).state
  came None = (Tells-line Lines None link [] tt state k line (at_key server_link k state.servers) kept).kept
  came (Some client) = served client (request_of client.escaped line) refl

-- ---- one event

kept-lost : (link : ℕ) (state : State) (k : ℕ) (why : Cause) (o : Option Client) → IsStateKept link state → IsStateKept link (link_loss_step state k why o).state
kept-lost link state k why None kept = (Tells-loss Lines None link [] tt k why state (at_key server_link k state.servers) kept).kept
kept-lost link state k why (Some client) kept = kept-leaves link state k why kept

-- the state of which what is to be pushed is at a tick
abbrev pub ticked : State → ℕ → State
ticked state moment = record state { moment = moment }

pub kept-ticked : (link : ℕ) (state : State) (moment : ℕ) → IsStateKept link state → IsStateKept link (ticked state moment)
kept-ticked link state moment kept = record { most = kept.most; world = kept.world; once = kept.once; shown = kept.shown; told = kept.told; texts = kept.texts; rows = kept.rows; news = kept.news; there = kept.there; first = kept.first }

-- a client that came, where there are not too many
abbrev pub arrived : State → ℕ → List ℕ → Bool → Stepped
arrived state k nonce b = cond b (put_step (record state {
  clients = state.clients ++ new_client (record { 0 = k }) nonce ∷ [];
  used = max state.used k;
})) (reach_step (record state { used = max state.used k }) (Closes k cause.Surplus ∷ []))

pub step_keeps : StepKeeps
step_keeps link state (Start moment) kept = (Tells-start Lines None link [] state moment tt kept).kept
step_keeps link state (Tick moment) kept = (Tells-pushes Lines None link [] (ticked state moment) tt (kept-ticked link state moment kept)).kept
step_keeps link state (Arrives k nonce) kept = by (nat_lt (length state.clients) (client_limit state.options)) where
  came : Client
  came = new_client (record { 0 = k }) nonce

  by : (b : Bool) → IsStateKept link (arrived state k nonce b).state
  by true = record { most = kept.most; world = kept.world; once = kept.once; shown = kept.shown; told = kept.told; texts = kept.texts; rows = kept.rows; news = kept.news; there = kept.there; first = first-push link came state.clients refl ∙ kept.first }
  by false = record { most = kept.most; world = kept.world; once = kept.once; shown = kept.shown; told = kept.told; texts = kept.texts; rows = kept.rows; news = kept.news; there = kept.there; first = kept.first }
step_keeps link state (LineCame k line) kept = kept-line link state k line kept
step_keeps link state (Stands k) kept = (Tells-stands Lines None link [] tt state k (at_key server_link k state.servers) kept).kept
step_keeps link state (Ends k) kept = kept-lost link state k cause.Ended (at_key client_link k state.clients) kept
step_keeps link state (Fails k) kept = kept-lost link state k cause.Failed (at_key client_link k state.clients) kept
step_keeps link state (Breaks k) kept = kept-lost link state k cause.BadSocket (at_key client_link k state.clients) kept
step_keeps link state ListenFails kept = kept

-- ---- each change of the limit is counted

counts_follows : (link : ℕ) (state : State) (k : ℕ) (o : Outcome) → OutcomeUtf8 o → IsStateKept link state → Counts state.world (outcome_step state k o).state.world
counts_follows link state k outcome.Replied utf8 kept = counts_same state.world
counts_follows link state k outcome.Silent utf8 kept = counts_same state.world
counts_follows link state k (outcome.Input buffer text) utf8 kept = (Tells-runs Lines None link [] state buffer (lines_of_text text) tt kept (parted_text text utf8)).counts
counts_follows link state k (outcome.Leave why) utf8 kept = counts_same state.world
counts_follows link state k outcome.NoMemory utf8 kept = counts_same state.world

pub counts_replies : (link : ℕ) (state : State) (line : List ℕ) (client : Client) (request : Request) → request_of client.escaped line ≡ Some request → IsStateKept link state
    → Counts state.world (reply_step state client request).state.world
counts_replies link state line client request e kept =
    let k = client_link client in
    let answer = reply_of state.world (context_of state) client request in
    counts_follows link (put state k answer.client) k answer.outcome (reply_text state client line request e) (kept-put link state k answer.client (reply_link state client line request e) kept)

counts_line : (link : ℕ) (state : State) (k : ℕ) (line : List ℕ) → IsStateKept link state → Counts state.world (step state (LineCame k line)).state.world
counts_line link state k line kept = came (at_key client_link k state.clients) where
  served : (client : Client) (o : Option Request) → request_of client.escaped line ≡ o → Counts state.world (request_step state client o).state.world
  served client None e = counts_same state.world
  served client (Some request) e =
      let first = before_reply state client request in
      let tells = Tells-before Lines None link [] state client request tt kept in
      subst (λ (s : Stepped). Counts state.world s.state.world) (sym (asked_after state client request))
      (counts_then state.world first.state.world (reply_step first.state client request).state.world tells.counts (counts_replies link first.state line client request e tells.kept))

  came : (o : Option Client) → Counts state.world (link_line_step state k line o).state.world
  came None = (Tells-line Lines None link [] tt state k line (at_key server_link k state.servers) kept).counts
  came (Some client) = served client (request_of client.escaped line) refl

counts_lost : (link : ℕ) (state : State) (k : ℕ) (why : Cause) (o : Option Client) → IsStateKept link state → Counts state.world (link_loss_step state k why o).state.world
counts_lost link state k why None kept = (Tells-loss Lines None link [] tt k why state (at_key server_link k state.servers) kept).counts
counts_lost link state k why (Some client) kept = counts_same state.world

pub step_counts : (link : ℕ) (state : State) (event : Event) → IsStateKept link state → Counts state.world (step state event).state.world
step_counts link state (Start moment) kept =
    let counts = (Tells-start Lines None link [] state moment tt kept).counts in
    record { grows = counts.grows; stays = counts.stays }
step_counts link state (Tick moment) kept = counts_same state.world
step_counts link state (Arrives k nonce) kept = by (nat_lt (length state.clients) (client_limit state.options)) where
  by : (b : Bool) → Counts state.world (arrived state k nonce b).state.world
  by true = counts_same state.world
  by false = counts_same state.world
step_counts link state (LineCame k line) kept = counts_line link state k line kept
step_counts link state (Stands k) kept = (Tells-stands Lines None link [] tt state k (at_key server_link k state.servers) kept).counts
step_counts link state (Ends k) kept = counts_lost link state k cause.Ended (at_key client_link k state.clients) kept
step_counts link state (Fails k) kept = counts_lost link state k cause.Failed (at_key client_link k state.clients) kept
step_counts link state (Breaks k) kept = counts_lost link state k cause.BadSocket (at_key client_link k state.clients) kept
step_counts link state ListenFails kept = counts_same state.world

-- ---- the hotlist means the lines that count

news_follows : (link : ℕ) (state : State) (k : ℕ) (o : Outcome) → OutcomeUtf8 o → IsStateKept link state → News state (outcome_step state k o)
news_follows link state k outcome.Replied utf8 kept = news_stays state
news_follows link state k outcome.Silent utf8 kept = news_stays state
news_follows link state k (outcome.Input buffer text) utf8 kept = (Tells-runs Lines None link [] state buffer (lines_of_text text) tt kept (parted_text text utf8)).news
news_follows link state k (outcome.Leave why) utf8 kept = news_put state (leave_step state k why).state (leave_step state k why).acts refl refl
news_follows link state k outcome.NoMemory utf8 kept = news_stays state

news_replies : (link : ℕ) (state : State) (line : List ℕ) (client : Client) (request : Request) → request_of client.escaped line ≡ Some request → IsStateKept link state → News state (reply_step state client request)
news_replies link state line client request e kept =
    let k = client_link client in
    let answer = reply_of state.world (context_of state) client request in
    let next = put state k answer.client in
    news_then state (reach_step next (sends k answer.messages)) (λ next. outcome_step next k answer.outcome) (news_put state next (sends k answer.messages) refl refl)
    (news_follows link next k answer.outcome (reply_text state client line request e) (kept-put link state k answer.client (reply_link state client line request e) kept))

news_came : (link : ℕ) (state : State) (k : ℕ) (line : List ℕ) → IsStateKept link state → News state (step state (LineCame k line))
news_came link state k line kept = came (at_key client_link k state.clients) where
  served : (client : Client) (o : Option Request) → request_of client.escaped line ≡ o → News state (request_step state client o)
  served client None e = news_stays state
  served client (Some request) e =
      let first = before_reply state client request in
      let tells = Tells-before Lines None link [] state client request tt kept in
      subst (λ (s : Stepped). News state s) (sym (asked_after state client request))
      (news_then state first (λ next. reply_step next client request) tells.news (news_replies link first.state line client request e tells.kept))

  came : (o : Option Client) → News state (link_line_step state k line o)
  came None = (Tells-line Lines None link [] tt state k line (at_key server_link k state.servers) kept).news
  came (Some client) = served client (request_of client.escaped line) refl

news_lost : (link : ℕ) (state : State) (k : ℕ) (why : Cause) (o : Option Client) → IsStateKept link state → News state (link_loss_step state k why o)
news_lost link state k why None kept = (Tells-loss Lines None link [] tt k why state (at_key server_link k state.servers) kept).news
news_lost link state k why (Some client) kept = news_put state (leave_step state k why).state (leave_step state k why).acts refl refl

pub step_news : (link : ℕ) (state : State) (event : Event) → IsStateKept link state → EventNews state event
step_news link state (Start moment) kept = (Tells-start Lines None link [] state moment tt kept).news
step_news link state (Tick moment) kept = (Tells-pushes Lines None link [] (ticked state moment) tt (kept-ticked link state moment kept)).news
step_news link state (Arrives k nonce) kept = by (nat_lt (length state.clients) (client_limit state.options)) where
  by : (b : Bool) → News state (arrived state k nonce b)
  by true = news_put state (arrived state k nonce true).state [] refl refl
  by false = news_put state (arrived state k nonce false).state (Closes k cause.Surplus ∷ []) refl refl
step_news link state (LineCame k line) kept = news_came link state k line kept
step_news link state (Stands k) kept = (Tells-stands Lines None link [] tt state k (at_key server_link k state.servers) kept).news
step_news link state (Ends k) kept = news_lost link state k cause.Ended (at_key client_link k state.clients) kept
step_news link state (Fails k) kept = news_lost link state k cause.Failed (at_key client_link k state.clients) kept
step_news link state (Breaks k) kept = news_lost link state k cause.BadSocket (at_key client_link k state.clients) kept
step_news link state ListenFails kept = news_stays state

-- ---- whether a client followed before an event

following-leaves : (limit : Option ℕ) (link : ℕ) (state : State) (k : ℕ) → is_following limit (at_key client_link link (without client_link k state.clients)) ≡ true → is_following limit (client_on link state) ≡ true
following-leaves limit link state k after = by (eqb link k) refl where
  by : (b : Bool) → eqb link k ≡ b → is_following limit (client_on link state) ≡ true
  by true e =
      let same : link ≡ k = grind (arith, nat_tests) in
      let gone : at_key client_link link (without client_link k state.clients) ≡ None = ap (λ n. at_key client_link n (without client_link k state.clients)) same ∙ at_key-filter_same client_link k state.clients in
      absurd (false≢true (sym (ap (is_following limit) gone) ∙ after))
  by false e = sym (ap (is_following limit) (at_key-without_other client_link k link state.clients (grind (arith, nat_tests)))) ∙ after

following-lost : (limit : Option ℕ) (link : ℕ) (state : State) (k : ℕ) (why : Cause) (o : Option Client) → IsStateKept link state → is_following limit (client_on link (link_loss_step state k why o).state) ≡ true → is_following limit (client_on link state) ≡ true
following-lost limit link state k why None kept after = sym (Tells-loss Lines limit link [] tt k why state (at_key server_link k state.servers) kept).following ∙ after
following-lost limit link state k why (Some client) kept after = following-leaves limit link state k after

following-follows : (limit : Option ℕ) (link : ℕ) (state : State) (k : ℕ) (o : Outcome) → OutcomeUtf8 o → IsStateKept link state → is_following limit (client_on link (outcome_step state k o).state) ≡ true → is_following limit (client_on link state) ≡ true
following-follows limit link state k outcome.Replied utf8 kept after = after
following-follows limit link state k outcome.Silent utf8 kept after = after
following-follows limit link state k (outcome.Input buffer text) utf8 kept after =
    sym (Tells-runs Lines limit link [] state buffer (lines_of_text text) tt kept (parted_text text utf8)).following ∙ after
following-follows limit link state k (outcome.Leave why) utf8 kept after = following-leaves limit link state k after
following-follows limit link state k outcome.NoMemory utf8 kept after = after

-- a request of another link
following-answers : (limit : Option ℕ) (link : ℕ) (state : State) (k : ℕ) (answer : Answer) → client_link answer.client ≡ k → link ≢ k → OutcomeUtf8 answer.outcome → IsStateKept link state
    → is_following limit (client_on link (answer_step state k answer).state) ≡ true → is_following limit (client_on link state) ≡ true
following-answers limit link state k answer here other utf8 kept after =
    sym (ap (is_following limit) (at_key-put_other client_link k link answer.client state.clients here other))
    ∙ following-follows limit link (put state k answer.client) k answer.outcome utf8 (kept-put link state k answer.client here kept) after

following-line : (limit : Option ℕ) (link : ℕ) (state : State) (k : ℕ) (line : List ℕ) → IsStateKept link state → asked_in link state (LineCame k line) ≡ []
    → is_following limit (client_on link (step state (LineCame k line)).state) ≡ true → is_following limit (client_on link state) ≡ true
following-line limit link state k line kept none after = came (at_key client_link k state.clients) refl after where
  other : (client : Client) (request : Request) → at_key client_link k state.clients ≡ Some client → request_of client.escaped line ≡ Some request → link ≢ client_link client
  other client request at e same =
      let key = at_key-key client_link k state.clients client at in
      let here : eqb k link ≡ true = grind (arith, nat_tests) in
      let is = sym none ∙ asked_here link k state line (Some client) here at ∙ ap (asked_with client) e in
      cc

  served : (client : Client) (o : Option Request) → at_key client_link k state.clients ≡ Some client → request_of client.escaped line ≡ o
      → is_following limit (client_on link (request_step state client o).state) ≡ true → is_following limit (client_on link state) ≡ true
  served client None at e after = after
  served client (Some request) at e after =
      let next = (before_reply state client request).state in
      let tells = Tells-before Lines limit link [] state client request tt kept in
      sym tells.following
      ∙ following-answers limit link next (client_link client) (reply_of next.world (context_of next) client request) (reply_link next client line request e) (other client request at e) (reply_text next client line request e) tells.kept
      (subst (λ (s : Stepped). is_following limit (client_on link s.state) ≡ true) (asked_after state client request) after)

  came : (o : Option Client) → at_key client_link k state.clients ≡ o → is_following limit (client_on link (link_line_step state k line o).state) ≡ true → is_following limit (client_on link state) ≡ true
  came None at after = sym (Tells-line Lines limit link [] tt state k line (at_key server_link k state.servers) kept).following ∙ after
  came (Some client) at after = served client (request_of client.escaped line) at refl after

-- A client that asked nothing at an event, and follows all events after it, did so before.
pub followed : (limit : Option ℕ) (link : ℕ) (state : State) (event : Event) → IsStateKept link state → asked_in link state event ≡ [] → is_following limit (client_on link (step state event).state) ≡ true
    → is_following limit (client_on link state) ≡ true
followed limit link state (Start moment) kept none after = sym (Tells-start Lines limit link [] state moment tt kept).following ∙ after
followed limit link state (Tick moment) kept none after = after
followed limit link state (Arrives k nonce) kept none after = by (nat_lt (length state.clients) (client_limit state.options)) after where
  came : Client
  came = new_client (record { 0 = k }) nonce

  by : (b : Bool) → is_following limit (client_on link (arrived state k nonce b).state) ≡ true → is_following limit (client_on link state) ≡ true
  by true after = sym (following-push limit link came state.clients refl) ∙ after
  by false after = after
followed limit link state (LineCame k line) kept none after = following-line limit link state k line kept none after
followed limit link state (Stands k) kept none after = sym (Tells-stands Lines limit link [] tt state k (at_key server_link k state.servers) kept).following ∙ after
followed limit link state (Ends k) kept none after = following-lost limit link state k cause.Ended (at_key client_link k state.clients) kept after
followed limit link state (Fails k) kept none after = following-lost limit link state k cause.Failed (at_key client_link k state.clients) kept after
followed limit link state (Breaks k) kept none after = following-lost limit link state k cause.BadSocket (at_key client_link k state.clients) kept after
followed limit link state ListenFails kept none after = after
