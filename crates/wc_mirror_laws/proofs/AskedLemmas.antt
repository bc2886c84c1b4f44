-- What comes before a reply: before nicklists what is to be pushed, and else nothing.
use Rattle.std.proofs.Common.{◌≡◌, ℕ, Bool, true, false, cond, not, ◌&&◌, ◌||◌, List, [], ◌∷◌, Option, None, Some, refl, sym, ap, subst, ◌∙◌}
use Rattle.std.specs.Prelude.{is_none, codes}
use Rattle.std.proofs.lemmas.Bool.{false≢true}
use Rattle.wc_text.specs.declared.names.Handle.{Handle}
use Rattle.wc_text.specs.declared.names.Pair.{Pair}
use Rattle.wc_text.specs.Splits.{BeginsWithout}
use Rattle.wc_text.specs.declared.names.Cause.TheVariants as cause
use Rattle.wc_outside.specs.Keyed.{at_key, put_at}
use Rattle.wc_outside.proofs.KeyedLemmas.{put_at-same}
use Rattle.wc_model.specs.World.{World}
use Rattle.wc_objects.specs.declared.object.WireMessage.{WireMessage}
use Rattle.wc_session.specs.RequestContext.{Context}
use Rattle.wc_relaycmd.specs.declared.request.Command.{Command}
use Rattle.wc_relaycmd.specs.declared.request.Command.TheVariants as ask
use Rattle.wc_relaycmd.specs.declared.request.Request.{Request}
use Rattle.wc_session.specs.declared.client.Client.{Client}
use Rattle.wc_session.specs.declared.outcome.Outcome.{Outcome}
use Rattle.wc_session.specs.declared.outcome.Outcome.TheVariants as outcome
use Rattle.wc_session.specs.Completions.{completion_objects}
use Rattle.wc_session.specs.Handshakes.{choice_in, algorithm_for}
use Rattle.wc_session.specs.Heeded.{password_of, masks_of}
use Rattle.wc_session.specs.Logins.{pairs_let_in}
use Rattle.wc_session.specs.Names.{buffer_named}
use Rattle.wc_session.specs.Reply.{Answer, silent, leaves, replies, shaken, handshake_reply, handshake_answer, init_answer, typed_into, is_open, test_objects, hdata_answered, info_objects, infolist_objects, nicklist_objects, pong_objects, served, reply_of}
use Rattle.wc_session.specs.Sending.{reply}
use Rattle.wc_board.specs.Answered.{is_nicklist}
use Rattle.wc_core.specs.Contexts.{context_of}
use Rattle.wc_core.specs.State.{State, Stepped}
use Rattle.wc_core.specs.Step.{client_link, no_step, then_does, push_step, answer_step, reply_step, request_step}
use Rattle.wc_mirror_laws.specs.Held.{HeldPart, Lines, Buffers, Nicks, HeldOf, Has, asks_dump}
use Rattle.wc_mirror_laws.specs.Kept.{IsStateKept}
use Rattle.wc_mirror_laws.specs.Mirrors.{mirror_after}
use Rattle.wc_mirror_laws.specs.Settled.{client_on, is_following}
use Rattle.wc_mirror_laws.proofs.ChangeLemmas.{Tells, Tells-stays}
use Rattle.wc_mirror_laws.proofs.HeldLemmas.{IsAllTold}
use Rattle.wc_mirror_laws.proofs.PushLemmas.{push_right, Tells-pushes}

-- a client that logged in asks for nicklists
abbrev pub lists_nicks : Client → Request → Bool
lists_nicks client request = client.logged_in && is_nicklist request.command

abbrev pub pushed_if : Bool → State → Stepped
pushed_if true state = push_step state
pushed_if false state = no_step state

-- what comes before the reply to a request
abbrev pub before_reply : State → Client → Request → Stepped
before_reply state client request = pushed_if (lists_nicks client request) state

pub asked_after : (state : State) (client : Client) (request : Request) → request_step state client (Some request) ≡ then_does (before_reply state client request) (λ next. reply_step next client request)
asked_after state client request = by (lists_nicks client request) where
  by : (b : Bool) → cond b (then_does (push_step state) (λ next. reply_step next client request)) (reply_step state client request) ≡ then_does (pushed_if b state) (λ next. reply_step next client request)
  by true = refl
  by false = refl

tells_if : (which : HeldPart) (limit : Option ℕ) (link : ℕ) (id : List ℕ) (state : State) (b : Bool) → BeginsWithout 95 id → IsStateKept link state → Tells which limit link id state (pushed_if b state)
tells_if which limit link id state true free kept = Tells-pushes which limit link id state free kept
tells_if which limit link id state false free kept = Tells-stays which limit link id state kept

pub Tells-before : (which : HeldPart) (limit : Option ℕ) (link : ℕ) (id : List ℕ) (state : State) (client : Client) (request : Request) → BeginsWithout 95 id → IsStateKept link state → Tells which limit link id state (before_reply state client request)
Tells-before which limit link id state client request free kept = tells_if which limit link id state (lists_nicks client request) free kept

-- pushes change no client
same_if : (state : State) (b : Bool) → (pushed_if b state).state.clients ≡ state.clients
same_if state true = refl
same_if state false = refl

pub before_clients : (state : State) (client : Client) (request : Request) → (before_reply state client request).state.clients ≡ state.clients
before_clients state client request = same_if state (lists_nicks client request)

-- where all was told nothing is
pub told_already : (state : State) (b : Bool) → state.told ≡ state.world.nicks → (pushed_if b state).state ≡ state
told_already state true told = λ i. record state { told = sym told i }
told_already state false told = refl

-- ---- the dump

asks_nicks : (command : Command) → asks_dump Nicks command ≡ true → is_nicklist command ≡ true
asks_nicks (ask.Nicklist buffer) e = refl
asks_nicks _ e = absurd (false≢true e)

-- before the dump of nicklists all is told
pub all_told : (which : HeldPart) (state : State) (client : Client) (request : Request) → client.logged_in ≡ true → asks_dump which request.command ≡ true → IsAllTold which (before_reply state client request).state
all_told Lines state client request logged e = tt
all_told Buffers state client request logged e = tt
all_told Nicks state client request logged e =
    subst (λ b. IsAllTold Nicks (pushed_if b state).state) (λ i. sym logged i && sym (asks_nicks request.command e) i) refl

-- ---- the reply to `nicklist` leaves its client as it is

abbrev IsReply : Client → Answer → Type 0
IsReply client answer = (messages : List WireMessage) × (answer ≡ replies client messages)

nick_served : (world : World) (context : Context) (client : Client) (id : List ℕ) (command : Command) → is_nicklist command ≡ true → IsReply client (served world context client id command)
unfolding served
nick_served world context client id (ask.Nicklist buffer) e = (reply id (nicklist_objects world buffer), refl)
nick_served world context client id _ e = absurd (false≢true e)

nick_answer : (world : World) (context : Context) (client : Client) (request : Request) → client.logged_in ≡ true → is_nicklist request.command ≡ true → IsReply client (reply_of world context client request)
unfolding reply_of
nick_answer world context client request logged e =
    let is = nick_served world context client request.id request.command e in
    (is.0, ap (λ b. cond (b || is_open request.command) (served world context client request.id request.command) (leaves client cause.LoginFailed)) logged ∙ is.1)

replied_clients : (state : State) (k : ℕ) (client : Client) (messages : List WireMessage) → (answer_step state k (replies client messages)).state.clients ≡ put_at client_link k client state.clients
replied_clients state k client [] = refl
replied_clients state k client (m ∷ messages) = refl

nick_clients : (state : State) (client : Client) (request : Request) → lists_nicks client request ≡ true → at_key client_link (client_link client) state.clients ≡ Some client → (reply_step state client request).state.clients ≡ state.clients
nick_clients state client request e at =
    let both = parts client.logged_in (is_nicklist request.command) e in
    let is = nick_answer state.world (context_of state) client request both.0 both.1 in
    ap (λ a. (answer_step state (client_link client) a).state.clients) is.1
    ∙ replied_clients state (client_link client) client is.0 ∙ put_at-same client_link (client_link client) state.clients client at
  where
    parts : (a b : Bool) → a && b ≡ true → (a ≡ true) × (b ≡ true)
    parts true b e = (refl, e)
    parts false b e = absurd (false≢true e)

-- ---- what is typed leaves its client as it is

-- what holds of an answer that asks for an input
abbrev pub OnInput : Outcome → Type 0 → Type 0
OnInput (outcome.Input buffer text) P = P
OnInput _ P = Unit {0}

abbrev StaysAtInput : Client → Answer → Type 0
StaysAtInput client answer = OnInput answer.outcome (answer.client ≡ client)

replies_stay : (client : Client) (c : Client) (messages : List WireMessage) → StaysAtInput client (replies c messages)
replies_stay client c [] = tt
replies_stay client c (m ∷ messages) = tt

if_stays : (client : Client) (b : Bool) (x y : Answer) → StaysAtInput client x → StaysAtInput client y → StaysAtInput client (cond b x y)
if_stays client true x y p q = p
if_stays client false x y p q = q

shaken_stays : (masks : List ℕ) (client : Client) (id : List ℕ) (pairs : List Pair) → StaysAtInput client (handshake_answer masks client id pairs)
unfolding handshake_answer
shaken_stays masks client id pairs =
    if_stays client (not client.logged_in && is_none (choice_in masks pairs)) _ (replies (shaken masks client pairs) (handshake_reply masks client id pairs)) tt (replies_stay client (shaken masks client pairs) (handshake_reply masks client id pairs))

init_stays : (masks password : List ℕ) (client : Client) (pairs : List Pair) → StaysAtInput client (init_answer masks password client pairs)
unfolding init_answer
init_stays masks password client pairs =
    let lets = pairs_let_in pairs password client.nonce (algorithm_for masks client.chosen) in
    let inside = silent (record client { logged_in = true }) in
    let outside = leaves client cause.LoginFailed in
    if_stays client client.logged_in (silent client) (cond lets inside outside) tt (if_stays client lets inside outside tt tt)

typed_stays : (client : Client) (text : List ℕ) (buffer : Option Handle) → StaysAtInput client (typed_into client text buffer)
typed_stays client text None = tt
typed_stays client text (Some buffer) = refl

served_stays : (world : World) (context : Context) (client : Client) (id : List ℕ) (command : Command) → StaysAtInput client (served world context client id command)
unfolding served
served_stays world context client id (ask.Handshake pairs) = shaken_stays (masks_of context.options) client id pairs
served_stays world context client id (ask.Init pairs) = init_stays (masks_of context.options) (password_of context.options) client pairs
served_stays world context client id (ask.Hdata path keys) = replies_stay client client (reply id (hdata_answered world context.hotlist path keys))
served_stays world context client id (ask.Info name) = replies_stay client client (reply id (info_objects name))
served_stays world context client id (ask.Infolist name argument) = replies_stay client client (reply id (infolist_objects world name argument))
served_stays world context client id (ask.Nicklist buffer) = replies_stay client client (reply id (nicklist_objects world buffer))
served_stays world context client id (ask.Input buffer text) = typed_stays client text (buffer_named world.groups buffer)
served_stays world context client id (ask.Completion buffer position text) = replies_stay client client (reply id (completion_objects world context.commands buffer position text))
served_stays world context client id (ask.Sync buffers asked) = tt
served_stays world context client id (ask.Desync buffers asked) = tt
served_stays world context client id ask.Test = replies_stay client client (reply id test_objects)
served_stays world context client id (ask.Ping text) = replies_stay client client (reply (codes "_pong") (pong_objects text))
served_stays world context client id ask.Quit = tt

pub input_stays : (world : World) (context : Context) (client : Client) (request : Request) → StaysAtInput client (reply_of world context client request)
unfolding reply_of
input_stays world context client request =
    if_stays client (client.logged_in || is_open request.command) (served world context client request.id request.command) (leaves client cause.LoginFailed) (served_stays world context client request.id request.command) tt

-- ---- what was followed before a reply

-- so whoever follows after the reply did so before what was pushed
pub followed_before : (limit : Option ℕ) (link : ℕ) (state : State) (client : Client) (request : Request) → at_key client_link (client_link client) state.clients ≡ Some client → lists_nicks client request ≡ true
    → is_following limit (client_on link (reply_step (before_reply state client request).state client request).state) ≡ true → is_following limit (client_on link state) ≡ true
followed_before limit link state client request at e after =
    let next = (before_reply state client request).state in
    let same = before_clients state client request in
    let there = ap (λ clients. at_key client_link (client_link client) clients) same ∙ at in
    sym (ap (λ clients. is_following limit (at_key client_link link clients)) (nick_clients next client request e there ∙ same)) ∙ after

-- whoever had a part has it before the reply
pub before_right : (which : HeldPart) (limit : Option ℕ) (link : ℕ) (id : List ℕ) (state : State) (client : Client) (request : Request) (part : HeldOf which) → IsStateKept link state → BeginsWithout 95 id
    → at_key client_link (client_link client) state.clients ≡ Some client → is_following limit (client_on link (reply_step (before_reply state client request).state client request).state) ≡ true
    → Has which part state → Has which (mirror_after which limit link id part (before_reply state client request).acts) (before_reply state client request).state
before_right which limit link id state client request part kept free at after had =
    by (lists_nicks client request) (λ e. followed_before limit link state client request at e after)
  where
    by : (b : Bool) → (b ≡ true → is_following limit (client_on link state) ≡ true) → Has which (mirror_after which limit link id part (pushed_if b state).acts) (pushed_if b state).state
    by true follows = push_right which limit link id state part kept free (follows refl) had
    by false follows = had
