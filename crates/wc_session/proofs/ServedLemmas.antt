-- Want of memory is no answer of the definition.
use Rattle.std.proofs.Common.{◌≡◌, ℕ, Bool, true, false, not, ◌&&◌, ◌||◌, List, [], ◌∷◌, Option, Some, None, sym, subst}
use Rattle.std.specs.Option.{is_none}
use Rattle.std.specs.Prelude.{if◌then◌else◌}
use Rattle.wc_text.specs.declared.names.Pair.{Pair}
use Rattle.wc_text.specs.declared.names.Cause.TheVariants as cause
use Rattle.wc_text.specs.declared.names.Handle.{Handle}
use Rattle.wc_buffers.specs.Calls.{EntryGroups}
use Rattle.wc_model.specs.World.{World}
use Rattle.wc_relaycmd.specs.declared.request.Command.{Command}
use Rattle.wc_relaycmd.specs.declared.request.Command.TheVariants as ask
use Rattle.wc_relaycmd.specs.declared.request.Request.{Request}
use Rattle.wc_objects.specs.declared.object.WireMessage.{WireMessage}
use Rattle.wc_session.specs.declared.client.Client.{Client}
use Rattle.wc_session.specs.declared.outcome.Outcome.{Outcome}
use Rattle.wc_session.specs.declared.outcome.Outcome.TheVariants as outcome
use Rattle.wc_session.specs.Handshakes.{choice_in, algorithm_for}
use Rattle.wc_session.specs.Logins.{pairs_let_in}
use Rattle.wc_session.specs.Names.{buffer_named}
use Rattle.wc_session.specs.Reply.{Answer, silent, leaves, replies, typed_into, shaken, handshake_reply, handshake_answer, init_answer, input_answer, is_open, served, reply_of}
use Rattle.wc_session.specs.RequestContext.{Context}
use Rattle.wc_session.specs.Heeded.{password_of, masks_of}
use Rattle.wc_session.specs.Served.{OnNoMemory, OnServed}

abbrev IsServed : Outcome → Type 0
IsServed outcome.NoMemory = ⊥
IsServed _ = Unit {0}

if_served : (b : Bool) (x y : Answer) → IsServed x.outcome → IsServed y.outcome → IsServed (if b then x else y).outcome
if_served true x y p q = p
if_served false x y p q = q

replies_served : (client : Client) (messages : List WireMessage) → IsServed (replies client messages).outcome
replies_served client [] = tt
replies_served client (m ∷ messages) = tt

handshake_served : (masks : List ℕ) (client : Client) (id : List ℕ) (pairs : List Pair) → IsServed (handshake_answer masks client id pairs).outcome
unfolding handshake_answer
handshake_served masks client id pairs =
    if_served (not client.logged_in && is_none (choice_in masks pairs))
    (record { messages = handshake_reply masks client id pairs; outcome = outcome.Leave cause.LoginFailed; client = shaken masks client pairs })
    (replies (shaken masks client pairs) (handshake_reply masks client id pairs)) tt (replies_served (shaken masks client pairs) (handshake_reply masks client id pairs))

init_served : (masks password : List ℕ) (client : Client) (pairs : List Pair) → IsServed (init_answer masks password client pairs).outcome
unfolding init_answer
init_served masks password client pairs =
    let let_in = record client { logged_in = true } in
    if_served client.logged_in (silent client) (if pairs_let_in pairs password client.nonce (algorithm_for masks client.chosen) then silent let_in else leaves client cause.LoginFailed)
    tt (if_served (pairs_let_in pairs password client.nonce (algorithm_for masks client.chosen)) (silent let_in) (leaves client cause.LoginFailed) tt tt)

typed_served : (client : Client) (text : List ℕ) (buffer : Option Handle) → IsServed (typed_into client text buffer).outcome
typed_served client text None = tt
typed_served client text (Some buffer) = tt

input_served : (groups : EntryGroups) (client : Client) (buffer text : List ℕ) → IsServed (input_answer groups client buffer text).outcome
input_served groups client buffer text = typed_served client text (buffer_named groups buffer)

served_served : (world : World) (context : Context) (client : Client) (id : List ℕ) (command : Command) → IsServed (served world context client id command).outcome
unfolding served
served_served world context client id (ask.Handshake pairs) = handshake_served (masks_of context.options) client id pairs
served_served world context client id (ask.Init pairs) = init_served (masks_of context.options) (password_of context.options) client pairs
served_served world context client id (ask.Hdata path keys) = replies_served client _
served_served world context client id (ask.Info name) = replies_served client _
served_served world context client id (ask.Infolist name argument) = replies_served client _
served_served world context client id (ask.Nicklist buffer) = replies_served client _
served_served world context client id (ask.Input buffer text) = input_served world.groups client buffer text
served_served world context client id (ask.Completion buffer position text) = replies_served client _
served_served world context client id (ask.Sync buffers asked) = tt
served_served world context client id (ask.Desync buffers asked) = tt
served_served world context client id ask.Test = replies_served client _
served_served world context client id (ask.Ping text) = replies_served client _
served_served world context client id ask.Quit = tt

reply_served : (world : World) (context : Context) (client : Client) (request : Request) → IsServed (reply_of world context client request).outcome
unfolding reply_of
reply_served world context client request =
    if_served (client.logged_in || is_open request.command) (served world context client request.id request.command) (leaves client cause.LoginFailed)
    (served_served world context client request.id request.command) tt

not_refused : (o : Outcome) (fact : Type 0) → IsServed o → OnNoMemory o fact
not_refused outcome.Replied fact h = tt
not_refused outcome.Silent fact h = tt
not_refused (outcome.Input buffer text) fact h = tt
not_refused (outcome.Leave why) fact h = tt
not_refused outcome.NoMemory fact h = absurd h

-- what a request gets is never want of memory
pub answer_not_refused : (world : World) (context : Context) (client : Client) (request : Request) (o : Outcome) (fact : Type 0)
    → o ≡ (reply_of world context client request).outcome → OnNoMemory o fact
answer_not_refused world context client request o fact e =
    let P : Outcome → Type 0 = λ o. IsServed o in
    not_refused o fact (subst P (sym e) (reply_served world context client request))

pub on_served : (o : Outcome) (fact : Type 0) → fact → OnServed o fact
on_served outcome.Replied fact h = h
on_served outcome.Silent fact h = h
on_served (outcome.Input buffer text) fact h = h
on_served (outcome.Leave why) fact h = h
on_served outcome.NoMemory fact h = tt
