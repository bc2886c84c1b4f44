-- A request leaves its client on its link, and what it types is text.
use Rattle.std.proofs.Common.{◌≡◌, ℕ, Bool, true, false, cond, not, ◌&&◌, ◌||◌, List, [], ◌∷◌, Option, Some, None, refl}
use Rattle.std.specs.Option.{is_none}
use Rattle.std.specs.Str.{IsUtf8}
use Rattle.wc_text.specs.declared.names.Pair.{Pair}
use Rattle.wc_text.specs.declared.names.Cause.TheVariants as cause
use Rattle.wc_text.specs.declared.names.Handle.{Handle}
use Rattle.wc_buffers.specs.Calls.{EntryGroups}
use Rattle.wc_model.specs.World.{World}
use Rattle.wc_relaycmd.specs.declared.request.Command.{Command}
use Rattle.wc_relaycmd.specs.declared.request.Command.TheVariants as ask
use Rattle.wc_relaycmd.specs.declared.request.Request.{Request}
use Rattle.wc_relaycmd.specs.Utf8.{CommandUtf8, RequestIsUtf8}
use Rattle.wc_objects.specs.declared.object.WireMessage.{WireMessage}
use Rattle.wc_session.specs.declared.client.Client.{Client}
use Rattle.wc_session.specs.declared.outcome.Outcome.TheVariants as outcome
use Rattle.wc_session.specs.Handshakes.{choice_in, algorithm_for, asks_escapes}
use Rattle.wc_session.specs.Logins.{pairs_let_in}
use Rattle.wc_session.specs.Names.{buffer_named}
use Rattle.wc_session.specs.Sync.{synchronized, desynchronized}
use Rattle.wc_session.specs.RequestContext.{Context}
use Rattle.wc_session.specs.Heeded.{password_of, masks_of}
use Rattle.wc_session.specs.Reply.{Answer, silent, leaves, replies, shaken, handshake_reply, handshake_answer, init_answer, typed_into, input_answer, is_open, served, reply_of}
use Rattle.wc_core.specs.Served.{OutcomeUtf8}

pub record Fits (client : Client) (answer : Answer) : Type 0 where
  pub link : answer.client.link ≡ client.link
  pub text : OutcomeUtf8 answer.outcome

if_fits : (client : Client) (b : Bool) (x y : Answer) → Fits client x → Fits client y → Fits client (cond b x y)
if_fits client true x y p q = p
if_fits client false x y p q = q

silent_fits : (client after : Client) → after.link ≡ client.link → Fits client (silent after)
silent_fits client after e = record { link = e; text = tt }

replies_fits : (client after : Client) (messages : List WireMessage) → after.link ≡ client.link → Fits client (replies after messages)
replies_fits client after [] e = record { link = e; text = tt }
replies_fits client after (m ∷ messages) e = record { link = e; text = tt }

link_if : (b : Bool) (a b' : Client) → b'.link ≡ a.link → (cond b a b').link ≡ a.link
link_if true a b' e = refl
link_if false a b' e = e

shaken_link : (masks : List ℕ) (client : Client) (pairs : List Pair) → (shaken masks client pairs).link ≡ client.link
unfolding shaken
shaken_link masks client pairs = link_if client.logged_in client (record client { chosen = choice_in masks pairs; escaped = asks_escapes pairs }) refl

handshake_fits : (masks : List ℕ) (client : Client) (id : List ℕ) (pairs : List Pair) → Fits client (handshake_answer masks client id pairs)
unfolding handshake_answer
handshake_fits masks client id pairs =
    if_fits client (not client.logged_in && is_none (choice_in masks pairs))
    (record { messages = handshake_reply masks client id pairs; outcome = outcome.Leave cause.LoginFailed; client = shaken masks client pairs })
    (replies (shaken masks client pairs) (handshake_reply masks client id pairs))
    (record { link = shaken_link masks client pairs; text = tt }) (replies_fits client (shaken masks client pairs) (handshake_reply masks client id pairs) (shaken_link masks client pairs))

init_fits : (masks password : List ℕ) (client : Client) (pairs : List Pair) → Fits client (init_answer masks password client pairs)
unfolding init_answer
init_fits masks password client pairs =
    let let_in : Client = record client { logged_in = true } in
    if_fits client client.logged_in (silent client) (cond (pairs_let_in pairs password client.nonce (algorithm_for masks client.chosen)) (silent let_in) (leaves client cause.LoginFailed))
    (silent_fits client client refl)
    (if_fits client (pairs_let_in pairs password client.nonce (algorithm_for masks client.chosen)) (silent let_in) (leaves client cause.LoginFailed) (silent_fits client let_in refl) (record { link = refl; text = tt }))

typed_fits : (client : Client) (text : List ℕ) (buffer : Option Handle) → IsUtf8 text → Fits client (typed_into client text buffer)
typed_fits client text None utf8 = silent_fits client client refl
typed_fits client text (Some buffer) utf8 = record { link = refl; text = utf8 }

input_fits : (groups : EntryGroups) (client : Client) (buffer text : List ℕ) → IsUtf8 text → Fits client (input_answer groups client buffer text)
input_fits groups client buffer text utf8 = typed_fits client text (buffer_named groups buffer) utf8

synchronized_link : (groups : EntryGroups) (client : Client) (buffers : List (List ℕ)) (options : Option (List (List ℕ))) → (synchronized groups client buffers options).link ≡ client.link
unfolding synchronized
synchronized_link groups client buffers options = refl

desynchronized_link : (groups : EntryGroups) (client : Client) (buffers : List (List ℕ)) (options : Option (List (List ℕ))) → (desynchronized groups client buffers options).link ≡ client.link
unfolding desynchronized
desynchronized_link groups client buffers options = refl

served_fits : (world : World) (context : Context) (client : Client) (id : List ℕ) (command : Command) → CommandUtf8 command → Fits client (served world context client id command)
unfolding served CommandUtf8
served_fits world context client id (ask.Handshake pairs) utf8 = handshake_fits (masks_of context.options) client id pairs
served_fits world context client id (ask.Init pairs) utf8 = init_fits (masks_of context.options) (password_of context.options) client pairs
served_fits world context client id (ask.Hdata path keys) utf8 = replies_fits client client _ refl
served_fits world context client id (ask.Info name) utf8 = replies_fits client client _ refl
served_fits world context client id (ask.Infolist name argument) utf8 = replies_fits client client _ refl
served_fits world context client id (ask.Nicklist buffer) utf8 = replies_fits client client _ refl
served_fits world context client id (ask.Input buffer text) utf8 = input_fits world.groups client buffer text utf8.1
served_fits world context client id (ask.Completion buffer position text) utf8 = replies_fits client client _ refl
served_fits world context client id (ask.Sync buffers asked) utf8 = silent_fits client (synchronized world.groups client buffers asked) (synchronized_link world.groups client buffers asked)
served_fits world context client id (ask.Desync buffers asked) utf8 = silent_fits client (desynchronized world.groups client buffers asked) (desynchronized_link world.groups client buffers asked)
served_fits world context client id ask.Test utf8 = replies_fits client client _ refl
served_fits world context client id (ask.Ping text) utf8 = replies_fits client client _ refl
served_fits world context client id ask.Quit utf8 = record { link = refl; text = tt }

pub reply_fits : (world : World) (context : Context) (client : Client) (request : Request) → RequestIsUtf8 request → Fits client (reply_of world context client request)
unfolding reply_of
reply_fits world context client request utf8 =
    if_fits client (client.logged_in || is_open request.command) (served world context client request.id request.command) (leaves client cause.LoginFailed)
    (served_fits world context client request.id request.command utf8.command) (record { link = refl; text = tt })
