-- A request leaves its client on its link.
use Rattle.std.proofs.Common.{◌≡◌, ℕ, Bool, true, false, cond, not, ◌&&◌, ◌||◌, List, [], ◌∷◌, Option, Some, None, refl, ap, ◌∙◌}
use Rattle.std.specs.Option.{is_none}
use Rattle.wc_text.specs.declared.names.Pair.{Pair}
use Rattle.wc_text.specs.declared.names.Cause.TheVariants as cause
use Rattle.wc_text.specs.declared.names.Handle.{Handle}
use Rattle.wc_buffers.specs.Calls.{EntryGroups}
use Rattle.wc_model.specs.World.{World}
use Rattle.wc_session.specs.RequestContext.{Context}
use Rattle.wc_objects.specs.declared.object.WireMessage.{WireMessage}
use Rattle.wc_relaycmd.specs.declared.request.Command.{Command}
use Rattle.wc_relaycmd.specs.declared.request.Command.TheVariants as ask
use Rattle.wc_relaycmd.specs.declared.request.Request.{Request}
use Rattle.wc_session.specs.declared.client.Client.{Client}
use Rattle.wc_session.specs.declared.outcome.Outcome.{Outcome}
use Rattle.wc_session.specs.declared.outcome.Outcome.TheVariants as outcome
use Rattle.wc_session.specs.Handshakes.{choice_in, algorithm_for, asks_escapes}
use Rattle.wc_session.specs.Heeded.{password_of, masks_of}
use Rattle.wc_session.specs.Known.{Known}
use Rattle.wc_session.specs.Logins.{pairs_let_in}
use Rattle.wc_session.specs.Names.{buffer_named}
use Rattle.wc_session.specs.Reply.{Answer, silent, leaves, replies, shaken, handshake_reply, handshake_answer, init_answer, typed_into, input_answer, is_open, served, reply_of}
use Rattle.wc_session.specs.Served.{OnServed, OnNoMemory, AnswersRequest}
use Rattle.wc_session.specs.Sync.{synchronized, desynchronized}

abbrev Keeps : Client → Answer → Type 0
Keeps client answer = answer.client.link ≡ client.link

keeps_if : (client : Client) (b : Bool) (x y : Answer) → Keeps client x → Keeps client y → Keeps client (cond b x y)
keeps_if client true x y p q = p
keeps_if client false x y p q = q

replies_keep : (client : Client) (messages : List WireMessage) → Keeps client (replies client messages)
replies_keep client [] = refl
replies_keep client (m ∷ messages) = refl

replies_keep_link : (client after : Client) (messages : List WireMessage) → after.link ≡ client.link → Keeps client (replies after messages)
replies_keep_link client after [] e = e
replies_keep_link client after (m ∷ messages) e = e

link_if : (b : Bool) (a b' : Client) → b'.link ≡ a.link → (cond b a b').link ≡ a.link
link_if true a b' e = refl
link_if false a b' e = e

shaken_link : (masks : List ℕ) (client : Client) (pairs : List Pair) → (shaken masks client pairs).link ≡ client.link
unfolding shaken
shaken_link masks client pairs = link_if client.logged_in client (record client { chosen = choice_in masks pairs; escaped = asks_escapes pairs }) refl

handshake_keeps : (masks : List ℕ) (client : Client) (id : List ℕ) (pairs : List Pair) → Keeps client (handshake_answer masks client id pairs)
unfolding handshake_answer
handshake_keeps masks client id pairs =
    keeps_if client (not client.logged_in && is_none (choice_in masks pairs))
    (record { messages = handshake_reply masks client id pairs; outcome = outcome.Leave cause.LoginFailed; client = shaken masks client pairs })
    (replies (shaken masks client pairs) (handshake_reply masks client id pairs))
    (shaken_link masks client pairs) (replies_keep_link client (shaken masks client pairs) (handshake_reply masks client id pairs) (shaken_link masks client pairs))

init_keeps : (masks password : List ℕ) (client : Client) (pairs : List Pair) → Keeps client (init_answer masks password client pairs)
unfolding init_answer
init_keeps masks password client pairs =
    let let_in : Client = record client { logged_in = true } in
    keeps_if client client.logged_in (silent client) (cond (pairs_let_in pairs password client.nonce (algorithm_for masks client.chosen)) (silent let_in) (leaves client cause.LoginFailed))
    refl
    (keeps_if client (pairs_let_in pairs password client.nonce (algorithm_for masks client.chosen)) (silent let_in) (leaves client cause.LoginFailed) refl refl)

typed_keeps : (client : Client) (text : List ℕ) (buffer : Option Handle) → Keeps client (typed_into client text buffer)
typed_keeps client text None = refl
typed_keeps client text (Some buffer) = refl

input_keeps : (groups : EntryGroups) (client : Client) (buffer text : List ℕ) → Keeps client (input_answer groups client buffer text)
input_keeps groups client buffer text = typed_keeps client text (buffer_named groups buffer)

synchronized_link : (groups : EntryGroups) (client : Client) (buffers : List (List ℕ)) (options : Option (List (List ℕ))) → (synchronized groups client buffers options).link ≡ client.link
unfolding synchronized
synchronized_link groups client buffers options = refl

desynchronized_link : (groups : EntryGroups) (client : Client) (buffers : List (List ℕ)) (options : Option (List (List ℕ))) → (desynchronized groups client buffers options).link ≡ client.link
unfolding desynchronized
desynchronized_link groups client buffers options = refl

served_keeps : (world : World) (context : Context) (client : Client) (id : List ℕ) (command : Command) → Keeps client (served world context client id command)
unfolding served
served_keeps world context client id (ask.Handshake pairs) = handshake_keeps (masks_of context.options) client id pairs
served_keeps world context client id (ask.Init pairs) = init_keeps (masks_of context.options) (password_of context.options) client pairs
served_keeps world context client id (ask.Hdata path keys) = replies_keep client _
served_keeps world context client id (ask.Info name) = replies_keep client _
served_keeps world context client id (ask.Infolist name argument) = replies_keep client _
served_keeps world context client id (ask.Nicklist buffer) = replies_keep client _
served_keeps world context client id (ask.Input buffer text) = input_keeps world.groups client buffer text
served_keeps world context client id (ask.Completion buffer position text) = replies_keep client _
served_keeps world context client id (ask.Sync buffers asked) = synchronized_link world.groups client buffers asked
served_keeps world context client id (ask.Desync buffers asked) = desynchronized_link world.groups client buffers asked
served_keeps world context client id ask.Test = replies_keep client _
served_keeps world context client id (ask.Ping text) = replies_keep client _
served_keeps world context client id ask.Quit = refl

reply_keeps : (world : World) (context : Context) (client : Client) (request : Request) → Keeps client (reply_of world context client request)
unfolding reply_of
reply_keeps world context client request =
    keeps_if client (client.logged_in || is_open request.command) (served world context client request.id request.command) (leaves client cause.LoginFailed)
    (served_keeps world context client request.id request.command) refl

-- the session of a client before and after its request
pub answered_link : (world : World) (context : Context) (request : Request) (old new : Known) (result : Outcome) → OnServed result (AnswersRequest old new result (reply_of world context old.client request)) → OnNoMemory result (new ≡ old) → new.client.link ≡ old.client.link
answered_link world context request old new result answered refused = by result answered refused where
  done : (r : Outcome) → AnswersRequest old new r (reply_of world context old.client request) → new.client.link ≡ old.client.link
  done r is = ap (λ (client : Client). client.link) is.client ∙ reply_keeps world context old.client request

  by : (r : Outcome) → OnServed r (AnswersRequest old new r (reply_of world context old.client request)) → OnNoMemory r (new ≡ old) → new.client.link ≡ old.client.link
  by outcome.Replied answered same = done outcome.Replied answered
  by outcome.Silent answered same = done outcome.Silent answered
  by (outcome.Input buffer text) answered same = done (outcome.Input buffer text) answered
  by (outcome.Leave why) answered same = done (outcome.Leave why) answered
  by outcome.NoMemory answered same = ap (λ (known : Known). known.client.link) same
