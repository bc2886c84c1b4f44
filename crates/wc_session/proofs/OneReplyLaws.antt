-- A request gets one message under its id, or none.
use Rattle.std.proofs.Common.{ℕ, Bool, true, false, not, ◌&&◌, ◌||◌, List, [], ◌∷◌, Option, Some, None, refl, codes}
use Rattle.std.specs.Option.{is_none}
use Rattle.std.specs.Prelude.{if◌then◌else◌}
use Rattle.wc_text.specs.declared.names.Pair.{Pair}
use Rattle.wc_text.specs.declared.names.Cause.TheVariants as cause
use Rattle.wc_text.specs.declared.names.Handle.{Handle}
use Rattle.wc_buffers.specs.Calls.{EntryGroups}
use Rattle.wc_model.specs.World.{World}
use Rattle.wc_relaycmd.specs.declared.request.Command.{Command}
use Rattle.wc_relaycmd.specs.declared.request.Command.TheVariants as ask
use Rattle.wc_relaycmd.specs.declared.request.Request.{Request}
use Rattle.wc_objects.specs.declared.object.Object.{Object}
use Rattle.wc_objects.specs.declared.object.WireMessage.{WireMessage}
use Rattle.wc_session.specs.declared.client.Client.{Client}
use Rattle.wc_session.specs.declared.outcome.Outcome.TheVariants as outcome
use Rattle.wc_session.specs.Handshakes.{choice_in, algorithm_for}
use Rattle.wc_session.specs.Logins.{pairs_let_in}
use Rattle.wc_session.specs.Names.{buffer_named}
use Rattle.wc_session.specs.OneReply.{AtMostOne, IsOneReply, id_of_reply}
use Rattle.wc_session.specs.Reply.{Answer, silent, leaves, replies, typed_into, shaken, handshake_reply, handshake_answer, init_answer, input_answer, is_open, served, reply_of}
use Rattle.wc_session.specs.RequestContext.{Context}
use Rattle.wc_session.specs.Heeded.{password_of, masks_of}
use Rattle.wc_session.specs.Sending.{message, fits, fitting, null_hdata, reply}

if_one : (id : List ℕ) (b : Bool) (x y : List WireMessage) → AtMostOne id x → AtMostOne id y → AtMostOne id (if b then x else y)
if_one id true x y p q = p
if_one id false x y p q = q

if_answers_one : (id : List ℕ) (b : Bool) (x y : Answer) → AtMostOne id x.messages → AtMostOne id y.messages → AtMostOne id (if b then x else y).messages
if_answers_one id true x y p q = p
if_answers_one id false x y p q = q

fitting_one : (id : List ℕ) (objects : List Object) → AtMostOne id (fitting (message id objects))
unfolding fitting
fitting_one id objects = if_one id (fits (message id objects)) (message id objects ∷ []) [] refl tt

reply_one : (id : List ℕ) (objects : List Object) → AtMostOne id (reply id objects)
unfolding reply
reply_one id objects = if_one id (fits (message id objects)) (message id objects ∷ []) (fitting (message id null_hdata)) refl (fitting_one id null_hdata)

replies_one : (id : List ℕ) (client : Client) (messages : List WireMessage) → AtMostOne id messages → AtMostOne id (replies client messages).messages
replies_one id client [] one = one
replies_one id client (m ∷ messages) one = one

handshake_one : (masks : List ℕ) (client : Client) (id : List ℕ) (pairs : List Pair) → AtMostOne id (handshake_answer masks client id pairs).messages
unfolding handshake_answer
handshake_one masks client id pairs =
    let messages = handshake_reply masks client id pairs in
    if_answers_one id (not client.logged_in && is_none (choice_in masks pairs))
    (record { messages = messages; outcome = outcome.Leave cause.LoginFailed; client = shaken masks client pairs })
    (replies (shaken masks client pairs) messages) (reply_one id _) (replies_one id (shaken masks client pairs) messages (reply_one id _))

init_one : (id masks password : List ℕ) (client : Client) (pairs : List Pair) → AtMostOne id (init_answer masks password client pairs).messages
unfolding init_answer
init_one id masks password client pairs =
    let let_in = record client { logged_in = true } in
    if_answers_one id client.logged_in (silent client) (if pairs_let_in pairs password client.nonce (algorithm_for masks client.chosen) then silent let_in else leaves client cause.LoginFailed)
    tt (if_answers_one id (pairs_let_in pairs password client.nonce (algorithm_for masks client.chosen)) (silent let_in) (leaves client cause.LoginFailed) tt tt)

typed_one : (id : List ℕ) (client : Client) (text : List ℕ) (buffer : Option Handle) → AtMostOne id (typed_into client text buffer).messages
typed_one id client text None = tt
typed_one id client text (Some buffer) = tt

input_one : (id : List ℕ) (groups : EntryGroups) (client : Client) (buffer text : List ℕ) → AtMostOne id (input_answer groups client buffer text).messages
input_one id groups client buffer text = typed_one id client text (buffer_named groups buffer)

served_one : (world : World) (context : Context) (client : Client) (id : List ℕ) (command : Command) → AtMostOne (id_of_reply id command) (served world context client id command).messages
unfolding served
served_one world context client id (ask.Handshake pairs) = handshake_one (masks_of context.options) client id pairs
served_one world context client id (ask.Init pairs) = init_one id (masks_of context.options) (password_of context.options) client pairs
served_one world context client id (ask.Hdata path keys) = replies_one id client _ (reply_one id _)
served_one world context client id (ask.Info name) = replies_one id client _ (reply_one id _)
served_one world context client id (ask.Infolist name argument) = replies_one id client _ (reply_one id _)
served_one world context client id (ask.Nicklist buffer) = replies_one id client _ (reply_one id _)
served_one world context client id (ask.Input buffer text) = input_one id world.groups client buffer text
served_one world context client id (ask.Completion buffer position text) = replies_one id client _ (reply_one id _)
served_one world context client id (ask.Sync buffers asked) = tt
served_one world context client id (ask.Desync buffers asked) = tt
served_one world context client id ask.Test = replies_one id client _ (reply_one id _)
served_one world context client id (ask.Ping text) = replies_one (codes "_pong") client _ (reply_one (codes "_pong") _)
served_one world context client id ask.Quit = tt

pub one_reply : (world : World) (context : Context) (client : Client) (request : Request) → IsOneReply request (reply_of world context client request).messages
unfolding reply_of
one_reply world context client request =
    if_answers_one (id_of_reply request.id request.command) (client.logged_in || is_open request.command)
    (served world context client request.id request.command) (leaves client cause.LoginFailed)
    (served_one world context client request.id request.command) tt
