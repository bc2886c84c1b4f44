-- Each request that has a reply gets exactly one.
use Rattle.std.proofs.Common.{◌≡◌, ℕ, ◌-◌, ◌≤◌, ◌^◌, Bool, true, false, cond, not, ◌&&◌, List, [], ◌∷◌, ◌++◌, length, codes, Option, Some, None, refl, sym, ap, subst, arith}
use Rattle.std.specs.Prelude.{is_none}
use Rattle.std.proofs.lemmas.List.{length-append}
use Rattle.wc_text.specs.declared.names.Handle.{Handle}
use Rattle.wc_text.specs.declared.names.Pair.{Pair}
use Rattle.wc_text.specs.declared.names.Cause.TheVariants as cause
use Rattle.wc_buffers.specs.Calls.{EntryGroups}
use Rattle.wc_model.specs.World.{World}
use Rattle.wc_objects.specs.declared.object.Hda.{Hda, roll-Hda}
use Rattle.wc_objects.specs.declared.object.Object.{Object}
use Rattle.wc_objects.specs.declared.object.Object.TheVariants as o
use Rattle.wc_objects.specs.declared.object.Object.TheViews.{out-roll-Object, out-roll-Hda}
use Rattle.wc_objects.specs.declared.object.WireMessage.{WireMessage}
use Rattle.wc_objects.specs.Spelling.{be32, text_bytes, hda_bytes, object_bytes, message_bytes}
use Rattle.wc_objects.proofs.Rooms.{length-be32, length-message_bytes}
use Rattle.wc_session.specs.RequestContext.{Context}
use Rattle.wc_relaycmd.specs.declared.request.Command.{Command}
use Rattle.wc_relaycmd.specs.declared.request.Command.TheVariants as ask
use Rattle.wc_session.specs.declared.client.Client.{Client}
use Rattle.wc_session.specs.declared.outcome.Outcome.TheVariants as outcome
use Rattle.wc_session.specs.Handshakes.{choice_in, algorithm_for, asks_escapes, handshake_objects}
use Rattle.wc_session.specs.Heeded.{password_of, masks_of}
use Rattle.wc_session.specs.Logins.{pairs_let_in}
use Rattle.wc_session.specs.Names.{buffer_named}
use Rattle.wc_session.specs.OneReply.{id_of_reply}
use Rattle.wc_session.specs.Reply.{Answer, silent, leaves, replies, typed_into, shaken, handshake_reply, handshake_answer, init_answer, input_answer, served, reply_of}
use Rattle.wc_session.specs.Sending.{message, fits, fitting, null_hdata, reply}
use Rattle.wc_mirror_laws.specs.Replies.{has_reply, IsOne, IsOneIf, is_served, GetsOneReply}
use Rattle.wc_mirror_laws.proofs.SizeLemmas.{text_size}
use Rattle.wc_mirror_laws.proofs.TellingLemmas.{whole_message}

-- ---- the null hdata is short

abbrev null_hda : Hda
null_hda = roll-Hda (record { path = None; keys = None; items = [] })

abbrev no_text : List ℕ
no_text = text_bytes None

null_spelt : hda_bytes null_hda ≡ no_text ++ (no_text ++ (be32 0 ++ []))
unfolding hda_bytes
null_spelt = rw out-roll-Hda refl

null_object : object_bytes (o.Hda null_hda) ≡ codes "hda" ++ hda_bytes null_hda
unfolding object_bytes
null_object = rw (← o.rolls-Hda null_hda, out-roll-Object) refl

no_text_size : length no_text ≡ 4
unfolding text_bytes
no_text_size = refl

null_size : (id : List ℕ) → length id ≤ 65536 → length (message_bytes id null_hdata) ≤ 2 ^ 31 - 1
null_size id known =
    let object = object_bytes (o.Hda null_hda) in
    let whole = length-message_bytes id null_hdata in
    let front = text_size id in
    let is : length object ≡ length (codes "hda" ++ hda_bytes null_hda) = ap length null_object in
    let inner : length (hda_bytes null_hda) ≡ length (no_text ++ (no_text ++ (be32 0 ++ []))) = ap length null_spelt in
    omega (
      arith,
      length-append (text_bytes (Some id)) (object ++ []),
      length-append object [],
      length-append (codes "hda") (hda_bytes null_hda),
      length-append no_text (no_text ++ (be32 0 ++ [])),
      length-append no_text (be32 0 ++ []),
      length-append (be32 0) [],
      no_text_size,
      length-be32 0,
    )

-- ---- one message

if_one : (id : List ℕ) (b : Bool) (x y : Answer) → IsOne id x.messages → IsOne id y.messages → IsOne id (cond b x y).messages
if_one id true x y p q = p
if_one id false x y p q = q

if_none : (b : Bool) (x y : Answer) → x.messages ≡ [] → y.messages ≡ [] → (cond b x y).messages ≡ []
if_none true x y p q = p
if_none false x y p q = q

reply_one : (id : List ℕ) (objects : List Object) → length id ≤ 65536 → IsOne id (reply id objects)
unfolding reply
reply_one id objects known = by (fits (message id objects)) where
  by : (b : Bool) → IsOne id (cond b (message id objects ∷ []) (fitting (message id null_hdata)))
  by true = refl
  by false = subst (IsOne id) (sym (whole_message (message id null_hdata) (null_size id known))) refl

replies_one : (id : List ℕ) (client : Client) (messages : List WireMessage) → IsOne id messages → IsOne id (replies client messages).messages
replies_one id client [] one = absurd one
replies_one id client (m ∷ messages) one = one

answers_one : (client : Client) (id : List ℕ) (objects : List Object) → length id ≤ 65536 → IsOne id (replies client (reply id objects)).messages
answers_one client id objects known = replies_one id client (reply id objects) (reply_one id objects known)

handshake_one : (masks : List ℕ) (client : Client) (id : List ℕ) (pairs : List Pair) → length id ≤ 65536 → IsOne id (handshake_answer masks client id pairs).messages
unfolding handshake_answer
handshake_one masks client id pairs known =
    let messages = handshake_reply masks client id pairs in
    let one = reply_one id (handshake_objects client.nonce (choice_in masks pairs) (asks_escapes pairs)) known in
    if_one id (not client.logged_in && is_none (choice_in masks pairs))
    (record { messages = messages; outcome = outcome.Leave cause.LoginFailed; client = shaken masks client pairs })
    (replies (shaken masks client pairs) messages) one (replies_one id (shaken masks client pairs) messages one)

init_none : (masks password : List ℕ) (client : Client) (pairs : List Pair) → (init_answer masks password client pairs).messages ≡ []
unfolding init_answer
init_none masks password client pairs =
    let let_in : Client = record client { logged_in = true } in
    if_none client.logged_in (silent client) (cond (pairs_let_in pairs password client.nonce (algorithm_for masks client.chosen)) (silent let_in) (leaves client cause.LoginFailed))
    refl (if_none (pairs_let_in pairs password client.nonce (algorithm_for masks client.chosen)) (silent let_in) (leaves client cause.LoginFailed) refl refl)

input_none : (groups : EntryGroups) (client : Client) (buffer text : List ℕ) → (input_answer groups client buffer text).messages ≡ []
input_none groups client buffer text = by (buffer_named groups buffer) where
  by : (o : Option Handle) → (typed_into client text o).messages ≡ []
  by None = refl
  by (Some h) = refl

served_one : (world : World) (context : Context) (client : Client) (id : List ℕ) (command : Command) → length id ≤ 65536 → IsOneIf (has_reply command) (id_of_reply id command) (served world context client id command).messages
unfolding served
served_one world context client id (ask.Handshake pairs) known = handshake_one (masks_of context.options) client id pairs known
served_one world context client id (ask.Init pairs) known = init_none (masks_of context.options) (password_of context.options) client pairs
served_one world context client id (ask.Hdata path keys) known = answers_one client id _ known
served_one world context client id (ask.Info name) known = answers_one client id _ known
served_one world context client id (ask.Infolist name argument) known = answers_one client id _ known
served_one world context client id (ask.Nicklist buffer) known = answers_one client id _ known
served_one world context client id (ask.Input buffer text) known = input_none world.groups client buffer text
served_one world context client id (ask.Completion buffer position text) known = answers_one client id _ known
served_one world context client id (ask.Sync buffers asked) known = refl
served_one world context client id (ask.Desync buffers asked) known = refl
served_one world context client id ask.Test known = answers_one client id _ known
served_one world context client id (ask.Ping text) known = answers_one client (codes "_pong") _ (omega arith)
served_one world context client id ask.Quit known = refl

pub gets_one_reply : GetsOneReply
unfolding reply_of
gets_one_reply world context client request known = by (is_served client request) (served_one world context client request.id request.command known) where
  by : (b : Bool) → IsOneIf (has_reply request.command) (id_of_reply request.id request.command) (served world context client request.id request.command).messages
      → IsOneIf (b && has_reply request.command) (id_of_reply request.id request.command) (cond b (served world context client request.id request.command) (leaves client cause.LoginFailed)).messages
  by true one = one
  by false one = refl
