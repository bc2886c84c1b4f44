-- A client that is logged in is told each dump whole.
use Rattle.std.proofs.Common.{◌≡◌, ℕ, ◌≤◌, Bool, true, false, cond, ◌||◌, List, [], ◌∷◌, length, Option, Some, None, refl, sym, ap, ◌∙◌}
use Rattle.std.specs.Str.{bytes_eq}
use Rattle.std.proofs.lemmas.Bool.{and_parts}
use Rattle.std.proofs.lemmas.Slice.Eq.{bytes_eq-Decides}
use Rattle.wc_hotlist.specs.declared.row.HotRow.{HotRow}
use Rattle.wc_buffers.specs.Groups.{rows}
use Rattle.wc_buffers.specs.Kept.{AreBuffers}
use Rattle.wc_model.specs.World.{World}
use Rattle.wc_objects.specs.declared.object.Object.{Object}
use Rattle.wc_objects.specs.declared.object.WireMessage.{WireMessage}
use Rattle.wc_relaycmd.specs.declared.request.Command.{Command}
use Rattle.wc_relaycmd.specs.declared.request.Command.TheVariants as ask
use Rattle.wc_relaycmd.specs.declared.request.Request.{Request}
use Rattle.wc_text.specs.declared.names.Cause.TheVariants as cause
use Rattle.wc_events.specs.BufferObjects.{buffer_dump}
use Rattle.wc_events.specs.LineObjects.{line_dump}
use Rattle.wc_hdata.specs.Dumps.{AreShort, buffers_text, buffers_keys, lines_text, lines_keys}
use Rattle.wc_hdata.proofs.DumpWalks.{AreOnce, few_of}
use Rattle.wc_session.specs.declared.client.Client.{Client}
use Rattle.wc_session.specs.Reply.{dump_asked, hdata_answered, hdata_objects, is_buffer_dump, is_line_dump, is_open, leaves, nicklist_objects, replies, reply_of, served}
use Rattle.wc_session.specs.Hotlists.{hotlist_objects, hotlist_text}
use Rattle.wc_session.specs.Sending.{reply}
use Rattle.wc_session.specs.RequestContext.{Context}
use Rattle.wc_session.proofs.WalkReplies.{buffers_told, lines_told}

-- what lets the dumps be walked: each handle is that of one buffer, and there are not too many of
-- buffers and lines
pub record IsWalkable (world : World) : Type 0 where
  pub once : AreOnce world.groups
  pub groups : length world.groups ≤ 256
  pub buffers : length (rows world.groups) ≤ 256
  pub short : AreShort world

pub walkable : (world : World) → AreBuffers world.groups → AreShort world → IsWalkable world
walkable world are short = record { once = are.once; groups = few_of world.groups are; buffers = are.few; short = short }

told : (client : Client) (messages : List WireMessage) → (replies client messages).messages ≡ messages
told client [] = refl
told client (m ∷ messages) = refl

-- the dump of a path
path_dump : (id : List ℕ) (world : World) (path keys : List ℕ) (objects : List Object) → IsWalkable world → dump_asked world (ask.Hdata path keys) ≡ Some objects
    → reply id (hdata_objects world path keys) ≡ reply id objects
unfolding dump_asked
path_dump id world path keys objects is asked = by (is_line_dump path keys) (is_buffer_dump path keys) refl refl asked where
  by : (lines buffers : Bool) → is_line_dump path keys ≡ lines → is_buffer_dump path keys ≡ buffers → cond lines (Some (line_dump world)) (cond buffers (Some (buffer_dump world.groups)) None) ≡ Some objects
      → reply id (hdata_objects world path keys) ≡ reply id objects
  by true buffers e f same = lines_told id world path keys is.once is.buffers is.short e ∙ ap (reply id) (let given = same in cc)
  by false true e f same = buffers_told id world path keys is.once is.groups is.buffers f ∙ ap (reply id) (let given = same in cc)
  by false false e f same = absurd (let given = same in cc)

-- no dump is asked for by the path of the hotlist
other_path : (path asked : List ℕ) → bytes_eq asked hotlist_text ≡ false → bytes_eq path asked ≡ true → bytes_eq path hotlist_text ≡ false
other_path path asked other same = ap (λ p. bytes_eq p hotlist_text) ((bytes_eq-Decides path asked).0 same) ∙ other

not_the_hotlist : (world : World) (path keys : List ℕ) (objects : List Object) → dump_asked world (ask.Hdata path keys) ≡ Some objects → bytes_eq path hotlist_text ≡ false
unfolding dump_asked
not_the_hotlist world path keys objects asked = by (is_line_dump path keys) (is_buffer_dump path keys) refl refl asked where
  by : (lines buffers : Bool) → is_line_dump path keys ≡ lines → is_buffer_dump path keys ≡ buffers → cond lines (Some (line_dump world)) (cond buffers (Some (buffer_dump world.groups)) None) ≡ Some objects
      → bytes_eq path hotlist_text ≡ false
  by true buffers e f same = other_path path lines_text refl (and_parts (bytes_eq path lines_text) (bytes_eq keys lines_keys) e).0
  by false true e f same = other_path path buffers_text refl (and_parts (bytes_eq path buffers_text) (bytes_eq keys buffers_keys) f).0
  by false false e f same = absurd (let given = same in cc)

no_hotlist : (world : World) (rows : List HotRow) (path keys : List ℕ) → bytes_eq path hotlist_text ≡ false → hdata_answered world rows path keys ≡ hdata_objects world path keys
unfolding hdata_answered
no_hotlist world rows path keys other = ap (λ b. cond b (hotlist_objects rows keys) (hdata_objects world path keys)) other

served_dump : (world : World) (context : Context) (client : Client) (id : List ℕ) (command : Command) (objects : List Object) → IsWalkable world → dump_asked world command ≡ Some objects
    → (served world context client id command).messages ≡ reply id objects
unfolding served dump_asked nicklist_objects
served_dump world context client id (ask.Hdata path keys) objects is asked =
    told client (reply id (hdata_answered world context.hotlist path keys)) ∙ ap (reply id) (no_hotlist world context.hotlist path keys (not_the_hotlist world path keys objects asked)) ∙ path_dump id world path keys objects is asked
served_dump world context client id (ask.Nicklist None) objects is asked = told client (reply id (nicklist_objects world None)) ∙ ap (reply id) (let given = asked in cc)
served_dump world context client id _ objects is asked = absurd (let given = asked in cc)

pub dump_told : (world : World) (context : Context) (client : Client) (request : Request) (objects : List Object) → IsWalkable world → client.logged_in ≡ true → dump_asked world request.command ≡ Some objects
    → (reply_of world context client request).messages ≡ reply request.id objects
unfolding reply_of
dump_told world context client request objects is logged asked =
    ap (λ b. (cond (b || is_open request.command) (served world context client request.id request.command) (leaves client cause.LoginFailed)).messages) logged
    ∙ served_dump world context client request.id request.command objects is asked
