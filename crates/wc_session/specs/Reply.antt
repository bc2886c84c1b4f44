-- What each request gets.
use Rattle.std.specs.Prelude.{ℕ, pos, negsuc, Bool, true, false, not, ◌&&◌, ◌||◌, List, [], ◌∷◌}
use Rattle.std.specs.Prelude.{Option, Some, None, is_none, codes, if◌then◌else◌}
use Rattle.std.specs.Str.{bytes_eq}
use Rattle.wc_text.specs.declared.names.Handle.{Handle}
use Rattle.wc_text.specs.declared.names.Pair.{Pair}
use Rattle.wc_text.specs.declared.names.Cause.{Cause}
use Rattle.wc_text.specs.declared.names.Cause.TheVariants as cause
use Rattle.wc_buffers.specs.Calls.{EntryGroups}
use Rattle.wc_hotlist.specs.declared.row.HotRow.{HotRow}
use Rattle.wc_model.specs.World.{World}
use Rattle.wc_relaycmd.specs.declared.request.Command.{Command}
use Rattle.wc_relaycmd.specs.declared.request.Command.TheVariants as ask
use Rattle.wc_relaycmd.specs.declared.request.Request.{Request}
use Rattle.wc_objects.specs.declared.kind.Kind.TheVariants as k
use Rattle.wc_objects.specs.declared.object.Object.{Object}
use Rattle.wc_objects.specs.declared.object.Object.TheVariants as o
use Rattle.wc_objects.specs.declared.object.WireMessage.{WireMessage}
use Rattle.wc_events.specs.BufferObjects.{buffer_dump}
use Rattle.wc_events.specs.LineObjects.{line_dump}
use Rattle.wc_events.specs.NickObjects.{nick_dump, nick_list}
use Rattle.wc_hdata.specs.declared.path.Path.{Path}
use Rattle.wc_hdata.specs.declared.refused.WalkRefused.{WalkRefused}
use Rattle.wc_hdata.specs.Answers.{path_of}
use Rattle.wc_hdata.specs.Dumps.{buffers_text, buffers_keys, lines_text, lines_keys}
use Rattle.wc_hdata.specs.Hdata.{refusal, walk_object}
use Rattle.wc_hdata.specs.Infos.{info_of, infolist_object}
use Rattle.wc_session.specs.declared.client.Client.{Client}
use Rattle.wc_session.specs.declared.outcome.Outcome.{Outcome}
use Rattle.wc_session.specs.declared.outcome.Outcome.TheVariants as outcome
use Rattle.wc_session.specs.Sending.{reply, null_hdata}
use Rattle.wc_session.specs.Completions.{completion_objects}
use Rattle.wc_session.specs.Handshakes.{choice_in, algorithm_for, asks_escapes, handshake_objects}
use Rattle.wc_session.specs.Heeded.{password_of, masks_of}
use Rattle.wc_session.specs.Hotlists.{hotlist_objects, hotlist_text}
use Rattle.wc_session.specs.Logins.{pairs_let_in}
use Rattle.wc_session.specs.Names.{buffer_named}
use Rattle.wc_session.specs.RequestContext.{Context}
use Rattle.wc_session.specs.Sync.{synchronized, desynchronized}

-- what a request gets: the messages that are sent, in order, what is answered to who asked, and
-- what is known of the client from then on
pub record Answer : Type 0 where
  pub messages : List WireMessage
  pub outcome : Outcome
  pub client : Client

abbrev pub silent : Client → Answer
silent client = record { messages = []; outcome = outcome.Silent; client = client }

abbrev pub leaves : Client → Cause → Answer
leaves client why = record { messages = []; outcome = outcome.Leave why; client = client }

-- a reply
abbrev pub replies : Client → List WireMessage → Answer
replies client [] = silent client
replies client (m ∷ messages) = record {
  messages = m ∷ messages;
  outcome = outcome.Replied;
  client = client;
}

-- ---- the objects of replies

abbrev pub test_texts : List Object
test_texts = o.Str (Some (codes "abc")) ∷ o.Str (Some (codes "de")) ∷ []

abbrev pub test_numbers : List Object
test_numbers = o.Int (pos 123) ∷ o.Int (pos 456) ∷ o.Int (pos 789) ∷ []

-- the reply to `test`
unfoldable pub test_objects : List Object
test_objects =
    o.Chr (pos 65) ∷ o.Int (pos 123456) ∷ o.Int (negsuc 123455) ∷ o.Lon (pos 1234567890) ∷ o.Lon
    (negsuc 1234567889) ∷
    o.Str (Some (codes "a string")) ∷ o.Str (Some []) ∷ o.Str None ∷ o.Buf (Some (codes "buffer")) ∷
    o.Buf None ∷
    o.Ptr 305441741 ∷ o.Ptr 0 ∷ o.Tim (pos 1321993456) ∷ o.Arr k.Str test_texts ∷ o.Arr k.Int
    test_numbers ∷ []

-- whether a path and keys ask for the buffers, or for their lines, as clients ask for the dumps
abbrev pub is_buffer_dump : List ℕ → List ℕ → Bool
is_buffer_dump path keys = bytes_eq path buffers_text && bytes_eq keys buffers_keys

abbrev pub is_line_dump : List ℕ → List ℕ → Bool
is_line_dump path keys = bytes_eq path lines_text && bytes_eq keys lines_keys

-- what a path leads to, unless the walk is refused
abbrev pub unless_refused : Option WalkRefused → Object → List Object
unless_refused None object = object ∷ []
unless_refused (Some refused) object = null_hdata

abbrev pub path_objects : World → List ℕ → Option Path → List Object
path_objects world keys None = null_hdata
path_objects world keys (Some path) = unless_refused (refusal world path keys)
    (walk_object world path keys)

-- the reply to `hdata`: what the path of the text leads to; the null hdata where the text spells no
-- path, and where the walk is refused
unfoldable pub hdata_objects : World → List ℕ → List ℕ → List Object
hdata_objects world path keys = path_objects world keys (path_of path)

-- the same, but for the path of the hotlist, which leads to no buffer
unfoldable pub hdata_answered : World → List HotRow → List ℕ → List ℕ → List Object
hdata_answered world rows path keys =
    if bytes_eq path hotlist_text then hotlist_objects rows keys
    else hdata_objects world path keys

-- the reply to `nicklist`: the nicklists of all buffers or that of one, and else the null hdata
abbrev pub or_null : Option (List Object) → List Object
or_null None = null_hdata
or_null (Some objects) = objects

abbrev pub list_of_named : World → Option Handle → Option (List Object)
list_of_named world None = None
list_of_named world (Some buffer) = nick_list world buffer

unfoldable pub nicklist_objects : World → Option (List ℕ) → List Object
nicklist_objects world None = nick_dump world
nicklist_objects world (Some name) = or_null (list_of_named world (buffer_named world.groups name))

-- an information, null where it is unknown
abbrev pub info_objects : List ℕ → List Object
info_objects name = o.Inf (Some name) (info_of name) ∷ []

-- a list of informations, empty where it is unknown
unfoldable pub infolist_objects : World → List ℕ → List ℕ → List Object
infolist_objects world name argument = infolist_object world.groups name argument ∷ []

abbrev pub pong_objects : List ℕ → List Object
pong_objects text = o.Str (Some text) ∷ []

-- ---- the login

-- A handshake before login settles the algorithm and the escapes; one after it settles nothing.
unfoldable pub shaken : List ℕ → Client → List Pair → Client
shaken masks client pairs = if client.logged_in then client else record client {
  chosen = choice_in masks pairs;
  escaped = asks_escapes pairs;
}

abbrev pub handshake_reply : List ℕ → Client → List ℕ → List Pair → List WireMessage
handshake_reply masks client id pairs = reply id (handshake_objects client.nonce (choice_in masks pairs)
    (asks_escapes pairs))

-- Before login a handshake without a common algorithm is answered, and then the client leaves.
unfoldable pub handshake_answer : List ℕ → Client → List ℕ → List Pair → Answer
handshake_answer masks client id pairs =
    if not client.logged_in && is_none (choice_in masks pairs)
    then record {
      messages = handshake_reply masks client id pairs;
      outcome = outcome.Leave cause.LoginFailed;
      client = shaken masks client pairs;
    }
    else replies (shaken masks client pairs) (handshake_reply masks client id pairs)

unfoldable pub init_answer : List ℕ → List ℕ → Client → List Pair → Answer
init_answer masks password client pairs =
    if client.logged_in then silent client else (
    if pairs_let_in pairs password client.nonce (algorithm_for masks client.chosen)
    then silent (record client { logged_in = true })
    else leaves client cause.LoginFailed)

-- ---- requests

abbrev pub typed_into : Client → List ℕ → Option Handle → Answer
typed_into client text None = silent client
typed_into client text (Some buffer) = record {
  messages = [];
  outcome = outcome.Input buffer text;
  client = client;
}

abbrev pub input_answer : EntryGroups → Client → List ℕ → List ℕ → Answer
input_answer groups client buffer text = typed_into client text (buffer_named groups buffer)

-- what is served before login
abbrev pub is_open : Command → Bool
is_open (ask.Handshake pairs) = true
is_open (ask.Init pairs) = true
is_open ask.Quit = true
is_open _ = false

-- what a request gets that is served
unfoldable pub served : World → Context → Client → List ℕ → Command → Answer
served world context client id (ask.Handshake pairs) = handshake_answer (masks_of context.options) client id pairs
served world context client id (ask.Init pairs) = init_answer (masks_of context.options) (password_of context.options) client pairs
served world context client id (ask.Hdata path keys) =
    replies client (reply id (hdata_answered world context.hotlist path keys))
served world context client id (ask.Info name) = replies client (reply id (info_objects name))
served world context client id (ask.Infolist name argument) =
    replies client (reply id (infolist_objects world name argument))
served world context client id (ask.Nicklist buffer) =
    replies client (reply id (nicklist_objects world buffer))
served world context client id (ask.Input buffer text) =
    input_answer world.groups client buffer text
served world context client id (ask.Completion buffer position text) =
    replies client (reply id (completion_objects world context.commands buffer position text))
served world context client id (ask.Sync buffers asked) =
    silent (synchronized world.groups client buffers asked)
served world context client id (ask.Desync buffers asked) =
    silent (desynchronized world.groups client buffers asked)
served world context client id ask.Test = replies client (reply id test_objects)
served world context client id (ask.Ping text) =
    replies client (reply (codes "_pong") (pong_objects text))
served world context client id ask.Quit = leaves client cause.Quit

-- What a request gets in this world, where this is what it is answered from beside. Before login a
-- handshake, `init` and `quit` are served, and any other request drops the client.
unfoldable pub reply_of : World → Context → Client → Request → Answer
reply_of world context client request =
    if client.logged_in || is_open request.command
    then served world context client request.id request.command
    else leaves client cause.LoginFailed

-- ---- the dumps

-- the dump that a command asks for: the lines of all buffers, the buffers, or their nicklists
unfoldable pub dump_asked : World → Command → Option (List Object)
dump_asked world (ask.Hdata path keys) =
    if is_line_dump path keys then Some (line_dump world) else (
    if is_buffer_dump path keys then Some (buffer_dump world.groups) else None)
dump_asked world (ask.Nicklist None) = Some (nick_dump world)
dump_asked world _ = None
