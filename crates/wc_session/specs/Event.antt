-- The event of a notice, which is spelled once for all clients.
use Rattle.std.specs.Prelude.{◌≡◌, ℕ, List, [], ◌∷◌, ◌++◌, Option, Some, None, if◌then◌else◌}
use Rattle.wc_text.specs.declared.names.Handle.{Handle}
use Rattle.wc_objects.specs.declared.object.WireMessage.{WireMessage}
use Rattle.wc_model.specs.declared.notice.EventKind.{EventKind}
use Rattle.wc_model.specs.declared.notice.Notice.{Notice}
use Rattle.wc_model.specs.Parts.{parts_of}
use Rattle.wc_model.specs.World.{World}
use Rattle.wc_nickdiff.specs.declared.diff_item.Push.{Push}
use Rattle.wc_events.specs.BufferObjects.{event_of}
use Rattle.wc_events.specs.NickObjects.{push_kind, push_message}
use Rattle.wc_session.specs.declared.client.Client.{Client}
use Rattle.wc_session.specs.Known.{Known}
use Rattle.wc_session.specs.Sending.{fitting, Sends}
use Rattle.wc_session.specs.Sync.{follows, after_event}

-- an event as it is sent: what happened, to which buffer, and the bytes of its message
pub record Spelled : Type 0 where
  pub kind : EventKind
  pub buffer : Handle
  pub bytes : List ℕ

-- the message of a notice, in the world after the change, where it is not too long for one
abbrev pub if_fits : Option WireMessage → List WireMessage
if_fits None = []
if_fits (Some message) = fitting message

abbrev pub event_messages : World → Notice → List WireMessage
event_messages world notice = if_fits (event_of world notice)

-- this is the event of a notice
pub record IsEventOf (event : Spelled) (world : World) (notice : Notice) : Type 0 where
  pub kind : event.kind ≡ notice.kind
  pub buffer : event.buffer ≡ notice.buffer
  pub bytes : Sends [] event.bytes (event_messages world notice)

-- the bytes of an event, where it is for the client
abbrev pub bytes_for : Spelled → Client → List ℕ
bytes_for event client = if follows event.kind event.buffer.0 client then event.bytes else []

-- a session after an event
abbrev pub with_event : Spelled → Known → Known
with_event event session = record {
  client = after_event event.kind event.buffer.0 session.client;
  unsent = session.unsent ++ bytes_for event session.client;
}

-- what a client is told of one part of a notice
unfoldable pub part_told : World → Notice → Client → List WireMessage
part_told world part client = if follows part.kind part.buffer.0 client
    then event_messages world part else []

-- the same of some, one after another
abbrev pub parts_told : World → List Notice → Client → List WireMessage
parts_told world [] client = []
parts_told world (part ∷ parts) client = part_told world part client
    ++ parts_told world parts (after_event part.kind part.buffer.0 client)

-- What a client is told of a notice: the event of the change, and after it of each buffer that lost its
-- oldest lines how many went.
abbrev pub notice_told : World → Notice → Client → List WireMessage
notice_told world notice client = parts_told world (parts_of world notice) client

-- ---- pushes

-- the message of a push, where it is not too long for one
abbrev pub push_messages : Handle → Push → List WireMessage
push_messages buffer push = if_fits (push_message buffer push)

-- this is the event of a push
pub record IsPushOf (event : Spelled) (at : Handle) (push : Push) : Type 0 where
  pub kind : event.kind ≡ push_kind push
  pub buffer : event.buffer ≡ at
  pub bytes : Sends [] event.bytes (push_messages at push)

-- this is of a kind that pushes have
pub record IsPushKind (kind : EventKind) : Type 0 where
  pub push : Push
  pub same : kind ≡ push_kind push

-- what a client is told of a push
unfoldable pub push_told : Handle → Push → Client → List WireMessage
push_told buffer push client = if follows (push_kind push) buffer.0 client
    then push_messages buffer push else []
