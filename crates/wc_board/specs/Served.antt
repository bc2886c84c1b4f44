-- What becomes of the clients at an event, also where memory is refused.
use Rattle.std.specs.Prelude.{◌≡◌, ℕ, ◌+◌, ◌≤◌, Bool, true, false, ◌&&◌, ◌⊎◌, if◌then◌else◌}
use Rattle.std.specs.Prelude.{List, [], ◌∷◌, ◌++◌, Option, Some, fold, filter, length, map}
use Rattle.std.specs.List.{flat_map, list_any}
use Rattle.wc_text.specs.declared.names.Cause.{Cause}
use Rattle.wc_text.specs.declared.names.Cause.TheVariants.{NoMemory}
use Rattle.wc_text.specs.declared.names.Handle.{Handle}
use Rattle.wc_model.specs.declared.notice.EventKind.{EventKind}
use Rattle.wc_model.specs.declared.notice.Notice.{Notice}
use Rattle.wc_model.specs.Parts.{has_flips, flag_part, parts_of}
use Rattle.wc_model.specs.World.{World}
use Rattle.wc_session.specs.Event.{Spelled, with_event, part_told}
use Rattle.wc_session.specs.Sending.{spelling}
use Rattle.wc_session.specs.Sync.{follows, after_event}
use Rattle.wc_board.specs.declared.connection.Connection.{Connection}
use Rattle.wc_board.specs.Connections.{connection_link, is_open}

-- why a client is leaving: as before, or for want of memory
abbrev pub StaysOrStarves : Option Cause → Option Cause → Type 0
StaysOrStarves before after = (after ≡ before) ⊎ (after ≡ Some NoMemory)

-- an event is for an open client that asked for it
abbrev pub listens : EventKind → ℕ → Connection → Bool
listens kind buffer connection = is_open connection && follows kind buffer connection.session.client

-- a connection after an event that is not told
abbrev pub noted_connection : EventKind → ℕ → Connection → Connection
noted_connection kind buffer connection =
    if is_open connection then record connection {
      session =
          record connection.session { client = after_event kind buffer connection.session.client };
    }
    else connection

-- a connection after an event
abbrev pub heard_connection : Spelled → Connection → Connection
heard_connection event connection = if is_open connection
    then record connection { session = with_event event connection.session } else connection

-- a connection where no memory is found for an event: its client leaves, where the event is for it
abbrev pub starved_connection : EventKind → ℕ → Connection → Connection
starved_connection kind buffer connection =
    if listens kind buffer connection then record connection { leaving = Some NoMemory }
    else noted_connection kind buffer connection

-- a connection once one part of a notice is told, in the world after the change
abbrev pub part_connection : World → Notice → Connection → Connection
part_connection world part connection =
    if is_open connection then record connection {
      session = record {
        client = after_event part.kind part.buffer.0 connection.session.client;
        unsent = connection.session.unsent ++ flat_map (λ m. spelling m)
            (part_told world part connection.session.client);
      };
    } else connection

-- a connection once a notice is told, which is once all of its parts are
abbrev pub told_connection : World → Notice → Connection → Connection
told_connection world notice connection = fold (λ connection part. part_connection world part connection)
    connection (parts_of world notice)

-- a connection after this service of it, or one whose client leaves for want of memory, where the
-- service was for it
abbrev pub ConnectionServed : EventKind → ℕ → (Connection → Connection) → Connection →
    Connection → Type 0
ConnectionServed kind buffer service old new = (new ≡ service old)
    ⊎ (new ≡ starved_connection kind buffer old)

abbrev pub ConnectionsServed : EventKind → ℕ → (Connection → Connection) → List Connection →
    List Connection → Type 0
ConnectionsServed kind buffer service [] [] = Unit {0}
ConnectionsServed kind buffer service [] (b ∷ new) = ⊥
ConnectionsServed kind buffer service (a ∷ old) [] = ⊥
ConnectionsServed kind buffer service (a ∷ old) (b ∷ new) = ConnectionServed kind buffer service a b
    × ConnectionsServed kind buffer service old new

-- The parts of a notice are told one after another; who found no memory for one has left before the
-- next.
pub record PartServed (world : World) (part : Notice) (rest : List Connection → Type 0)
    (old : List Connection) : Type 0 where
  pub between : List Connection
  pub served : ConnectionsServed part.kind part.buffer.0 (part_connection world part) old between
  pub others : rest between

abbrev pub PartsServed : World → List Notice → List Connection → List Connection → Type 0
PartsServed world [] old new = new ≡ old
PartsServed world (part ∷ parts) old new =
    PartServed world part (λ between. PartsServed world parts between new) old

abbrev pub NoticeServed : World → Notice → List Connection → List Connection → Type 0
NoticeServed world notice old new = PartsServed world (parts_of world notice) old new

-- how many of these some client is open and asked for
abbrev pub is_heard : List Connection → Notice → Bool
is_heard connections part =
    list_any (λ connection. listens part.kind part.buffer.0 connection) connections

abbrev pub heard_number : List Connection → List Notice → ℕ
heard_number connections parts = length (filter (λ part. is_heard connections part) parts)

-- Some parts were told, each spelled once at most, where as many were spelled before and after. Unless
-- memory was refused for one, each client found memory for all of them.
pub record PartsTold (world : World) (parts : List Notice) (whole : Bool)
    (old new : List Connection) (before after : ℕ) : Type 0 where
  pub told : whole ≡ true → new
      ≡ map (λ connection. fold (λ connection part. part_connection world part connection) connection parts) old
  pub each : PartsServed world parts old new
  pub least : before ≤ after
  pub once : after ≤ before + heard_number old parts

-- of these buffers alone, what is told of lines whose flags differ
abbrev pub flags_of : World → List Handle → List ℕ → List Notice
flags_of world flips buffers = map (flag_part flips) (filter (has_flips world flips) buffers)

-- a client that is leaving is left alone, and another one leaves for want of memory at most
pub record ConnectionKept (old new : Connection) : Type 0 where
  pub link : connection_link new ≡ connection_link old
  pub kept : is_open old ≡ false → new ≡ old
  pub cause : StaysOrStarves old.leaving new.leaving

abbrev pub ConnectionsKept : List Connection → List Connection → Type 0
ConnectionsKept [] [] = Unit {0}
ConnectionsKept [] (b ∷ new) = ⊥
ConnectionsKept (a ∷ old) [] = ⊥
ConnectionsKept (a ∷ old) (b ∷ new) = ConnectionKept a b × ConnectionsKept old new
