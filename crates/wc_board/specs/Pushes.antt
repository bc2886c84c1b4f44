-- What is pushed of the nicklists that were touched.
use Rattle.std.specs.Prelude.{◌≡◌, ℕ, Bool, true, ◌⊎◌, List, [], ◌∷◌, ◌++◌, Option, Some, None}
use Rattle.std.specs.Prelude.{if◌then◌else◌, nat_lt, length, filter}
use Rattle.std.specs.List.{flat_map, list_any}
use Rattle.wc_text.specs.declared.names.Cause.TheVariants.{NoMemory}
use Rattle.wc_text.specs.declared.names.Handle.{Handle}
use Rattle.wc_nicklist.specs.declared.item.Row.{Row}
use Rattle.wc_nicklist.specs.Rows.{IsRows}
use Rattle.wc_nickdiff.specs.declared.diff_item.Push.{Push}
use Rattle.wc_nickdiff.specs.Held.{OfBuffer, touches_of}
use Rattle.wc_nickdiff.specs.NickPush.{nick_push}
use Rattle.wc_buffers.specs.Calls.{is_there}
use Rattle.wc_model.specs.declared.notice.EventKind.TheVariants.{NicklistDiff}
use Rattle.wc_model.specs.World.{World, rows_at, root_at}
use Rattle.wc_objects.specs.declared.object.WireMessage.{WireMessage}
use Rattle.wc_session.specs.declared.client.Client.{Client}
use Rattle.wc_session.specs.Event.{push_told}
use Rattle.wc_session.specs.Sending.{spelling}
use Rattle.wc_session.specs.Sync.{follows}
use Rattle.wc_board.specs.declared.connection.Connection.{Connection}
use Rattle.wc_board.specs.Connections.{is_open}

-- what is pushed of a buffer of which these rows were told
abbrev pub push_of : World → ℕ → List Row → Push
push_of world buffer told = nick_push (root_at buffer) told (rows_at world buffer)

-- what a client is told of the pushes of these buffers, one after another
abbrev pub pushes_told : World → (ℕ → List Row) → List ℕ → Client → List WireMessage
pushes_told world told buffers client =
    flat_map (λ b. push_told (record { 0 = b }) (push_of world b (told b)) client) buffers

-- a connection with messages after its unsent bytes, where its client is open
abbrev pub sent_connection : List WireMessage → Connection → Connection
sent_connection messages connection =
    if is_open connection then record connection {
      session =
          record connection.session {
            unsent = connection.session.unsent
                ++ flat_map (λ m. spelling m) messages;
          };
    } else connection

-- a connection after the push of a buffer
abbrev pub push_connection : Handle → Push → Connection → Connection
push_connection buffer push connection =
    sent_connection (push_told buffer push connection.session.client) connection

-- a connection after the pushes of these buffers
abbrev pub pushed_connection : World → (ℕ → List Row) → List ℕ → Connection → Connection
pushed_connection world told buffers connection =
    sent_connection (pushes_told world told buffers connection.session.client) connection

-- the bytes of the pushes of these buffers for the client of a link, where it is open
abbrev pub pushed_bytes : World → (ℕ → List Row) → List ℕ → Option Connection → List ℕ
pushed_bytes world told buffers None = []
pushed_bytes world told buffers (Some connection) = if is_open connection
    then flat_map (λ m. spelling m) (pushes_told world told buffers connection.session.client)
    else []

-- something was touched of a buffer since its last push
abbrev pub is_touched : List OfBuffer → ℕ → Bool
is_touched pending buffer = nat_lt 0 (length (touches_of (record { 0 = buffer }) pending))

-- how many of these buffers were touched
abbrev pub touched_number : List OfBuffer → List ℕ → ℕ
touched_number pending buffers = length (filter (λ b. is_touched pending b) buffers)

-- these buffers are there
abbrev pub AreThere : World → List Handle → Type 0
AreThere world [] = Unit {0}
AreThere world (buffer ∷ buffers) = (is_there buffer world.groups ≡ true) × AreThere world buffers

-- the rows of each nicklist are rows that a nicklist can hold
abbrev pub AreHeld : World → Type 0
AreHeld world = (buffer : ℕ) → IsRows (rows_at world buffer)

-- ---- where memory may be refused

-- a client is pushed the nicklist of a buffer
abbrev pub follows_nicks : Client → ℕ → Bool
follows_nicks client buffer = follows NicklistDiff buffer client

-- the client of a connection, which is pushed the nicklist of one of these buffers, began to leave
-- for want of memory
pub record LeftStarved (buffers : List ℕ) (old new : Connection) : Type 0 where
  pub opened : is_open old ≡ true
  pub asked : list_any (follows_nicks old.session.client) buffers ≡ true
  pub leaving : new.leaving ≡ Some NoMemory

-- a connection after the pushes of these buffers, or one whose client began to leave in them
abbrev pub PushedOrLeft : List ℕ → (Connection → Connection) → Connection → Connection → Type 0
PushedOrLeft buffers push old new = (new ≡ push old) ⊎ LeftStarved buffers old new

abbrev pub EachPushed : List ℕ → (Connection → Connection) → List Connection → List Connection →
    Type 0
EachPushed buffers push [] [] = Unit {0}
EachPushed buffers push [] (b ∷ new) = ⊥
EachPushed buffers push (a ∷ old) [] = ⊥
EachPushed buffers push (a ∷ old) (b ∷ new) = PushedOrLeft buffers push a b
    × EachPushed buffers push old new
