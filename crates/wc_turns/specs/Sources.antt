-- How the sources that are ready are served.
use Rattle.std.specs.Prelude.{ℕ, ◌≡◌, ◌+◌, ◌≤◌, ◌⊎◌, ◌==◌, ◌≢◌, Bool, true, false, not}
use Rattle.std.specs.Prelude.{◌&&◌, ◌||◌, List, [], ◌∷◌, length, Option, Some, None, IsTrue}
use Rattle.std.specs.List.{flat_map, list_any}
use Rattle.wc_outside.specs.Happenings.{is_link, is_listener}
use Rattle.wc_outside.specs.Seen.{Seen}
use Rattle.wc_outside.specs.Faults.{Rose}
use Rattle.wc_turns.specs.declared.headless.Headless.{Headless}
use Rattle.wc_turns.specs.Contained.{KeepsLinks}
use Rattle.wc_turns.specs.Parties.{IsCalm, unsent_on}
use Rattle.wc_turns.specs.Turns.{HasGained, AgreesWithSockets, LoopStep, left_on}
use Rattle.wc_framing.specs.Messages.{HasNoMessage}
use Rattle.wc_turns.specs.Framed.{frames_in}
use Rattle.wc_outside.specs.declared.happening.Happening.{Happening}
use Rattle.wc_outside.specs.declared.happening.Happening.TheVariants.{Woke, Accepted, Read, Ended}
use Rattle.wc_outside.specs.declared.happening.Happening.TheVariants.{Failed, Connected, Refused}
use Rattle.wc_outside.specs.declared.happening.Happening.TheVariants.{ListenFailed}
use Rattle.wc_outside.specs.declared.sockets.Token.{Token}
use Rattle.wc_turns.specs.declared.links.LinkState.{LinkState}
use Rattle.wc_board.specs.declared.connection.Connection.{Connection}
use Rattle.wc_turns.specs.Events.{bytes_on}
use Rattle.wc_board.specs.Connections.{connection_link, is_open}
use Rattle.wc_session.specs.Known.{proves_slowly}
use Rattle.wc_servers.specs.Seats.{SeatView, seat_link}
use Rattle.wc_core.specs.CoreView.{CoreView}
use Rattle.wc_turns.specs.Links.{link_number, is_blocked, is_socket_at}
use Rattle.wc_outside.specs.Keyed.{at_key}

-- how many bytes were taken of a link
abbrev pub bytes_taken : ℕ → List Happening → ℕ
bytes_taken link taken = length (flat_map (bytes_on link) taken)

abbrev pub is_arrival : Happening → ℕ
is_arrival (Accepted link nonce) = 1
is_arrival (Woke moment) = 0
is_arrival (Read link bytes) = 0
is_arrival (Ended link) = 0
is_arrival (Failed link) = 0
is_arrival (Connected link) = 0
is_arrival (Refused link) = 0
is_arrival ListenFailed = 0

-- how many clients came
abbrev pub arrivals : List Happening → ℕ
arrivals [] = 0
arrivals (happening ∷ happenings) = is_arrival happening + arrivals happenings

-- no source became ready, since no wait returned
pub record NothingBecameReady (before after : Seen) : Type 0 where
  pub undrained : (link : ℕ) → after.undrained link ≡ true → before.undrained link ≡ true
  pub listening : after.listening ≡ true → before.listening ≡ true

-- a link that is not drained was read up to the limit of a turn
abbrev pub IsReadUp : ℕ → Seen → Seen → Type 0
IsReadUp link before after = IsTrue after.tells → after.undrained link ≡ true →
    bytes_taken link before.taken + 1048576 ≤ bytes_taken link after.taken

-- a client is a guest while it is open and did not log in
abbrev pub is_guest : Connection → Bool
is_guest connection = is_open connection && not connection.session.client.logged_in

-- whether the client of a link is a guest
abbrev pub is_guest_on : ℕ → List Connection → Bool
is_guest_on link connections =
    list_any (λ connection. (connection_link connection == link) && is_guest connection) connections

-- whether the client of a link is a guest whose password takes long to check
abbrev pub is_slow_on : ℕ → List Connection → Bool
is_slow_on link connections =
    list_any (λ connection. (connection_link connection == link) && (is_guest connection
    && proves_slowly connection.session.client.chosen)) connections

-- the loop went on from one moment to another
pub record Reaches (old new : Headless) (before after : Seen) : Type 0 where
  pub waits : ℕ
  pub faults : ℕ
  pub step : LoopStep false waits faults old new before after

-- A link is read whose client is a guest with a password that takes long to check before, and no guest
-- after: its login was decided, or it is gone.
pub record DecidesOn (link : ℕ) (old new : Headless) (before after : Seen) : Type 0 where
  pub reads : LoopStep true 0 0 old new before after
  pub others : IsTrue after.tells → (other : ℕ) → other ≢ link → bytes_taken other after.taken
      ≡ bytes_taken other before.taken
  pub slow : is_slow_on link old.core.connections ≡ true
  pub decided : is_guest_on link new.core.connections ≡ false

-- so it went with some link between two moments
pub record HasDecided (old new : Headless) (before after : Seen) : Type 0 where
  pub link : ℕ
  pub from : Headless
  pub begun : Seen
  pub to : Headless
  pub ended : Seen
  pub first : Reaches old from before begun
  pub decides : DecidesOn link from to begun ended
  pub last : Reaches to new ended after

-- the client of a link is a guest at a moment by which the slow login of another was decided
pub record Waits (link : ℕ) (old new : Headless) (before after : Seen) : Type 0 where
  pub mid : Headless
  pub seen : Seen
  pub decided : HasDecided old mid before seen
  pub guest : is_guest_on link mid.core.connections ≡ true
  pub last : Reaches mid new seen after

-- A link that is not drained was read up to the limit of a turn, or it waits: it is that of a guest,
-- and in one turn one slow login is decided.
abbrev pub IsServed : ℕ → Headless → Headless → Seen → Seen → Type 0
IsServed link old new before after = IsReadUp link before after ⊎ Waits link old new before after

-- the same after a login was decided or not
pub record WaitsAfter (early : Bool) (link : ℕ) (old new : Headless) (before after : Seen) : Type 0
  where
    pub mid : Headless
    pub seen : Seen
    pub first : Reaches old mid before seen
    pub decided : (early ≡ true) ⊎ HasDecided old mid before seen
    pub guest : is_guest_on link mid.core.connections ≡ true
    pub last : Reaches mid new seen after

abbrev pub IsServedAfter : Bool → ℕ → Headless → Headless → Seen → Seen → Type 0
IsServedAfter decided link old new before after = IsReadUp link before after
    ⊎ WaitsAfter decided link old new before after

-- ---- one slow login in a turn

-- whether a slow login is decided on a link from one moment to another, or its client goes
abbrev pub decides_on : ℕ → Headless → Headless → Bool
decides_on link old new = is_slow_on link old.core.connections
    && not (is_guest_on link new.core.connections)

-- no link is read
pub record NothingRead (before after : Seen) : Type 0 where
  pub bytes : IsTrue after.tells → (link : ℕ) → bytes_taken link after.taken
      ≡ bytes_taken link before.taken

-- a link is read, and no other one
pub record ReadsAlone (link : ℕ) (old new : Headless) (before after : Seen) : Type 0 where
  pub reads : LoopStep true 0 0 old new before after
  pub others : IsTrue after.tells → (other : ℕ) → other ≢ link → bytes_taken other after.taken
      ≡ bytes_taken other before.taken

-- Links are read one after another, and once a slow login was decided, as the first flag says, none of
-- a guest. The second flag says whether one was decided by the end.
pub data ReadsGuests : Bool → Bool → Headless → Headless → Seen → Seen → Type 0 where
  ends : {decided : Bool} {last : Headless} {seen : Seen}
      → ReadsGuests decided decided last last seen seen
  passes : {decided by : Bool} {old mid new : Headless} {before seen after : Seen}
      → NothingRead before seen → Reaches old mid before seen
      → ReadsGuests decided by mid new seen after → ReadsGuests decided by old new before after
  reads : {decided by : Bool} {old mid new : Headless} {before seen after : Seen} (link : ℕ)
      → ReadsAlone link old mid before seen
      → (decided ≡ true → is_guest_on link old.core.connections ≡ false)
      → ReadsGuests (decided || decides_on link old mid) by mid new seen after
      → ReadsGuests decided by old new before after

-- in a turn at most one slow login is decided: from there on no guest is read
pub record OneLogin (decided : Bool) (old new : Headless) (before after : Seen) : Type 0 where
  pub by : Bool
  pub guests : ReadsGuests decided by old new before after

-- by one link a login is decided, or it was before
abbrev pub DecidesBy : Bool → ℕ → Headless → Headless → Seen → Seen → Type 0
DecidesBy decided link old new before after = (decided ≡ true)
    ⊎ DecidesOn link old new before after

-- a listener that is not drained gave as many clients as a turn takes
abbrev pub IsHeard : Seen → Seen → Type 0
IsHeard before after = IsTrue after.tells → after.listening ≡ true → arrivals before.taken + 1024
    ≤ arrivals after.taken

-- a WebSocket is owed no whole message that is not put into a frame
abbrev pub IsPutWhere : Bool → List ℕ → Type 0
IsPutWhere true unsent = HasNoMessage unsent
IsPutWhere false unsent = Unit {0}

abbrev pub IsPut : ℕ → Headless → Type 0
IsPut link headless = IsPutWhere
    (is_socket_at (at_key link_number link headless.links.opened.items))
    (unsent_on link headless.core)

-- nothing is left to be sent on a link
pub record IsClear (link : ℕ) (headless : Headless) : Type 0 where
  pub left : left_on link headless ≡ []
  pub put : IsPut link headless

-- nothing is left to be sent on a link, or its last write found no room
abbrev pub IsWritten : ℕ → Headless → Seen → Type 0
IsWritten link headless seen = IsClear link headless ⊎ (seen.blocked link ≡ true)

-- each source was served between two moments, and each link is written
pub record AllServed (old new : Headless) (before after : Seen) : Type 0 where
  pub links : (link : ℕ) → 1 ≤ link → IsServed link old new before after
  pub listener : IsHeard before after
  pub written : (link : ℕ) → 1 ≤ link → IsWritten link new after

-- nothing is left to be sent on a link, or its last write found no room, or it failed between
abbrev pub IsSent : ℕ → Headless → Seen → Seen → Type 0
IsSent link headless before after = (left_on link headless ≡ [])
    ⊎ ((after.blocked link ≡ true) ⊎ (Rose before.faults.links after.faults.links
    × (IsTrue after.tells → HasGained before after (Failed (record { 0 = link })))))

-- after `/quit` each link with unsent bytes is written once
abbrev pub AllSent : Headless → Seen → Seen → Type 0
AllSent headless before after = (link : ℕ) → 1 ≤ link → IsSent link headless before after

-- the sources that these tokens name are served between two moments, each once, unless `/quit` was
-- run; the listener failed so often
pub record ServesNamed (tokens : List Token) (faults : ℕ) (old new : Headless) (before after : Seen)
    : Type 0 where
  pub continues : LoopStep true 0 faults old new before after
  pub calm : IsCalm new.core
  pub falls : NothingBecameReady before after
  pub contained : AgreesWithSockets old before → KeepsLinks old new
  pub served : AgreesWithSockets old before → new.core.quits ≡ false → (link : ℕ) →
      IsTrue (list_any (is_link link) tokens) → IsServed link old new before after
  pub heard : faults ≡ 0 → new.core.quits ≡ false → IsTrue (list_any is_listener tokens) →
      IsHeard before after
  pub failed : 1 ≤ faults → Rose before.faults.listens after.faults.listens
      × IsTrue (list_any is_listener tokens)
  pub most : IsTrue after.tells → (link : ℕ) → bytes_taken link after.taken
      ≤ bytes_taken link before.taken + 1048576
  pub others : IsTrue after.tells → (link : ℕ) → list_any (is_link link) tokens ≡ false →
      bytes_taken link after.taken ≡ bytes_taken link before.taken
  pub clients : IsTrue after.tells → arrivals after.taken ≤ arrivals before.taken + 1024
  pub unheard : IsTrue after.tells → list_any is_listener tokens ≡ false → arrivals after.taken
      ≡ arrivals before.taken

-- whether what was looked up has a flag
abbrev pub has_flag : {X : Type 0} → (X → Bool) → Option X → Bool
has_flag flag (Some x) = flag x
has_flag flag None = false

-- whether a client has unsent bytes, and its link is not kept as one without room for them
abbrev pub may_write : List LinkState → Connection → Bool
may_write states connection = not (length connection.session.unsent == 0)
    && not (is_blocked (at_key link_number (connection_link connection) states))

-- the same of a server
abbrev pub may_write_seat : List LinkState → SeatView → Bool
may_write_seat states seat = not (length seat.unsent == 0)
    && not (is_blocked (at_key link_number seat.link states))

-- whether there are frames to write, and the link is not kept as one without room for them
abbrev pub may_write_these : Bool → Option (List ℕ) → Bool
may_write_these blocked None = false
may_write_these blocked (Some frames) = not blocked && not (length frames == 0)

-- whether this is so of a WebSocket link
abbrev pub may_write_frames : LinkState → Bool
may_write_frames state = may_write_these state.blocked (frames_in state.framing)

-- whether a link has a client or a server of which this is so
abbrev pub may_write_party : ℕ → List LinkState → CoreView → Bool
may_write_party link states core =
    has_flag (may_write states) (at_key connection_link link core.connections)
    || has_flag (may_write_seat states) (at_key seat_link link core.servers.seats)

-- whether it has, or it has frames
abbrev pub may_write_on : ℕ → List LinkState → CoreView → Bool
may_write_on link states core = may_write_party link states core
    || has_flag may_write_frames (at_key link_number link states)

-- whether a link is not drained, and these tokens do not name it
abbrev pub is_left_over : List Token → LinkState → Bool
is_left_over tokens state = state.undrained && not (list_any (is_link state.link.0) tokens)

-- in one turn at most so many bytes of a link are taken, and at most so many clients
pub record TakesWithin (before after : Seen) : Type 0 where
  pub bytes : IsTrue after.tells → (link : ℕ) → 1 ≤ link → bytes_taken link after.taken
      ≤ bytes_taken link before.taken + 1048576
  pub clients : IsTrue after.tells → arrivals after.taken ≤ arrivals before.taken + 1024

-- each source is served between two moments, unless `/quit` was run; the listener failed so often
pub record ServesSources (faults : ℕ) (old new : Headless) (before after : Seen) : Type 0 where
  pub continues : LoopStep true 0 faults old new before after
  pub calm : IsCalm new.core
  pub contained : AgreesWithSockets old before → KeepsLinks old new
  pub served : AgreesWithSockets old before → new.core.quits ≡ false → (link : ℕ) → 1 ≤ link →
      IsServed link old new before after
  pub heard : faults ≡ 0 → AgreesWithSockets old before → new.core.quits ≡ false →
      IsHeard before after
  pub failed : 1 ≤ faults → Rose before.faults.listens after.faults.listens
  pub within : TakesWithin before after
  pub once : OneLogin false old new before after

-- nothing is read, and no client comes
pub record TakesNothing (before after : Seen) : Type 0 where
  pub bytes : IsTrue after.tells → (link : ℕ) → bytes_taken link after.taken
      ≡ bytes_taken link before.taken
  pub clients : IsTrue after.tells → arrivals after.taken ≡ arrivals before.taken
