-- What becomes of servers at an event.
use Rattle.std.specs.Prelude.{◌≡◌, ℕ, ◌+◌, ◌-◌, ◌^◌, ◌<◌, ◌≤◌, ◌==◌, Bool, true, false, ◌||◌, min}
use Rattle.std.specs.Prelude.{List, [], ◌∷◌, ◌++◌, length, Option, Some, None, IsSome, is_some}
use Rattle.std.specs.Prelude.{nat_le, if◌then◌else◌}
use Rattle.std.specs.List.{flat_map, list_any}
use Rattle.wc_text.specs.declared.names.Cause.{Cause}
use Rattle.wc_text.specs.declared.names.Cause.TheVariants.{Ended, Failed, LoginFailed, Surplus}
use Rattle.wc_text.specs.declared.names.Cause.TheVariants.{Quit, NoMemory, Disconnected, NickTaken, BadSocket}
use Rattle.wc_outside.specs.Keyed.{at_key, put_at}
use Rattle.wc_irc.specs.Servers.{ServerState}
use Rattle.wc_servers.specs.declared.wanted.Wanted.{Wanted}
use Rattle.wc_servers.specs.Outs.{Out, SendsLine, Connects, Parts}
use Rattle.wc_servers.specs.Seats.{SeatView, ServersView, seat_link, is_open, open_of, known, left_for}
use Rattle.wc_servers.specs.Seats.{leaving_on, AreSeats}

-- ---- connections that are still to be asked for

abbrev pub is_wanted : ℕ → List Wanted → Bool
is_wanted link wanted = list_any (λ (one : Wanted). one.link.0 == link) wanted

-- they have the numbers that are next, where so many are used
abbrev pub AreNext : ℕ → List Wanted → Type 0
AreNext used [] = Unit {0}
AreNext used (one ∷ wanted) = (one.link.0 ≡ used + 1) × AreNext (used + 1) wanted

-- ---- who is leaving

-- a server among others, before those that began to leave after it
abbrev pub put_by_rank : SeatView → List SeatView → List SeatView
put_by_rank seat [] = seat ∷ []
put_by_rank seat (other ∷ seats) = if nat_le seat.rank other.rank then seat ∷ other ∷ seats
    else other ∷ put_by_rank seat seats

-- the servers that are leaving, in the order in which they began to leave
abbrev pub leaving_seats : List SeatView → List SeatView
leaving_seats [] = []
leaving_seats (seat ∷ seats) = if is_open seat then leaving_seats seats
    else put_by_rank seat (leaving_seats seats)

-- the link of a server is to be closed, and why
pub record Parting : Type 0 where
  pub link : ℕ
  pub cause : Cause

abbrev pub parting_by : ℕ → Option Cause → List Parting
parting_by link None = []
parting_by link (Some cause) = record { link = link; cause = cause } ∷ []

abbrev pub parting_of : SeatView → List Parting
parting_of seat = parting_by seat.link seat.leaving

-- the links that servers ask to be closed, in the order in which they began to leave
abbrev pub partings_of : List SeatView → List Parting
partings_of seats = flat_map parting_of (leaving_seats seats)

abbrev pub parts_by : Out → List Parting
parts_by (SendsLine link bytes) = []
parts_by (Connects link address server) = []
parts_by (Parts link cause) = record { link = link; cause = cause } ∷ []

-- the links of servers that are to be closed, in order
abbrev pub parts_in : List Out → List Parting
parts_in [] = []
parts_in (out ∷ outs) = parts_by out ++ parts_in outs

-- fewer than this began to leave before each one that is leaving
abbrev pub AreRanked : ℕ → List SeatView → Type 0
AreRanked left [] = Unit {0}
AreRanked left (seat ∷ seats) = (is_open seat ≡ false → seat.rank < left) × AreRanked left seats

-- the ranks are those of servers that began to leave, and no more began to leave than there were
pub record AreInOrder (servers : ServersView) : Type 0 where
  pub ranked : AreRanked servers.left servers.seats
  pub counted : servers.left + length (open_of servers.seats) ≤ servers.used

-- ---- what an event leaves of servers

-- who begins to leave does so as these go out, after those that began before
abbrev pub LeaveInOrder : ServersView → ServersView → List Out → Type 0
LeaveInOrder old new outs = old.used ≤ 2 ^ 62 → AreInOrder old →
    partings_of new.seats ≡ partings_of old.seats ++ parts_in outs

-- What holds also where memory was refused. The connections that come are to be asked for after
-- those before, have the next numbers, and each has its server. No other server comes, none goes,
-- and one that is leaving stays as it is.
pub record ServersKeep (old new : ServersView) : Type 0 where
  pub more : List Wanted
  pub wanted : new.wanted ≡ old.wanted ++ more
  pub next : AreNext old.used more
  pub reached : new.used ≡ old.used + length more
  pub limited : old.used ≤ 2 ^ 62 → new.used ≤ 2 ^ 62
  pub links : (link : ℕ) → is_some (at_key seat_link link new.seats)
      ≡ (is_some (at_key seat_link link old.seats) || is_wanted link more)
  pub kept : (link : ℕ) → IsSome (leaving_on link old.seats) → at_key seat_link link new.seats
      ≡ at_key seat_link link old.seats
  pub seats : AreSeats old → AreSeats new
  pub order : old.used ≤ 2 ^ 62 → AreInOrder old → AreInOrder new

-- ---- the loss of a link

-- so many began to leave, and one more
abbrev pub left_after : ServersView → ℕ
left_after servers = min (servers.left + 1) (2 ^ 64 - 1)

-- an open server begins to leave for this cause, in some state
pub record LeavesAs (link : ℕ) (cause : Cause) (old new : ServersView) (seat : SeatView) :
    Type 0 where
  pub server : ServerState
  pub left : new ≡ record old {
    seats = put_at seat_link link (left_for cause old.left (known server seat)) old.seats;
    left = left_after old;
  }

abbrev pub LeavesIf : Bool → ℕ → Cause → ServersView → ServersView → SeatView → Type 0
LeavesIf true link cause old new seat = LeavesAs link cause old new seat
LeavesIf false link cause old new seat = new ≡ old

-- where there is none that is open all stay
abbrev pub LeavesAt : ℕ → Cause → ServersView → ServersView → Option SeatView → Type 0
LeavesAt link cause old new None = new ≡ old
LeavesAt link cause old new (Some seat) = LeavesIf (is_open seat) link cause old new seat

-- the server of a link begins to leave, where the link has no open client
abbrev pub LosesServer : Bool → ℕ → Cause → ServersView → ServersView → Type 0
LosesServer true link cause old new = new ≡ old
LosesServer false link cause old new =
    LeavesAt link cause old new (at_key seat_link link old.seats)

-- ---- for what cause servers begin to leave, also where memory was refused

-- one that was leaving goes on so, and one that is leaving else has a cause of these
abbrev pub PartsFor : (ℕ → Cause → Type 0) → ℕ → Option Cause → Option Cause → Type 0
PartsFor P link (Some before) now = now ≡ Some before
PartsFor P link None (Some cause) = P link cause
PartsFor P link None None = Unit {0}

abbrev pub PartsOnly : (ℕ → Cause → Type 0) → ServersView → ServersView → Type 0
PartsOnly P old new = (link : ℕ) → PartsFor P link (leaving_on link old.seats)
    (leaving_on link new.seats)

-- at a line of a link: by a command, or its own one, where each nick is taken
abbrev pub PartsAtLine : ℕ → ℕ → Cause → Type 0
PartsAtLine line link Disconnected = Unit {0}
PartsAtLine line link NickTaken = link ≡ line
PartsAtLine line link BadSocket = ⊥
PartsAtLine line link NoMemory = ⊥
PartsAtLine line link LoginFailed = ⊥
PartsAtLine line link Quit = ⊥
PartsAtLine line link Ended = ⊥
PartsAtLine line link Failed = ⊥
PartsAtLine line link Surplus = ⊥

-- at the start: by a command
abbrev pub PartsAtStart : ℕ → Cause → Type 0
PartsAtStart link Disconnected = Unit {0}
PartsAtStart link NickTaken = ⊥
PartsAtStart link BadSocket = ⊥
PartsAtStart link NoMemory = ⊥
PartsAtStart link LoginFailed = ⊥
PartsAtStart link Quit = ⊥
PartsAtStart link Ended = ⊥
PartsAtStart link Failed = ⊥
PartsAtStart link Surplus = ⊥

abbrev pub PartsNever : ℕ → Cause → Type 0
PartsNever link cause = ⊥
