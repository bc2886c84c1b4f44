-- The servers that have a link, and what is done to them.
use Rattle.std.specs.Prelude.{◌≡◌, ℕ, ◌+◌, ◌≤◌, max, Bool, true, false, is_none}
use Rattle.std.specs.Prelude.{List, [], ◌∷◌, ◌++◌, map, take, drop, find, bytes_eq, Option, Some, None}
use Rattle.std.specs.Prelude.{if◌then◌else◌, nat_lt, nat_le}
use Rattle.wc_text.specs.declared.names.Cause.{Cause}
use Rattle.wc_outside.specs.Keyed.{at_key, put_at, without}
use Rattle.wc_irc.specs.CloseActs.{quit_line}
use Rattle.wc_irc.specs.Servers.{ServerState}
use Rattle.wc_irc.specs.declared.act.Act.{Act}
use Rattle.wc_irc.specs.declared.act.Act.TheVariants as act
use Rattle.wc_servers.specs.declared.wanted.Wanted.{Wanted}

-- a server over its link
pub record SeatView : Type 0 where
  pub link : ℕ
  pub server : ServerState
  -- the bytes that are still to be sent
  pub unsent : List ℕ
  -- why its link is to be closed, if it is
  pub leaving : Option Cause
  -- how many began to leave before it did
  pub rank : ℕ

pub record ServersView : Type 0 where
  -- those that are open and those that are leaving, in the order in which their connections were
  -- begun
  pub seats : List SeatView
  -- the connections that are still to be asked for, in their order
  pub wanted : List Wanted
  -- link numbers up to this one are used
  pub used : ℕ
  -- how many began to leave
  pub left : ℕ

abbrev pub no_servers : ServersView
no_servers = record { seats = []; wanted = []; used = 0; left = 0 }

abbrev pub seat_link : SeatView → ℕ
seat_link seat = seat.link

abbrev pub is_open : SeatView → Bool
is_open seat = is_none seat.leaving

-- a server that is not leaving, and its link
pub record ServerSeat : Type 0 where
  pub link : ℕ
  pub server : ServerState

abbrev pub server_link : ServerSeat → ℕ
server_link seat = seat.link

abbrev pub seat_of : SeatView → ServerSeat
seat_of seat = record { link = seat.link; server = seat.server }

-- those that are not leaving
abbrev pub open_of : List SeatView → List ServerSeat
open_of [] = []
open_of (seat ∷ seats) = if is_open seat then seat_of seat ∷ open_of seats else open_of seats

abbrev pub has_name : List ℕ → ServerSeat → Bool
has_name name seat = bytes_eq seat.server.name name

-- the server of a name that is not leaving
abbrev pub server_named : List ℕ → List ServerSeat → Option ServerSeat
server_named name servers = find (has_name name) servers

-- ---- what is seen of a link

abbrev pub unsent_at : Option SeatView → Option (List ℕ)
unsent_at None = None
unsent_at (Some seat) = Some seat.unsent

abbrev pub unsent_in : Option SeatView → List ℕ
unsent_in None = []
unsent_in (Some seat) = seat.unsent

-- the bytes that are still to be sent on a link
abbrev pub unsent_on : ℕ → List SeatView → List ℕ
unsent_on link seats = unsent_in (at_key seat_link link seats)

abbrev pub leaving_in : Option SeatView → Option Cause
leaving_in None = None
leaving_in (Some seat) = seat.leaving

-- why the server of a link is leaving, if it is
abbrev pub leaving_on : ℕ → List SeatView → Option Cause
leaving_on link seats = leaving_in (at_key seat_link link seats)

abbrev pub is_open_at : Option SeatView → Bool
is_open_at None = false
is_open_at (Some seat) = is_open seat

-- what is open there
abbrev pub open_if : Bool → SeatView → Option ServerSeat
open_if true seat = Some (seat_of seat)
open_if false seat = None

abbrev pub open_in : Option SeatView → Option ServerSeat
open_in None = None
open_in (Some seat) = open_if (is_open seat) seat

-- ---- the first one that began to leave, of those that are there

abbrev pub before_or : SeatView → Option SeatView → Option SeatView
before_or seat None = Some seat
before_or seat (Some other) = if nat_lt other.rank seat.rank then Some other else Some seat

-- the one of two that began to leave first; the other one comes after it in the list
abbrev pub earlier_of : Option SeatView → SeatView → SeatView
earlier_of None seat = seat
earlier_of (Some first) seat = if nat_le first.rank seat.rank then first else seat

abbrev pub first_leaving : List SeatView → Option SeatView
first_leaving [] = None
first_leaving (seat ∷ seats) = if is_open seat then first_leaving seats
    else before_or seat (first_leaving seats)

-- ---- what is done to the server of a link

-- no number of the list is this one
abbrev pub NotAmong : ℕ → List ℕ → Type 0
NotAmong n [] = Unit {0}
NotAmong n (m ∷ ms) = (m ≡ n → ⊥) × NotAmong n ms

abbrev pub AreApart : List ℕ → Type 0
AreApart [] = Unit {0}
AreApart (n ∷ ns) = NotAmong n ns × AreApart ns

abbrev pub AreUsed : ℕ → List ℕ → Type 0
AreUsed used [] = Unit {0}
AreUsed used (n ∷ ns) = (n ≤ used) × AreUsed used ns

abbrev pub links_of : List SeatView → List ℕ
links_of seats = map seat_link seats

-- no link has two servers, and the number of each is used
pub record AreSeats (servers : ServersView) : Type 0 where
  pub apart : AreApart (links_of servers.seats)
  pub used : AreUsed servers.used (links_of servers.seats)

-- numbers up to this one are used
abbrev pub used_up : ℕ → ServersView → ServersView
used_up link servers = record servers { used = max servers.used link }

abbrev pub new_seat : ℕ → ServerState → SeatView
new_seat link server = record { link = link; server = server; unsent = []; leaving = None; rank = 0 }

abbrev pub wanted_of : ℕ → ServerState → Wanted
wanted_of link server = record {
  link = record { 0 = link };
  address = server.address;
  server = server.name;
}

-- a connection is begun, whose link has the next number
abbrev pub begun : ServerState → ServersView → ServersView
begun server servers = record servers {
  seats = servers.seats ++ new_seat (servers.used + 1) server ∷ [];
  wanted = servers.wanted ++ wanted_of (servers.used + 1) server ∷ [];
  used = servers.used + 1;
}

-- a line with its end
abbrev pub ended : List ℕ → List ℕ
ended line = line ++ 13 ∷ 10 ∷ []

abbrev pub told : List ℕ → SeatView → SeatView
told line seat = record seat { unsent = seat.unsent ++ ended line }

-- a line is put after the unsent bytes of an open server, and dropped where there is none
abbrev pub told_if : Bool → ℕ → List ℕ → List SeatView → SeatView → List SeatView
told_if true link line seats seat = put_at seat_link link (told line seat) seats
told_if false link line seats seat = seats

abbrev pub told_at : ℕ → List ℕ → List SeatView → Option SeatView → List SeatView
told_at link line seats None = seats
told_at link line seats (Some seat) = told_if (is_open seat) link line seats seat

-- another state of an open server
abbrev pub known : ServerState → SeatView → SeatView
known server seat = record seat { server = server }

-- an open server begins to leave, after so many others
abbrev pub left_for : Cause → ℕ → SeatView → SeatView
left_for cause rank seat = record seat { leaving = Some cause; rank = rank }

-- the first unsent bytes are gone
abbrev pub gone_at : ℕ → ℕ → List SeatView → Option SeatView → List SeatView
gone_at link count seats None = seats
gone_at link count seats (Some seat) =
    put_at seat_link link (record seat { unsent = drop count seat.unsent }) seats

-- what an open server is told before the run ends
abbrev pub told_first : List Act → SeatView → SeatView
told_first [] seat = seat
told_first (act.Send line ∷ acts) seat = told line seat
told_first (_ ∷ acts) seat = seat

abbrev pub quitting : SeatView → SeatView
quitting seat = if is_open seat then told_first (quit_line seat.server) seat else seat

-- so many of them are told that, one after another, and the others stay as they are
pub record QuitFront (old new : List SeatView) : Type 0 where
  pub count : ℕ
  pub told : new ≡ map quitting (take count old) ++ drop count old

abbrev pub forgotten : ℕ → ServersView → ServersView
forgotten link servers = record servers { seats = without seat_link link servers.seats }
