-- Who is at a link: a client, or a server.
use Rattle.std.specs.Prelude.{ℕ, ◌+◌, ◌≡◌, ◌≤◌, Bool, false, ◌||◌, ◌==◌, List, [], ◌∷◌, ◌++◌, map}
use Rattle.std.specs.Prelude.{length, is_some, if◌then◌else◌}
use Rattle.std.specs.List.{list_any}
use Rattle.wc_text.specs.declared.names.LinkId.{LinkId}
use Rattle.wc_outside.specs.Keyed.{at_key}
use Rattle.wc_outside.specs.declared.happening.Asked.{Asked}
use Rattle.wc_outside.specs.declared.happening.Asked.TheVariants.{Connect}
use Rattle.wc_board.specs.Connections.{connection_link, is_open_at, unsent_on as client_unsent_on}
use Rattle.wc_servers.specs.declared.wanted.Wanted.{Wanted}
use Rattle.wc_servers.specs.Outs.{lines_by, wanted_in}
use Rattle.wc_servers.specs.Seats.{SeatView, seat_link, is_open_at as is_seat_open}
use Rattle.wc_servers.specs.Seats.{unsent_on as server_unsent_on}
use Rattle.wc_core.specs.CoreView.{CoreView}
use Rattle.wc_core.specs.State.{Act, Sends, Closes, Serves, Quits}
use Rattle.wc_core.specs.Served.{outs_of}
use Rattle.wc_core.specs.ServersKept.{partings_of}
use Rattle.wc_session.specs.Sending.{spelling}
use Rattle.wc_turns.specs.declared.links.Closed.{Closed}
use Rattle.wc_turns.specs.Run.{close_of_parting, leaving_closes}

-- whether a link has a client or a server, which may be leaving
abbrev pub has_party : ℕ → CoreView → Bool
has_party link core = is_some (at_key connection_link link core.connections)
    || is_some (at_key seat_link link core.servers.seats)

-- whether it has one that is not leaving
abbrev pub has_open : ℕ → CoreView → Bool
has_open link core = is_open_at (at_key connection_link link core.connections)
    || is_seat_open (at_key seat_link link core.servers.seats)

-- the number of a link is used, and nobody is at it
abbrev pub IsVacant : CoreView → ℕ → Type 0
IsVacant core link = (link ≤ core.servers.used) × (has_party link core ≡ false)

-- how many clients and servers there are
abbrev pub party_count : CoreView → ℕ
party_count core = length core.connections + length core.servers.seats

-- the bytes that are still to be sent on a link
abbrev pub unsent_on : ℕ → CoreView → List ℕ
unsent_on link core = client_unsent_on link core.connections
    ++ server_unsent_on link core.servers.seats

abbrev pub owed_by : ℕ → Act → List ℕ
owed_by link (Sends to m) = if to == link then spelling m else []
owed_by link (Closes to cause) = []
owed_by link (Serves out) = lines_by link out
owed_by link Quits = []

-- the bytes that acts owe to a link, of its client or of its server
abbrev pub owed_to : ℕ → List Act → List ℕ
owed_to link [] = []
owed_to link (act ∷ acts) = owed_by link act ++ owed_to link acts

-- ---- connections that are still to be asked for

abbrev pub connect_of : Wanted → Asked
connect_of wanted = Connect wanted.address

-- what the sockets are to be asked for
abbrev pub asks_of : List Wanted → List Asked
asks_of wanted = map connect_of wanted

-- what acts ask of the sockets
abbrev pub asks_in : List Act → List Asked
asks_in acts = asks_of (wanted_in (outs_of acts))

-- whether a connection is among those that were refused
abbrev pub is_refused : ℕ → List LinkId → Bool
is_refused link refused = list_any (λ (one : LinkId). one.0 == link) refused

-- ---- who is leaving

-- the closes that servers ask for, in the order in which they began to leave
abbrev pub seat_closes : List SeatView → List Closed
seat_closes seats = map close_of_parting (partings_of seats)

-- The closes that servers and clients ask for. A client that began to leave has no further line
-- served, so that what leaves at the lines of one read left before it.
abbrev pub closes_asked : CoreView → List Closed
closes_asked core = seat_closes core.servers.seats ++ leaving_closes core.connections

-- nobody is leaving, and no connection is still to be asked for
pub record IsCalm (core : CoreView) : Type 0 where
  pub parted : closes_asked core ≡ []
  pub asked : core.servers.wanted ≡ []
