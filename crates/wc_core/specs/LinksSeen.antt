-- What the loop sees of a link: its client, or else its server.
use Rattle.std.specs.Prelude.{ℕ, List, Option, Some, None}
use Rattle.wc_text.specs.declared.names.Cause.{Cause}
use Rattle.wc_outside.specs.Keyed.{at_key}
use Rattle.wc_board.specs.declared.connection.Connection.{Connection}
use Rattle.wc_board.specs.declared.connection.Departure.{Departure}
use Rattle.wc_board.specs.Connections.{connection_link, unsent_at, gone_at, departure_of}
use Rattle.wc_servers.specs.Seats.{SeatView, seat_link, first_leaving}
use Rattle.wc_servers.specs.Seats.{unsent_at as server_unsent_at, gone_at as server_gone_at}
use Rattle.wc_core.specs.CoreView.{CoreView}

abbrev pub bytes_or : Option (List ℕ) → Option (List ℕ) → Option (List ℕ)
bytes_or None other = other
bytes_or (Some bytes) other = Some bytes

-- the bytes that are still to be sent on a link
abbrev pub unsent_in_core : ℕ → CoreView → Option (List ℕ)
unsent_in_core link core = bytes_or (unsent_at (at_key connection_link link core.connections))
    (server_unsent_at (at_key seat_link link core.servers.seats))

-- the core after the first unsent bytes of a link are gone
abbrev pub gone_in : ℕ → ℕ → CoreView → Option Connection → CoreView
gone_in link count core None = record core {
  servers = record core.servers {
    seats = server_gone_at link count core.servers.seats
        (at_key seat_link link core.servers.seats);
  };
}
gone_in link count core (Some connection) =
    record core { connections = gone_at link count core.connections (Some connection) }

-- ---- who leaves first

abbrev pub departure_by : ℕ → Option Cause → Option Departure
departure_by link None = None
departure_by link (Some cause) = Some (record { link = record { 0 = link }; cause = cause })

abbrev pub departure_of_seat : Option SeatView → Option Departure
departure_of_seat None = None
departure_of_seat (Some seat) = departure_by seat.link seat.leaving

abbrev pub departure_or : Option Departure → Option Departure → Option Departure
departure_or None other = other
departure_or (Some departure) other = Some departure

-- the server that began to leave first, or else the first client that is leaving
abbrev pub departure_in : CoreView → Option Departure
departure_in core = departure_or (departure_of_seat (first_leaving core.servers.seats))
    (departure_of core.connections)
