-- What is seen of the clients, and what is done to the client of a link.
use Rattle.std.specs.Prelude.{ℕ, Bool, true, false, is_none, List, [], ◌∷◌, drop, Option, Some}
use Rattle.std.specs.Prelude.{None}
use Rattle.wc_text.specs.declared.names.LinkId.{LinkId}
use Rattle.wc_text.specs.declared.names.Cause.{Cause}
use Rattle.wc_outside.specs.Keyed.{at_key, put_at}
use Rattle.wc_session.specs.declared.client.Client.{Client}
use Rattle.wc_session.specs.Known.{Known, new_session}
use Rattle.wc_board.specs.declared.connection.Connection.{Connection}
use Rattle.wc_board.specs.declared.connection.Departure.{Departure}

abbrev pub connection_link : Connection → ℕ
connection_link connection = connection.session.client.link.0

abbrev pub client_of : Connection → Client
client_of connection = connection.session.client

abbrev pub is_open : Connection → Bool
is_open connection = is_none connection.leaving

-- ---- what is seen of a link

abbrev pub session_at : Option Connection → Option Known
session_at None = None
session_at (Some connection) = Some connection.session

abbrev pub unsent_at : Option Connection → Option (List ℕ)
unsent_at None = None
unsent_at (Some connection) = Some connection.session.unsent

abbrev pub unsent_in : Option Connection → List ℕ
unsent_in None = []
unsent_in (Some connection) = connection.session.unsent

-- the bytes that are still to be sent on a link
abbrev pub unsent_on : ℕ → List Connection → List ℕ
unsent_on link connections = unsent_in (at_key connection_link link connections)

abbrev pub leaving_in : Option Connection → Option Cause
leaving_in None = None
leaving_in (Some connection) = connection.leaving

-- why the client of a link is leaving, if it is
abbrev pub leaving_on : ℕ → List Connection → Option Cause
leaving_on link connections = leaving_in (at_key connection_link link connections)

abbrev pub is_open_at : Option Connection → Bool
is_open_at None = false
is_open_at (Some connection) = is_open connection

-- the first client that is leaving
abbrev pub departure_by : LinkId → Option Cause → Option Departure → Option Departure
departure_by link None others = others
departure_by link (Some cause) others = Some (record { link = link; cause = cause })

abbrev pub departure_of : List Connection → Option Departure
departure_of [] = None
departure_of (connection ∷ connections) = departure_by connection.session.client.link
    connection.leaving (departure_of connections)

-- ---- what is done to the client of a link

-- the connection of a client that came
abbrev pub new_connection : LinkId → List ℕ → Connection
new_connection link nonce = record {
  session = new_session link nonce;
  leaving = None;
}

-- the connections after the first unsent bytes of a link are gone
abbrev pub gone_at : ℕ → ℕ → List Connection → Option Connection → List Connection
gone_at link count connections None = connections
gone_at link count connections (Some connection) = put_at connection_link link
    (record connection {
      session =
          record connection.session { unsent = drop count connection.session.unsent };
    }) connections

-- the connections after the client of a link began to leave, where it is open
abbrev pub left_if : Bool → ℕ → Cause → List Connection → Connection → List Connection
left_if true link cause connections connection = put_at connection_link link
    (record connection { leaving = Some cause }) connections
left_if false link cause connections connection = connections

abbrev pub left_at : ℕ → Cause → List Connection → Option Connection → List Connection
left_at link cause connections None = connections
left_at link cause connections (Some connection) = left_if (is_open connection) link cause
    connections connection
