-- What a pass does for each client.
use Rattle.std.specs.Prelude.{ℕ}
use Rattle.wc_model.specs.declared.notice.EventKind.{EventKind}
use Rattle.wc_board.specs.declared.connection.Connection.{Connection}
use Rattle.wc_board.specs.declared.connection.Service.{Service}
use Rattle.wc_board.specs.declared.connection.Service.TheVariants.{Tell, Starve}
use Rattle.wc_board.specs.Served.{heard_connection, starved_connection}

abbrev pub kind_of : Service → EventKind
kind_of (Tell event) = event.kind
kind_of (Starve kind buffer) = kind

abbrev pub buffer_of : Service → ℕ
buffer_of (Tell event) = event.buffer.0
buffer_of (Starve kind buffer) = buffer.0

-- a connection that the service finds memory for
abbrev pub serve_connection : Service → Connection → Connection
serve_connection (Tell event) = heard_connection event
serve_connection (Starve kind buffer) = starved_connection kind buffer.0
