-- The entries of the clients in the table of hooks.
use Rattle.std.specs.Prelude.{◌≡◌, ℕ, Bool, true, ◌&&◌, nat_le, nat_lt, if◌then◌else◌}
use Rattle.std.specs.Prelude.{List, [], ◌∷◌, None, length, replicate}
use Rattle.wc_text.specs.declared.names.LinkId.{LinkId}
use Rattle.wc_hooks.specs.declared.entry.HookId.{HookId}
use Rattle.wc_hooks.specs.declared.entry.Owner.TheVariants.{Session}
use Rattle.wc_hooks.specs.declared.kind.HookKind.TheVariants.{Relay}
use Rattle.wc_hooks.specs.Rows.{HookRow, new_row}
use Rattle.wc_hooks.specs.Table.{Table}
use Rattle.wc_board.specs.declared.connection.Connection.{Connection}
use Rattle.wc_board.specs.Connections.{is_open}

-- the entry of the client of a link
abbrev pub relay_row : HookId → LinkId → HookRow
relay_row id link = new_row id Relay [] 0 (Session link)

abbrev pub entry_row : HookId → Connection → HookRow
entry_row id connection = relay_row id connection.session.client.link

-- the entries of the clients that are open, in the order of their connections, where these are the
-- numbers of all connections
abbrev pub entry_rows : List HookId → List Connection → List HookRow
entry_rows [] connections = []
entry_rows (id ∷ ids) [] = []
entry_rows (id ∷ ids) (connection ∷ connections) = if is_open connection
    then entry_row id connection ∷ entry_rows ids connections else entry_rows ids connections

-- each number is above those in front of it, and between these bounds
abbrev pub are_rising : ℕ → ℕ → List HookId → Bool
are_rising low high [] = true
are_rising low high (id ∷ ids) = (nat_lt low id.0 && nat_le id.0 high) && are_rising id.0 high ids

-- The entries are exactly one for each open client, enabled and in the order of the connections. No
-- pass is open, and none is running. A number is given once, and kept for a client that is leaving.
pub record AreHooked (table : Table) (ids : List HookId) (drawn : ℕ)
    (connections : List Connection) : Type 0 where
  pub rows : table.rows ≡ entry_rows ids connections
  pub marks : table.marks ≡ []
  pub passes : table.passes ≡ replicate 17 None
  pub count : table.hooked ≡ drawn
  pub rising : are_rising 0 drawn ids ≡ true
  pub each : length ids ≡ length connections

-- the entries of a table are those of these clients, by some numbers
pub record IsHooked (table : Table) (connections : List Connection) : Type 0 where
  pub ids : List HookId
  pub hooked : AreHooked table ids table.hooked connections
