-- What a pass over the entries of the clients has come to.
use Rattle.std.specs.Prelude.{◌≡◌, ℕ, Bool, true, false, ◌==◌, Option, Some, None, List, [], ◌∷◌}
use Rattle.std.specs.Prelude.{map, drop, replicate, slice_set, option_to_list}
use Rattle.wc_hooks.specs.declared.entry.Entry.{Entry}
use Rattle.wc_hooks.specs.declared.entry.HookId.{HookId}
use Rattle.wc_hooks.specs.Passes.{without_mark}
use Rattle.wc_hooks.specs.Rows.{entry_of}
use Rattle.wc_hooks.specs.Table.{Table, Going, IsOpen, pass_at, left_at, with_marks, without_row}
use Rattle.wc_board.specs.declared.connection.Connection.{Connection}
use Rattle.wc_board.specs.Hooked.{entry_rows}

-- this pass is open, and no other
abbrev pub relay_alone : Option Going → List (Option Going)
relay_alone pass = slice_set (replicate 17 None) 16 pass

-- the entries of the clients from this place on
abbrev pub entries_from : ℕ → List HookId → List Connection → List Entry
entries_from place ids connections = map entry_of (entry_rows (drop place ids)
    (drop place connections))

-- a pass in which the clients before this place had their turn, and the next one is to be found
pub record IsPassAt (table : Table) (ids : List HookId) (place : ℕ)
    (connections : List Connection) : Type 0 where
  pub rows : table.rows ≡ entry_rows ids connections
  pub marks : table.marks ≡ []
  pub passes : table.passes ≡ relay_alone (pass_at table 16)
  pub is_open : IsOpen table 16
  pub left : left_at table 16 ≡ entries_from place ids connections

-- of these entries the first is given, if there is one, and the others are left
abbrev pub GivesFirst : Option Entry → List Entry → List Entry → Type 0
GivesFirst None left entries = entries ≡ []
GivesFirst (Some entry) left entries = entries ≡ entry ∷ left

-- the same pass, where the next entry was given and is marked as running
pub record IsGivenAt (table : Table) (ids : List HookId) (place : ℕ)
    (connections : List Connection) (given : Option Entry) : Type 0 where
  pub rows : table.rows ≡ entry_rows ids connections
  pub marks : table.marks ≡ option_to_list given
  pub passes : table.passes ≡ relay_alone (pass_at table 16)
  pub is_open : IsOpen table 16
  pub first : GivesFirst given (left_at table 16) (entries_from place ids connections)

-- the entry that was given has this number
abbrev pub is_given : Option Entry → HookId → Bool
is_given None id = false
is_given (Some entry) id = entry.id.0 == id.0

-- the entry of a client that was served is not running, and gone where the client began to leave
abbrev pub turn_ended : HookId → Bool → Table → Table
turn_ended id true table = with_marks (without_mark id table.marks) table
turn_ended id false table =
    with_marks (without_mark id (without_row id table).marks) (without_row id table)
