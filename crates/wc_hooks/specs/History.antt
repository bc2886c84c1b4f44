-- Sequences of calls, and what one open pass gives over them.
use Rattle.std.specs.Prelude.{◌≡◌, ℕ, ◌+◌, Bool, true, not, ◌==◌, Some, List, [], ◌∷◌, ◌++◌}
use Rattle.std.specs.Prelude.{map, filter, option_to_list, if◌then◌else◌}
use Rattle.wc_hooks.specs.declared.entry.Entry.{Entry}
use Rattle.wc_hooks.specs.declared.entry.HookId.{HookId}
use Rattle.wc_hooks.specs.declared.kind.HookKind.{HookKind}
use Rattle.wc_hooks.specs.Rows.{HookRow, rows_switched}
use Rattle.wc_hooks.specs.Passes.{may_run, without_mark}
use Rattle.wc_hooks.specs.Table.{Table, with_row, without_row, with_rows, with_marks, with_pass}
use Rattle.wc_hooks.specs.Table.{without_pass, opening, left_at, next_of, after_next}

-- a call of `next` with the steps that it took
pub data TableCall : Type 0 where
  hooks : HookRow → TableCall
  unhooks : HookId → TableCall
  switches : HookId → Bool → TableCall
  opens : ℕ → HookKind → List ℕ → TableCall
  gives : ℕ → ℕ → TableCall
  ends : HookId → TableCall
  closes : ℕ → TableCall

-- what a call makes of the table
abbrev pub after : TableCall → Table → Table
after (hooks row) table = with_row row table
after (unhooks id) table = without_row id table
after (switches id on) table = with_rows (rows_switched id on table.rows) table
after (opens place kind key) table = with_pass place (Some (opening kind key table)) table
after (gives place steps) table = after_next table place steps
after (ends id) table = with_marks (without_mark id table.marks) table
after (closes place) table = without_pass place table

abbrev pub after_all : List TableCall → Table → Table
after_all [] table = table
after_all (act ∷ acts) table = after_all acts (after act table)

-- no pass is opened or closed at this place
abbrev pub leaves : ℕ → TableCall → Bool
leaves place (hooks row) = true
leaves place (unhooks id) = true
leaves place (switches id on) = true
leaves place (opens other kind key) = not (other == place)
leaves place (gives other steps) = true
leaves place (ends id) = true
leaves place (closes other) = not (other == place)

-- those in front, up to and with the first that passes the test
abbrev pub front : (Entry → Bool) → List Entry → List Entry
front test [] = []
front test (entry ∷ left) = if test entry then entry ∷ [] else entry ∷ front test left

-- the entries that the pass at this place looks at in a call, each with whether it may run then
abbrev pub turn : ℕ → TableCall → Table → List (Entry × Bool)
turn place (hooks row) table = []
turn place (unhooks id) table = []
turn place (switches id on) table = []
turn place (opens other kind key) table = []
turn place (gives other steps) table =
    if other == place then map (λ entry. (entry, may_run table.rows table.marks entry))
    (front (may_run table.rows table.marks) (left_at table place)) else []
turn place (ends id) table = []
turn place (closes other) table = []

abbrev pub turns : ℕ → List TableCall → Table → List (Entry × Bool)
turns place [] table = []
turns place (act ∷ acts) table = turn place act table ++ turns place acts (after act table)

-- the entries that the pass at this place gives
abbrev pub gift : ℕ → TableCall → Table → List Entry
gift place (hooks row) table = []
gift place (unhooks id) table = []
gift place (switches id on) table = []
gift place (opens other kind key) table = []
gift place (gives other steps) table = if other == place
    then option_to_list (next_of table place) else []
gift place (ends id) table = []
gift place (closes other) table = []

abbrev pub gifts : ℕ → List TableCall → Table → List Entry
gifts place [] table = []
gifts place (act ∷ acts) table = gift place act table ++ gifts place acts (after act table)

-- the steps that the calls of `next` of the pass at this place take
abbrev pub steps_of : ℕ → TableCall → ℕ
steps_of place (hooks row) = 0
steps_of place (unhooks id) = 0
steps_of place (switches id on) = 0
steps_of place (opens other kind key) = 0
steps_of place (gives other steps) = if other == place then steps else 0
steps_of place (ends id) = 0
steps_of place (closes other) = 0

abbrev pub all_steps : ℕ → List TableCall → ℕ
all_steps place [] = 0
all_steps place (act ∷ acts) = steps_of place act + all_steps place acts

-- each entry that was left is looked at once and in order, or still left, and those are given that
-- may run at their turn
pub record IsWalk (place : ℕ) (acts : List TableCall) (table : Table) : Type 0 where
  pub order : map (λ seen. seen.0) (turns place acts table) ++ left_at (after_all acts table) place
      ≡ left_at table place
  pub given : map (λ seen. seen.0) (filter (λ seen. seen.1) (turns place acts table))
      ≡ gifts place acts table
