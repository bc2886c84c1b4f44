-- What the fields of the table mean, and what always holds of them.
use Rattle.std.specs.Prelude.{◌≡◌, ℕ, ◌≤◌, Bool, true, false, not, ◌&&◌, Option, List, []}
use Rattle.std.specs.Prelude.{◌∷◌, length, map, is_some}
use Rattle.std.specs.List.{list_all, list_any}
use Rattle.std.specs.Vec.{vec_capacity}
use Rattle.wc_hooks.specs.declared.cursor.Cursor.{Cursor}
use Rattle.wc_hooks.specs.declared.entry.Entry.{Entry}
use Rattle.wc_hooks.specs.declared.slot.Slot.{Slot}
use Rattle.wc_hooks.specs.declared.table.HookTable.TheInside.{Inside}
use Rattle.wc_hooks.specs.Kinds.{same_owner}
use Rattle.wc_hooks.specs.Rows.{HookRow, is_id, relays, others}
use Rattle.wc_hooks.specs.Passes.{runs}
use Rattle.wc_hooks.specs.Slots.{live_rows, slot_filing, goings, is_live, IsOrdered, AllCursorsFit}
use Rattle.wc_hooks.specs.Table.{Table}

abbrev pub seen_as : List Slot → List (Option Cursor) → List Entry → ℕ → Table
seen_as slots cursors marks hooked = record {
  rows = live_rows slots;
  marks = marks;
  hooked = hooked;
  filed = map slot_filing slots;
  passes = goings 0 slots cursors;
}

abbrev pub table_of : Inside → Table
table_of a = seen_as a.slots a.cursors.items a.marks.items a.hooked

-- the entry lives, and is of this owner
abbrev pub is_marked_in : List HookRow → Entry → Bool
is_marked_in rows mark = list_any (λ row. is_id mark.id row && same_owner row.owner mark.owner) rows

-- no owner is marked twice
abbrev pub owners_differ : List Entry → Bool
owners_differ [] = true
owners_differ (mark ∷ marks) = not (runs mark.owner marks) && owners_differ marks

pub record IsMarked (rows : List HookRow) (marks : List Entry) : Type 0 where
  pub live : list_all (is_marked_in rows) marks ≡ true
  pub apart : owners_differ marks ≡ true

-- how many entries live
pub record IsCounted (rows : List HookRow) (relay_count other_count : ℕ) : Type 0 where
  pub relays : relay_count ≡ relays rows
  pub others : other_count ≡ others rows
  pub most_relays : relay_count ≤ 64
  pub most_others : other_count ≤ 960

-- where no slot is said to be gone none is, and none is where no pass is open
pub record IsPurged (slots : List Slot) (cursors : List (Option Cursor)) (has_gone : Bool) :
    Type 0 where
  pub live : has_gone ≡ false → list_all is_live slots ≡ true
  pub closed : list_any is_some cursors ≡ false → has_gone ≡ false

-- what always holds beside the room for marks
pub record IsTableKept (slots : List Slot) (cursors : List (Option Cursor)) (marks : List Entry)
    (hooked relay_count other_count : ℕ) (has_gone : Bool) : Type 0 where
  pub ordered : IsOrdered hooked slots
  pub standing : AllCursorsFit hooked slots cursors
  pub places : length cursors ≡ 17
  pub marked : IsMarked (live_rows slots) marks
  pub counted : IsCounted (live_rows slots) relay_count other_count
  pub purged : IsPurged slots cursors has_gone

pub record IsSound (a : Inside) : Type 0 where
  pub kept : IsTableKept a.slots a.cursors.items a.marks.items a.hooked a.relays a.others a.has_gone
  pub room : 1024 ≤ vec_capacity a.marks
