-- The slots in which entries are filed, and what an open pass sees of them.
use Rattle.std.specs.Prelude.{◌≡◌, ℕ, ◌+◌, ◌≤◌, Bool, true, false, not, ◌&&◌, ◌||◌}
use Rattle.std.specs.Prelude.{◌==◌, nat_lt, nat_le, Option, Some, None, List, [], ◌∷◌, map, filter}
use Rattle.std.specs.Prelude.{find, length, take, drop, bytes_eq, if◌then◌else◌}
use Rattle.std.specs.List.{list_all, list_any}
use Rattle.wc_hooks.specs.declared.cursor.Cursor.{Cursor}
use Rattle.wc_hooks.specs.declared.entry.Entry.{Entry}
use Rattle.wc_hooks.specs.declared.entry.HookId.{HookId}
use Rattle.wc_hooks.specs.declared.kind.HookKind.{HookKind}
use Rattle.wc_hooks.specs.declared.slot.Slot.{Slot}
use Rattle.wc_hooks.specs.Kinds.{same_kind, is_relay}
use Rattle.wc_hooks.specs.Ranks.{Rank, falls_by}
use Rattle.wc_hooks.specs.Rows.{HookRow}
use Rattle.wc_hooks.specs.Filings.{Filing}
use Rattle.wc_hooks.specs.Passes.{runs, following}
use Rattle.wc_hooks.specs.Past.{was_at, opened_at, noted}
use Rattle.wc_hooks.specs.Table.{Topic, Going}

abbrev pub slot_rank : Slot → Rank
slot_rank slot = record { kind = slot.kind; key = slot.key; priority = slot.priority }

abbrev pub is_live : Slot → Bool
is_live slot = not slot.gone

abbrev pub is_slot : HookId → Slot → Bool
is_slot id slot = slot.id.0 == id.0

abbrev pub is_slot_for : HookKind → List ℕ → Slot → Bool
is_slot_for kind key slot = same_kind slot.kind kind && bytes_eq slot.key key

abbrev pub row_of : Slot → HookRow
row_of slot = record {
  id = slot.id;
  kind = slot.kind;
  key = slot.key;
  priority = slot.priority;
  owner = slot.owner;
  enabled = slot.enabled;
}

abbrev pub slot_entry : Slot → Entry
slot_entry slot = record { id = slot.id; owner = slot.owner }

abbrev pub slot_filing : Slot → Filing
slot_filing slot = record {
  id = slot.id;
  kind = slot.kind;
  key = slot.key;
  priority = slot.priority;
}

abbrev pub live_rows : List Slot → List HookRow
live_rows slots = map row_of (filter is_live slots)

abbrev pub live_relays : List Slot → ℕ
live_relays slots = length (filter (λ slot. is_live slot && is_relay slot.kind) slots)

abbrev pub live_others : List Slot → ℕ
live_others slots = length (filter (λ slot. is_live slot && not (is_relay slot.kind)) slots)

-- what it was as the pass of this place opened
abbrev pub was_of : ℕ → Slot → Bool
was_of place slot = was_at slot.past place slot.enabled

-- the pass of this place has it, which opened when so many had been hooked
abbrev pub in_snapshot : ℕ → ℕ → Slot → Bool
in_snapshot place hooked slot = nat_le slot.id.0 hooked && was_of place slot

-- one that lives may run
abbrev pub may_go : List Entry → Slot → Bool
may_go marks slot = slot.enabled && not (runs slot.owner marks)

-- a slot that changes: what it was to open passes stays
abbrev pub with_enabled : Bool → Slot → Slot
with_enabled on slot = record slot { enabled = on; past = noted slot.enabled slot.past }

abbrev pub with_slot_switch : HookId → Bool → Slot → Slot
with_slot_switch id on slot = if is_slot id slot && is_live slot then with_enabled on slot else slot

abbrev pub gone_from : Slot → Slot
gone_from slot = record slot { enabled = false; past = noted slot.enabled slot.past; gone = true }

abbrev pub with_leave : HookId → Slot → Slot
with_leave id slot = if is_slot id slot then gone_from slot else slot

abbrev pub left_slots : HookId → Bool → List Slot → List Slot
left_slots id stays slots = if stays then map (with_leave id) slots
    else filter (λ slot. not (is_slot id slot)) slots

abbrev pub seen_opening : ℕ → Slot → Slot
seen_opening place slot = record slot { past = opened_at place slot.past }

abbrev pub with_opening : ℕ → HookKind → List ℕ → Slot → Slot
with_opening place kind key slot = if is_slot_for kind key slot
    then seen_opening place slot else slot

-- the slots that a pass goes through
abbrev pub window : Cursor → List Slot → List Slot
window cursor slots = take cursor.count (drop cursor.start slots)

-- those of them that it has not looked at
abbrev pub ahead : ℕ → Cursor → List Slot → List Slot
ahead place cursor slots = filter (in_snapshot place cursor.hooked)
    (drop cursor.seen (window cursor slots))

abbrev pub first_topic : List Slot → Option Topic
first_topic [] = None
first_topic (slot ∷ slots) = Some (record { kind = slot.kind; key = slot.key })

abbrev pub going_at : ℕ → Cursor → List Slot → Going
going_at place cursor slots = record {
  left = map slot_entry (ahead place cursor slots);
  looked = cursor.looked;
  over = first_topic (window cursor slots);
}

-- the passes, place by place
abbrev pub goings : ℕ → List Slot → List (Option Cursor) → List (Option Going)
goings place slots [] = []
goings place slots (None ∷ cursors) = None ∷ goings (place + 1) slots cursors
goings place slots (Some cursor ∷ cursors) = Some (going_at place cursor slots) ∷ goings
    (place + 1) slots cursors

-- a slot was put in at this place
abbrev pub moved_cursor : ℕ → Cursor → Cursor
moved_cursor at cursor =
    if nat_le at cursor.start then record cursor { start = cursor.start + 1 } else
    if nat_lt at (cursor.start + cursor.count) then record cursor {
      count = cursor.count + 1;
      seen = if nat_lt at (cursor.start + cursor.seen) then cursor.seen + 1 else cursor.seen;
    }
    else cursor

abbrev pub moved_place : ℕ → Option Cursor → Option Cursor
moved_place at None = None
moved_place at (Some cursor) = Some (moved_cursor at cursor)

-- all are of one kind and key
abbrev pub one_topic : List Slot → Bool
one_topic [] = true
one_topic (slot ∷ slots) = list_all (is_slot_for slot.kind slot.key) slots

-- each number is once
abbrev pub are_apart : List Slot → Bool
are_apart [] = true
are_apart (slot ∷ slots) = not (list_any (is_slot slot.id) slots) && are_apart slots

-- its number was drawn, and where it is gone it is not enabled
abbrev pub is_known : ℕ → Slot → Bool
is_known hooked slot = nat_le slot.id.0 hooked && (not slot.gone || not slot.enabled)

pub record IsOrdered (hooked : ℕ) (slots : List Slot) : Type 0 where
  pub falls : falls_by slot_rank slots ≡ true
  pub apart : are_apart slots ≡ true
  pub known : list_all (is_known hooked) slots ≡ true

-- the slots of a kind and a key come after one another
pub record IsRange (kind : HookKind) (key : List ℕ) (slots : List Slot) (start count : ℕ) :
    Type 0 where
  pub inside : start + count ≤ length slots
  pub front : list_all (λ slot. not (is_slot_for kind key slot)) (take start slots) ≡ true
  pub here : list_all (is_slot_for kind key) (take count (drop start slots)) ≡ true
  pub rest : list_all (λ slot. not (is_slot_for kind key slot)) (drop (start + count) slots) ≡ true

-- a cursor is in the slots of one kind and key
pub record CursorFits (hooked : ℕ) (slots : List Slot) (cursor : Cursor) : Type 0 where
  pub inside : cursor.start + cursor.count ≤ length slots
  pub within : cursor.seen ≤ cursor.count
  pub counted : cursor.looked ≤ cursor.seen
  pub drawn : cursor.hooked ≤ hooked
  pub topic : one_topic (window cursor slots) ≡ true

abbrev pub AllCursorsFit : ℕ → List Slot → List (Option Cursor) → Type 0
AllCursorsFit hooked slots [] = Unit {0}
AllCursorsFit hooked slots (None ∷ cursors) = AllCursorsFit hooked slots cursors
AllCursorsFit hooked slots (Some cursor ∷ cursors) = CursorFits hooked slots cursor
    × AllCursorsFit hooked slots cursors

-- a cursor whose ends can be moved by one
abbrev pub is_low : Option Cursor → Bool
is_low None = true
is_low (Some cursor) = nat_lt (cursor.start + cursor.count) 18446744073709551615
    && nat_le cursor.seen cursor.count

abbrev pub found_entry : Option Slot → Option Entry
found_entry None = None
found_entry (Some slot) = Some (slot_entry slot)

-- a pass goes on over the slots
pub record Walked (slots : List Slot) (marks : List Entry) (place : ℕ) (old new : Cursor)
    (result : Option Entry) : Type 0 where
  pub given : result ≡ found_entry (find (may_go marks) (ahead place old slots))
  pub left : ahead place new slots ≡ following (may_go marks) (ahead place old slots)
  pub start : new.start ≡ old.start
  pub count : new.count ≡ old.count
  pub hooked : new.hooked ≡ old.hooked
  pub within : new.seen ≤ new.count
  pub counted : new.looked ≤ new.seen
  pub onward : old.looked ≤ new.looked
