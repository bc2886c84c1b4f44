-- What a diff makes of rows, and which of its items is refused.
use Rattle.std.specs.Prelude.{ℕ, ◌+◌, Bool, true, false, not, ◌||◌, Option, Some, None, Result, Ok}
use Rattle.std.specs.Prelude.{Err, List, [], ◌∷◌, if◌then◌else◌, bytes_eq, is_none, is_some}
use Rattle.std.specs.Prelude.{unwrap_or}
use Rattle.wc_nicklist.specs.declared.item.Item.{Item}
use Rattle.wc_nicklist.specs.declared.item.Row.{Row}
use Rattle.wc_nicklist.specs.Order.{key_of}
use Rattle.wc_nicklist.specs.Rows.{find_row, parent_of, path_below, remove_row, change_row}
use Rattle.wc_nicklist.specs.Rows.{TextsAreUtf8}
use Rattle.wc_nicklist.specs.Calls.{add_refusal, remove_refusal, change_refusal, add_row}
use Rattle.wc_nickdiff.specs.declared.diff_item.DiffItem.{DiffItem}
use Rattle.wc_nickdiff.specs.declared.diff_item.Mark.{Mark}
use Rattle.wc_nickdiff.specs.declared.diff_item.Mark.TheVariants.{Parent, Added, Removed, Changed}

-- whether the row is there, under the group of this name or under the root
abbrev pub lies_under : List ℕ → Option Row → Bool
lies_under parent None = false
lies_under parent (Some r) = bytes_eq (parent_of r) parent

-- an item that comes in has a name that a row may have, which no row has; one that goes or is
-- changed is under the parent that was named last, and a group that goes has nothing below it
unfoldable pub is_refused_under : Mark → List ℕ → Item → List Row → Bool
is_refused_under Parent parent i rows = is_none (path_below i.name rows)
is_refused_under Added parent i rows = is_some (add_refusal i.is_group parent i.name rows)
is_refused_under Removed parent i rows = not (lies_under parent (find_row (key_of i) rows))
    || is_some (remove_refusal i.is_group i.name rows)
is_refused_under Changed parent i rows = not (lies_under parent (find_row (key_of i) rows))
    || is_some (change_refusal i.is_group i.name rows)

abbrev pub is_parent : Mark → Bool
is_parent Parent = true
is_parent Added = false
is_parent Removed = false
is_parent Changed = false

-- the first item has to name a parent
abbrev pub is_refused : DiffItem → Option (List ℕ) → List Row → Bool
is_refused d None rows = not (is_parent d.mark) || is_refused_under d.mark [] d.item rows
is_refused d (Some parent) rows = is_refused_under d.mark parent d.item rows

unfoldable pub applied_under : Mark → List ℕ → Item → List Row → List Row
applied_under Parent parent i rows = rows
applied_under Added parent i rows = add_row i.is_group parent i rows
applied_under Removed parent i rows = remove_row (key_of i) rows
applied_under Changed parent i rows = change_row (key_of i) i rows

-- the rows after an item, and the parent that then was named last
abbrev pub item_applied : DiffItem → Option (List ℕ) → List Row → List Row
item_applied d parent rows = applied_under d.mark (unwrap_or parent []) d.item rows

abbrev pub named_last : DiffItem → Option (List ℕ) → Option (List ℕ)
named_last d parent = if is_parent d.mark then Some d.item.name else parent

-- the rows after these items, or the place of the first that is refused
abbrev pub applied_from : ℕ → Option (List ℕ) → List DiffItem → List Row → Result (List Row) ℕ
applied_from place parent [] rows = Ok rows
applied_from place parent (d ∷ ds) rows = if is_refused d parent rows then Err place
    else applied_from (place + 1) (named_last d parent) ds (item_applied d parent rows)

-- the same of a whole diff
abbrev pub applied_all : List DiffItem → List Row → Result (List Row) ℕ
applied_all ds rows = applied_from 0 None ds rows

abbrev pub AreUtf8 : List DiffItem → Type 0
AreUtf8 [] = Unit {0}
AreUtf8 (d ∷ ds) = TextsAreUtf8 d.item × AreUtf8 ds
