-- The comparison of the rows of one key.
use Rattle.std.specs.Prelude.{Bool, true, false, not, Option, Some, None, List, [], ◌∷◌, ◌++◌, map}
use Rattle.std.specs.Prelude.{if◌then◌else◌}
use Rattle.std.specs.List.{flat_map}
use Rattle.wc_nicklist.specs.declared.item.Item.{Item}
use Rattle.wc_nicklist.specs.declared.item.Key.{Key}
use Rattle.wc_nicklist.specs.declared.item.Row.{Row}
use Rattle.wc_nicklist.specs.Rows.{find_row}
use Rattle.wc_nickdiff.specs.NickPush.{stays, change_list, op, with_parents}
use Rattle.wc_nickdiff.specs.declared.diff_item.DiffItem.{DiffItem}
use Rattle.wc_nickdiff.specs.declared.diff_item.Mark.{Mark}
use Rattle.wc_nickdiff.specs.declared.diff_item.Mark.TheVariants.{Parent, Added, Removed, Changed}
use Rattle.wc_nickdiff.specs.declared.diff_item.FirstTouch.{FirstTouch}

-- the row, where it passes
abbrev pub keep : (Row → Bool) → Option Row → Option Row
keep p None = None
keep p (Some r) = if p r then Some r else None

abbrev pub leaving_row : Option Row → Option Row → Option Row
leaving_row told now = keep (λ r. not (stays (Some r) now)) told

abbrev pub coming_row : Option Row → Option Row → Option Row
coming_row told now = keep (λ r. not (stays told (Some r))) now

abbrev pub changed_pair : Option Row → Option Row → Option Row
changed_pair told now = keep (λ r. change_list told (Some r)) now

abbrev pub listed_row : Option Row → List Row
listed_row None = []
listed_row (Some r) = r ∷ []

-- what a comparison picks of each key that was touched
abbrev pub picked_rows : (Option Row → Option Row → Option Row) → List Row →
    List FirstTouch → List Row
picked_rows pick now ts = flat_map (λ t. listed_row (pick t.before (find_row t.key now))) ts

abbrev pub is_out : Mark → Bool
is_out Parent = false
is_out Added = false
is_out Removed = true
is_out Changed = false

-- what is out is below what was told, and what is not below what is now
abbrev pub found_by : Mark → (Key → Option Row) → (Key → Option Row) → Key → Option Row
found_by m told now = if is_out m then told else now

-- the items of five lists of rows, one list after the other
abbrev pub items_written : Item → (Key → Option Row) → (Key → Option Row) → List Row → List Row →
    List Row → List Row → List Row → List DiffItem
items_written root told now out_nicks out_groups in_groups in_nicks changed =
    with_parents None
    (map (op Removed root told) out_nicks
    ++ (map (op Removed root told) out_groups
    ++ (map (op Added root now) in_groups
    ++ (map (op Added root now) in_nicks
    ++ map (op Changed root now) changed))))
