-- What a client holds that held some rows, once a push is applied or read.
use Rattle.std.specs.Prelude.{ℕ, ◌-◌, Result, Ok, List, [], ◌∷◌, ◌++◌, take, if◌then◌else◌}
use Rattle.wc_nicklist.specs.declared.item.Item.{Item}
use Rattle.wc_nicklist.specs.declared.item.Row.{Row}
use Rattle.wc_nickdiff.specs.declared.diff_item.Push.{Push}
use Rattle.wc_nickdiff.specs.declared.diff_item.Push.TheVariants.{Nothing, Diff, Full}
use Rattle.wc_nickdiff.specs.Apply.{applied_all}

-- a nick belongs to the group before it; a group of level n is below the group of level n - 1
-- before it
abbrev pub rows_from : List (List ℕ) → List Item → List Row
rows_from path [] = []
rows_from path (x ∷ xs) =
    if x.is_group
    then record { path = take (x.level - 1) path; item = x } ∷ rows_from (take (x.level - 1) path
    ++ x.name ∷ []) xs
    else record { path = path; item = x } ∷ rows_from path xs

-- the rows of a full list, whose first item is the root
abbrev pub rows_of : List Item → List Row
rows_of [] = []
rows_of (root ∷ xs) = rows_from [] xs

abbrev pub rows_after_push : Push → List Row → Result (List Row) ℕ
rows_after_push Nothing rows = Ok rows
rows_after_push (Diff ds) rows = applied_all ds rows
rows_after_push (Full items) rows = Ok (rows_of items)
