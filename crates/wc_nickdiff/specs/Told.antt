-- The rows that were told, by what was at the first touch of each key and what is now.
use Rattle.std.specs.Prelude.{◌≡◌, Option, Some, None, List}
use Rattle.wc_nicklist.specs.declared.item.Key.{Key}
use Rattle.wc_nicklist.specs.declared.item.Row.{Row}
use Rattle.wc_nicklist.specs.Rows.{find_row, IsRows}

-- what was at the first touch, or what is now where there was none
abbrev pub told_or : Option (Option Row) → Option Row → Option Row
told_or None now = now
told_or (Some row) now = row

abbrev pub told_at : (Key → Option (Option Row)) → List Row → Key → Option Row
told_at first now k = told_or (first k) (find_row k now)

-- these are the rows that were told, and rows that a nicklist can hold
pub record IsTold (first : Key → Option (Option Row)) (now told : List Row) : Type 0 where
  pub held : IsRows told
  pub found : (k : Key) → told_at first now k ≡ find_row k told
