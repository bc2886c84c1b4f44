-- What rows mean: the printed lines that they are about.
use Rattle.std.specs.Prelude.{◌≡◌, ◌<◌, List, All}
use Rattle.wc_hotlist.specs.declared.row.HotRow.{HotRow}
use Rattle.wc_hotlist.specs.Pairs.{HotPair}
use Rattle.wc_hotlist.specs.Rows.{rows_of}

pub record Means (rows : List HotRow) (pairs : List HotPair) : Type 0 where
  pub rows_are : rows ≡ rows_of pairs
  pub levels : All (λ (pair : HotPair). pair.level < 4) pairs
