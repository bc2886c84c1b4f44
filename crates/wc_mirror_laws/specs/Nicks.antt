-- Nicklists within their limits.
use Rattle.std.specs.Prelude.{◌≡◌, ℕ, ◌<◌, ◌≤◌, List, length, is_some}
use Rattle.std.specs.FinMap.{get}
use Rattle.std.specs.List.{AllByRecursion}
use Rattle.wc_nicklist.specs.declared.item.Row.{Row}
use Rattle.wc_nicklist.specs.Rows.{IsRows}
use Rattle.wc_buffers.specs.Calls.{EntryGroups, handle_of}
use Rattle.wc_buffers.specs.Groups.{has}
use Rattle.wc_model.specs.World.{row_limit}
use Rattle.wc_world.specs.Nicks.{IsCut}
use Rattle.wc_board.specs.Told.{Told, told_of}

-- a row whose handle was drawn before the next one, and whose texts were cut
pub record IsRowKept (next : ℕ) (row : Row) : Type 0 where
  pub drawn : row.item.handle.0 < next
  pub cut : IsCut row.item

-- rows that a nicklist can hold, no more of them than all nicklists may have
pub record AreRowsKept (next : ℕ) (rows : List Row) : Type 0 where
  pub held : IsRows rows
  pub each : AllByRecursion (IsRowKept next) rows
  pub few : length rows ≤ row_limit

-- each buffer that is there has a nicklist, and nothing else has
pub record AreListsKept (next : ℕ) (groups : EntryGroups) (lists : Told) : Type 0 where
  pub there : (h : ℕ) → is_some (get lists h) ≡ has handle_of h groups
  pub rows : (h : ℕ) → AreRowsKept next (told_of lists h)
