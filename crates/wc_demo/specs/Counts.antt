-- How many buffers, lines and nicks there are.
use Rattle.std.specs.Prelude.{ℕ, not, List, length, filter, sum_by}
use Rattle.wc_text.specs.declared.names.Handle.{Handle}
use Rattle.wc_nicklist.specs.declared.item.Row.{Row}
use Rattle.wc_buffers.specs.Groups.{rows}
use Rattle.wc_buffers.specs.Kept.{handles}
use Rattle.wc_model.specs.World.{World, lines_at, rows_at}
use Rattle.wc_demo.specs.declared.counts.Counts.{Counts}

abbrev pub none_counted : Counts
none_counted = record { buffers = 0; lines = 0; nicks = 0 }

-- the rows of a nicklist that are no groups
abbrev pub nicks_in : List Row → List Row
nicks_in all = filter (λ row. not row.item.is_group) all

-- buffers, of which each has so many lines and nicks
abbrev pub counted_by : {A : Type 0} → (A → ℕ) → (A → ℕ) → List A → Counts
counted_by lines_of nicks_of buffers = record {
  buffers = length buffers;
  lines = sum_by lines_of buffers;
  nicks = sum_by nicks_of buffers;
}

-- these buffers, with all their lines and nicks
abbrev pub counted_in : World → List Handle → Counts
counted_in world buffers = counted_by (λ (h : Handle). length (lines_at world h.0))
    (λ (h : Handle). length (nicks_in (rows_at world h.0))) buffers

-- all buffers
abbrev pub counts_of : World → Counts
counts_of world = counted_in world (rows (handles world.groups))
