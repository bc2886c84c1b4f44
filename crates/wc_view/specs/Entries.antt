-- A list of entries as the lines of each buffer.
use Rattle.std.specs.Prelude.{◌≡◌, ℕ, List, None, take, get_or}
use Rattle.std.specs.FinMap.{from_entries, find}
use Rattle.std.specs.Ordering.{nat_cmp}
use Rattle.wc_view.specs.declared.mirror_buffer.MirrorLine.{MirrorLine}
use Rattle.wc_view.specs.Parts.{Part}

abbrev pub Entry : Type 0
Entry = ℕ × List MirrorLine

-- the first entry of a buffer counts
abbrev pub part_at : List Entry → Part
part_at entries = from_entries entries

-- the first entry of this buffer is at this place
pub record IsEntry {V : Type 0} (buffer place : ℕ) (entries : List (ℕ × V)) : Type 0 where
  pub at : (d : ℕ × V) → (get_or entries place d).0 ≡ buffer
  pub before : find nat_cmp buffer (take place entries) ≡ None
