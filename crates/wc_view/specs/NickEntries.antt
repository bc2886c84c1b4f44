-- A list of entries as the nicklist of each buffer.
use Rattle.std.specs.Prelude.{ℕ, List}
use Rattle.std.specs.FinMap.{from_entries}
use Rattle.wc_nicklist.specs.declared.item.Row.{Row}
use Rattle.wc_view.specs.NickFold.{NickPart}

abbrev pub NickEntry : Type 0
NickEntry = ℕ × List Row

-- the first entry of a buffer counts
abbrev pub nicks_at : List NickEntry → NickPart
nicks_at entries = from_entries entries
