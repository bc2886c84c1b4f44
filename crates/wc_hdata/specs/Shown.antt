-- The lists of lines that buffers show.
use Rattle.std.specs.Prelude.{◌≡◌}
use Rattle.wc_buffers.specs.Calls.{EntryGroups}
use Rattle.wc_hdata.specs.declared.shown.Shown.{Shown}
use Rattle.wc_hdata.specs.Lists.{shown_list}

-- what is kept of a buffer is what it shows
abbrev pub IsShown : EntryGroups → Shown → Type 0
IsShown groups shown = shown.list ≡ shown_list groups shown.buffer
