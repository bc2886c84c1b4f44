-- How many buffers, lines and nicks a mirror has.
use Rattle.std.specs.Prelude.{ℕ, List, [], length, Option, None, Some, unwrap_or}
use Rattle.std.specs.FinMap.{get}
use Rattle.wc_nicklist.specs.declared.item.Row.{Row}
use Rattle.wc_buffers.specs.Groups.{rows}
use Rattle.wc_view.specs.declared.mirror_buffer.MirrorBuffer.{MirrorBuffer}
use Rattle.wc_view.specs.declared.mirror_buffer.MirrorLine.{MirrorLine}
use Rattle.wc_view.specs.Parts.{Part, lines_at}
use Rattle.wc_view.specs.NickFold.{NickPart}
use Rattle.wc_view.specs.Taking.{MirrorParts}
use Rattle.wc_demo.specs.declared.counts.Counts.{Counts}
use Rattle.wc_demo.specs.Counts.{nicks_in, counted_by}

abbrev pub lines_held : Option Part → ℕ → List MirrorLine
lines_held None buffer = []
lines_held (Some part) buffer = lines_at part buffer

abbrev pub rows_held : Option NickPart → ℕ → List Row
rows_held None buffer = []
rows_held (Some part) buffer = unwrap_or (get part buffer) []

-- a buffer of which no dump told has no lines, and no nicks
abbrev pub mirrored_lines : MirrorParts → ℕ → List MirrorLine
mirrored_lines parts buffer = lines_held parts.lines buffer

abbrev pub mirrored_rows : MirrorParts → ℕ → List Row
mirrored_rows parts buffer = rows_held parts.nicks buffer

abbrev pub mirrored_in : MirrorParts → List MirrorBuffer → Counts
mirrored_in parts buffers =
    counted_by (λ (b : MirrorBuffer). length (mirrored_lines parts b.handle.0))
    (λ (b : MirrorBuffer). length (nicks_in (mirrored_rows parts b.handle.0))) buffers

abbrev pub mirror_counts_of : MirrorParts → Counts
mirror_counts_of parts = mirrored_in parts (rows (unwrap_or parts.buffers []))
