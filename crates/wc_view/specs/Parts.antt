-- The lines of each buffer, as a client holds them.
use Rattle.std.specs.Prelude.{ℕ, ◌==◌, List, [], ◌∷◌, ◌++◌, map, filter, fold, unwrap_or, Option, drop}
use Rattle.std.specs.Prelude.{Some, None, if◌then◌else◌}
use Rattle.std.specs.FinMap.{FinMap, get, insert, remove, from_entries}
use Rattle.std.specs.Ordering.{nat_cmp}
use Rattle.wc_lines.specs.Ring.{last_of}
use Rattle.wc_view.specs.declared.mirror_buffer.MirrorLine.{MirrorLine}
use Rattle.wc_view.specs.declared.flags.LineFlag.{LineFlag}
use Rattle.wc_view.specs.declared.rows.LineRow.{LineRow}
use Rattle.wc_view.specs.declared.trims.LineTrim.{LineTrim}

-- by the handles of the buffers
abbrev pub Part : Type 0
Part = FinMap nat_cmp (List MirrorLine)

-- a buffer that is not there has no lines
abbrev pub lines_at : Part → ℕ → List MirrorLine
lines_at part buffer = unwrap_or (get part buffer) []

-- the last lines of these up to a limit, or all of them where there is none
abbrev pub kept_lines : Option ℕ → List MirrorLine → List MirrorLine
kept_lines None lines = lines
kept_lines (Some limit) lines = last_of limit lines

-- a line after the others of its buffer, as far as the limit allows
abbrev pub with_row : Option ℕ → LineRow → Part → Part
with_row limit row part = insert part row.buffer
    (kept_lines limit (lines_at part row.buffer ++ row.line ∷ []))

-- the lines of one buffer among these
abbrev pub lines_of : ℕ → List LineRow → List MirrorLine
lines_of buffer rows = map (λ row. row.line) (filter (λ row. row.buffer == buffer) rows)

-- for each buffer that has lines among these, the last of them, as far as the limit allows
abbrev pub part_of : Option ℕ → List LineRow → Part
part_of limit rows = from_entries
    (map (λ row. (row.buffer, kept_lines limit (lines_of row.buffer rows))) rows)

-- the lines of a buffer gone
abbrev pub without : ℕ → Part → Part
without buffer part = remove part buffer

-- a line with the flag set, where it has the content of the flag
abbrev pub flagged_line : LineFlag → MirrorLine → MirrorLine
flagged_line flag line = if line.content.0 == flag.content
    then record line { displayed = flag.displayed } else line

abbrev pub with_line_flag : LineFlag → List MirrorLine → List MirrorLine
with_line_flag flag lines = map (flagged_line flag) lines

-- a flag of a line that is not held is passed over
abbrev pub flagged_in : LineFlag → Part → Option (List MirrorLine) → Part
flagged_in flag part None = part
flagged_in flag part (Some lines) = insert part flag.buffer (with_line_flag flag lines)

abbrev pub with_flag : Part → LineFlag → Part
with_flag part flag = flagged_in flag part (get part flag.buffer)

abbrev pub with_flags : Part → List LineFlag → Part
with_flags part flags = fold with_flag part flags

-- so many of the oldest lines of a buffer gone, or all where it has fewer
abbrev pub trimmed_in : LineTrim → Part → Option (List MirrorLine) → Part
trimmed_in trim part None = part
trimmed_in trim part (Some lines) = insert part trim.buffer (drop trim.count lines)

abbrev pub with_trim : LineTrim → Part → Part
with_trim trim part = trimmed_in trim part (get part trim.buffer)
