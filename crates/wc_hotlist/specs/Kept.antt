-- The rows after a line was printed, and after a buffer was taken out.
use Rattle.std.specs.Prelude.{ℕ, ℤ, pos, negsuc, Bool, true, false, List, Option, Some, None, length}
use Rattle.std.specs.Prelude.{nat_lt, nat_le, if◌then◌else◌, slice_set, slice_index_or}
use Rattle.std.specs.List.{remove}
use Rattle.wc_text.specs.declared.names.Handle.{Handle}
use Rattle.wc_hotlist.specs.declared.row.HotRow.{HotRow}
use Rattle.wc_hotlist.specs.Counted.{first_row, counted_row, raised_row, place_of, put_row}

-- the row at a place counts a line of this level; a new greatest level moves it
abbrev pub rows_raised : ℕ → List HotRow → ℕ → HotRow → List HotRow
rows_raised level rows place row =
    if nat_le level row.priority then slice_set rows place (counted_row level row)
    else put_row (raised_row level row) (remove rows place)

-- a line of this level on the buffer of the row at a place; a buffer without a row gets one, unless
-- there are as many rows as there can be
abbrev pub rows_counted : Handle → ℕ → List HotRow → Option ℕ → List HotRow
rows_counted buffer level rows None =
    if nat_lt (length rows) 256 then put_row (first_row buffer level) rows else rows
rows_counted buffer level rows (Some place) =
    rows_raised level rows place (slice_index_or rows place (first_row buffer level))

-- a line that was displayed counts by its level, from 0 to 3
abbrev pub rows_displayed : List HotRow → Handle → ℤ → List HotRow
rows_displayed rows buffer (negsuc n) = rows
rows_displayed rows buffer (pos level) =
    if nat_lt level 4 then rows_counted buffer level rows (place_of buffer rows) else rows

-- the rows after a line with this level of notification was printed on a buffer
unfoldable pub rows_with : List HotRow → Handle → ℤ → Bool → List HotRow
rows_with rows buffer notify displayed = if displayed then rows_displayed rows buffer notify else rows

abbrev pub rows_removed : List HotRow → Option ℕ → List HotRow
rows_removed rows None = rows
rows_removed rows (Some place) = remove rows place

-- the rows without that of a buffer
unfoldable pub rows_without : Handle → List HotRow → List HotRow
rows_without buffer rows = rows_removed rows (place_of buffer rows)
