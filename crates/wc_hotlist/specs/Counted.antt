-- A row with one line more, and where a row is put among others.
use Rattle.std.specs.Prelude.{ℕ, ◌+◌, ◌-◌, ◌^◌, nat_lt, List, [], ◌∷◌, Option, if◌then◌else◌}
use Rattle.std.specs.Prelude.{slice_index, slice_set, length}
use Rattle.std.specs.List.{insert, position}
use Rattle.std.specs.Option.{unwrap_or}
use Rattle.wc_text.specs.declared.names.Handle.{Handle}
use Rattle.wc_hotlist.specs.declared.row.HotRow.{HotRow}
use Rattle.wc_hotlist.specs.Rows.{is_row_of}

-- one more, as far as an `int` goes
abbrev pub one_more : ℕ → ℕ
one_more count = if nat_lt count (2 ^ 31 - 1) then count + 1 else count

abbrev pub counts_with : ℕ → List ℕ → List ℕ
counts_with level counts = slice_set counts level (one_more (slice_index counts level))

abbrev pub counted_row : ℕ → HotRow → HotRow
counted_row level row = record row { counts = counts_with level row.counts }

abbrev pub raised_row : ℕ → HotRow → HotRow
raised_row level row = counted_row level (record row { priority = level })

abbrev pub first_row : Handle → ℕ → HotRow
first_row buffer level = counted_row level
    (record { buffer = buffer; priority = level; counts = 0 ∷ 0 ∷ 0 ∷ 0 ∷ [] })

abbrev pub place_of : Handle → List HotRow → Option ℕ
place_of buffer rows = position (is_row_of buffer) rows

-- the place of the first row of a lower priority
abbrev pub lower_place : ℕ → List HotRow → Option ℕ
lower_place priority rows = position (λ (row : HotRow). nat_lt row.priority priority) rows

-- the rows with one put there, or at their end
abbrev pub put_row : HotRow → List HotRow → List HotRow
put_row row rows = insert rows (unwrap_or (lower_place row.priority rows) (length rows)) row
