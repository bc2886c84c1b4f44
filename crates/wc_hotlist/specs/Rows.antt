-- The rows that the hotlist has for a list of pairs.
use Rattle.std.specs.Prelude.{ℕ, ◌-◌, ◌^◌, min, max, Bool, not, ◌==◌, List, [], ◌∷◌, map, filter}
use Rattle.std.specs.List.{list_any, count_by, flat_map}
use Rattle.wc_text.specs.declared.names.Handle.{Handle}
use Rattle.wc_hotlist.specs.declared.row.HotRow.{HotRow}
use Rattle.wc_hotlist.specs.Pairs.{HotPair, is_of}

-- ---- the row of a buffer

-- the levels beside a buffer
abbrev pub levels_of : Handle → List HotPair → List ℕ
levels_of buffer pairs = map (λ (pair : HotPair). pair.level) (filter (is_of buffer) pairs)

-- the greatest of some levels, 0 where there are none
abbrev pub greatest : List ℕ → ℕ
greatest [] = 0
greatest (level ∷ levels) = max level (greatest levels)

abbrev pub priority_of : Handle → List HotPair → ℕ
priority_of buffer pairs = greatest (levels_of buffer pairs)

-- how often a level is among some, as far as an `int` goes
abbrev pub count_of : List ℕ → ℕ → ℕ
count_of levels level = min (2 ^ 31 - 1) (count_by (λ other. other == level) levels)

abbrev pub row_of : List HotPair → Handle → HotRow
row_of pairs buffer = record {
  buffer = buffer;
  priority = priority_of buffer pairs;
  counts = map (count_of (levels_of buffer pairs)) (0 ∷ 1 ∷ 2 ∷ 3 ∷ []);
}

-- ---- their order

-- each handle at its first place alone
abbrev pub each_once : List Handle → List Handle
each_once [] = []
each_once (handle ∷ handles) =
    handle ∷ filter (λ (other : Handle). not (other.0 == handle.0)) (each_once handles)

-- the buffers that have a pair of this level, in the order of the first such pair of each
abbrev pub buffers_with : ℕ → List HotPair → List Handle
buffers_with level pairs = each_once
    (map (λ (pair : HotPair). pair.buffer) (filter (λ (pair : HotPair). pair.level == level) pairs))

-- those of them that have no pair of a greater one
abbrev pub buffers_at : ℕ → List HotPair → List Handle
buffers_at level pairs =
    filter (λ buffer. priority_of buffer pairs == level) (buffers_with level pairs)

abbrev pub rows_at : List HotPair → ℕ → List HotRow
rows_at pairs level = map (row_of pairs) (buffers_at level pairs)

-- the rows of the greatest level first
unfoldable pub rows_of : List HotPair → List HotRow
rows_of pairs = flat_map (rows_at pairs) (3 ∷ 2 ∷ 1 ∷ 0 ∷ [])

-- ---- whether there is a row

abbrev pub is_row_of : Handle → HotRow → Bool
is_row_of buffer row = row.buffer.0 == buffer.0

abbrev pub has_row : Handle → List HotRow → Bool
has_row buffer rows = list_any (is_row_of buffer) rows
