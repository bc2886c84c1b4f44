use Rattle.std.proofs.Common.{◌≡◌, ◌≤◌, length, take, vec_len, vec_capacity}
use Rattle.wc_filters.proofs.filters.copies.Given as goal

-- what is copied so far is the front of the list, and there is room for all of it
abbrev pub invariant-loop-row : goal.invariant-loop-row
invariant-loop-row l =
    (l.copies.items ≡ take l.row-index l.rows) × (vec_len l.copies ≡ l.row-index)
    × (length l.rows ≤ vec_capacity l.copies) × (l.rows ≡ l.fn.rows)
