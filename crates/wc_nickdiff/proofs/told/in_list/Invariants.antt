use Rattle.std.proofs.Common.{◌≡◌, take}
use Rattle.wc_nickdiff.proofs.told.in_list.Given as goal

-- the rows so far
abbrev pub invariant-loop-row : goal.invariant-loop-row
invariant-loop-row l = l.items ≡ take l.row-index l.rows
