use Rattle.std.proofs.Common.{◌≡◌, ◌++◌}
use Rattle.wc_nickdiff.proofs.row.add_rows.Given as goal

-- the rows so far are copied
abbrev pub invariant-loop-row : goal.invariant-loop-row
invariant-loop-row l = record {
  root : l.copy.root ≡ l.fn.copy.root;
  rows : l.copy.rows ≡ l.yielded;
  rest : l.list.rows ≡ l.yielded ++ l.row-iterator;
}
