use Rattle.std.proofs.Common.{◌≡◌, ◌++◌, length}
use Rattle.wc_demo.specs.Counts.{nicks_in}
use Rattle.wc_demo.proofs.counts.nick_count.Given as goal

-- the nicks among the rows so far
abbrev pub invariant-loop-row : goal.invariant-loop-row
invariant-loop-row l = record {
  count : l.count ≡ length (nicks_in l.yielded);
  rest : l.list.rows ≡ l.yielded ++ l.row-iterator;
}
