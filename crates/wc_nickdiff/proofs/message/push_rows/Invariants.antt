use Rattle.std.proofs.Common.{◌≡◌, ◌++◌, map}
use Rattle.wc_nickdiff.proofs.message.push_rows.Given as goal

-- the items so far, after those of before
abbrev pub invariant-loop-row : goal.invariant-loop-row
invariant-loop-row l = record {
  items : l.items ≡ l.fn.items ++ map (λ r. r.item) l.yielded;
  rest : l.now.rows ≡ l.yielded ++ l.row-iterator;
}
