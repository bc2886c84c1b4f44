use Rattle.std.proofs.Common.{◌≡◌, ◌≤◌, nat_le, length}
use Rattle.wc_eval.specs.Pieces.{most_open_from, most_open}
use Rattle.wc_eval.specs.Walks.{left_of}
use Rattle.wc_eval.proofs.parts.opens_at_most.Given as goal

abbrev pub invariant-steps : goal.invariant-steps
invariant-steps l = record {
  same : nat_le (most_open_from l.open (left_of l.walk)) l.most ≡ nat_le (most_open l.text) l.most;
  few : l.open ≤ l.most;
}

abbrev pub decreases-steps : goal.decreases-steps
decreases-steps l = length l.walk.rest.now
