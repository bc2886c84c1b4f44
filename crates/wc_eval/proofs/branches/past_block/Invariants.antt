use Rattle.std.proofs.Common.{◌≡◌, ◌≤◌, ◌+◌, None, length}
use Rattle.wc_eval.specs.Walks.{left_of}
use Rattle.wc_eval.specs.Branches.{place_by, place_at_end}
use Rattle.wc_eval.proofs.branches.past_block.Given as goal

abbrev pub invariant-steps : goal.invariant-steps
invariant-steps l = record {
  found : place_at_end l.byte l.open (place_by l.first) (left_of l.walk)
      ≡ place_at_end l.byte 0 None (left_of l.start);
  few : l.open + length l.walk.rest.now ≤ length l.start.rest.now;
}

abbrev pub decreases-steps : goal.decreases-steps
decreases-steps l = length l.walk.rest.now
