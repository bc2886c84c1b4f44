use Rattle.std.proofs.Common.{◌≡◌, ◌≤◌, ◌+◌, length}
use Rattle.wc_eval.specs.Walks.{after_group, left_of}
use Rattle.wc_eval.proofs.pieces.Walk.past_group.Given as goal

abbrev pub invariant-pieces : goal.invariant-pieces
invariant-pieces l = record {
  found : after_group l.open (left_of l.walk) ≡ after_group 0 (left_of l.self);
  few : l.open + length l.walk.rest.now ≤ length l.self.rest.now;
}

abbrev pub decreases-pieces : goal.decreases-pieces
decreases-pieces l = length l.walk.rest.now
