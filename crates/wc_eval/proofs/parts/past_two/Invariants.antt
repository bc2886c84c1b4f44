use Rattle.std.proofs.Common.{◌≡◌, ◌≤◌, length}
use Rattle.wc_eval.specs.Reading.{blocks_left, past_two}
use Rattle.wc_eval.proofs.parts.past_two.Given as goal

abbrev pub invariant-steps : goal.invariant-steps
invariant-steps l = record {
  found : past_two l.byte (blocks_left l.walk) ≡ past_two l.byte (blocks_left l.start);
  shorter : length l.walk.rest.now ≤ length l.start.rest.now;
}

abbrev pub decreases-steps : goal.decreases-steps
decreases-steps l = length l.walk.rest.now
