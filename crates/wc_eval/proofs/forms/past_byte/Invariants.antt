use Rattle.std.proofs.Common.{◌≡◌, ◌≤◌, length}
use Rattle.wc_eval.specs.Walks.{left_of, past_byte}
use Rattle.wc_eval.proofs.forms.past_byte.Given as goal

abbrev pub invariant-steps : goal.invariant-steps
invariant-steps l = record {
  found : past_byte l.byte (left_of l.walk) ≡ past_byte l.byte (left_of l.start);
  shorter : length l.walk.rest.now ≤ length l.start.rest.now;
}

abbrev pub decreases-steps : goal.decreases-steps
decreases-steps l = length l.walk.rest.now
