use Rattle.std.proofs.Common.{◌≡◌, ◌≤◌, length}
use Rattle.wc_eval.specs.Pieces.{blocks_of}
use Rattle.wc_eval.specs.Reading.{blocks_left, from_sign}
use Rattle.wc_eval.proofs.parts.from_sign.Given as goal

abbrev pub invariant-steps : goal.invariant-steps
invariant-steps l = record {
  found : from_sign (blocks_left l.walk) ≡ from_sign (blocks_of l.text);
  shorter : length l.walk.rest.now ≤ length l.text;
}

abbrev pub decreases-steps : goal.decreases-steps
decreases-steps l = length l.walk.rest.now
