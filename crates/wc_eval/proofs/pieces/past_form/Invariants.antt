use Rattle.std.proofs.Common.{◌≡◌, ◌≤◌, ◌+◌, length}
use Rattle.wc_eval.specs.Walks.{after_form}
use Rattle.wc_eval.proofs.pieces.past_form.Given as goal

abbrev pub invariant-bytes : goal.invariant-bytes
invariant-bytes l = record {
  found : after_form l.open l.rest ≡ after_form 0 l.text;
  few : l.open + length l.rest ≤ length l.text;
}

abbrev pub decreases-bytes : goal.decreases-bytes
decreases-bytes l = length l.rest
