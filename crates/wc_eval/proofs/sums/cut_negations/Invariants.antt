use Rattle.std.proofs.Common.{◌≡◌, ◌≤◌, ◌+◌, length}
use Rattle.wc_eval.specs.Fronts.{negations_in, past_negations}
use Rattle.wc_eval.proofs.sums.cut_negations.Given as goal

abbrev pub invariant-signs : goal.invariant-signs
invariant-signs l = record {
  count : l.count + negations_in l.rest ≡ negations_in l.text;
  rest : past_negations l.rest ≡ past_negations l.text;
  few : l.count + length l.rest ≤ length l.text;
}

abbrev pub decreases-signs : goal.decreases-signs
decreases-signs l = length l.rest
