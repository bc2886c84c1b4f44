use Rattle.std.proofs.Common.{◌≡◌, ◌≤◌, length}
use Rattle.wc_eval.specs.Fronts.{past_digits}
use Rattle.wc_eval.proofs.sums.past_digits.Given as goal

abbrev pub invariant-digits : goal.invariant-digits
invariant-digits l = (past_digits l.rest ≡ past_digits l.text) × (length l.rest ≤ length l.text)

abbrev pub decreases-digits : goal.decreases-digits
decreases-digits l = length l.rest
