use Rattle.std.proofs.Common.{◌≡◌, ◌-◌}
use Rattle.wc_eval.specs.Answers.{negation_of}
use Rattle.wc_eval.proofs.sums.negation_of.Given as goal

abbrev pub invariant-loop-turn : goal.invariant-loop-turn
invariant-loop-turn l = negation_of (l.times - l._turn) l.negated ≡ negation_of l.times l.value
