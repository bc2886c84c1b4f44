use Rattle.std.proofs.Common.{◌≡◌}
use Rattle.wc_eval.specs.Values.{copies_of}
use Rattle.wc_eval.proofs.values.copies_of.Given as goal

abbrev pub invariant-loop-turn : goal.invariant-loop-turn
invariant-loop-turn l = l.value ≡ copies_of l._turn l.text
