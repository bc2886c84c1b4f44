use Rattle.std.proofs.Common.{◌≡◌, length}
use Rattle.wc_text.specs.Splits.{onward}
use Rattle.wc_triggers.proofs.replacements.onward.Given as goal

abbrev pub invariant-loop-rest : goal.invariant-loop-rest
invariant-loop-rest l = onward l.mark l.rest ≡ onward l.mark l.text

abbrev pub decreases-loop-rest : goal.decreases-loop-rest
decreases-loop-rest l = length l.rest
