use Rattle.std.proofs.Common.{◌≡◌, length}
use Rattle.wc_text.specs.Splits.{text_after}
use Rattle.wc_triggers.proofs.replacements.text_after.Given as goal

abbrev pub invariant-loop-rest : goal.invariant-loop-rest
invariant-loop-rest l = text_after l.mark l.rest ≡ text_after l.mark l.text

abbrev pub decreases-loop-rest : goal.decreases-loop-rest
decreases-loop-rest l = length l.rest
