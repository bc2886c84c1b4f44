use Rattle.std.proofs.Common.{◌≡◌, length}
use Rattle.wc_text.specs.Splits.{text_after}
use Rattle.wc_text.proofs.split.text_after.Given as goal

abbrev pub invariant-loop-rest : goal.invariant-loop-rest
invariant-loop-rest l = text_after l.byte l.rest ≡ text_after l.byte l.text

abbrev pub decreases-loop-rest : goal.decreases-loop-rest
decreases-loop-rest l = length l.rest
