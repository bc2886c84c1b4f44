use Rattle.std.proofs.Common.{◌≡◌, length}
use Rattle.wc_text.specs.Splits.{past}
use Rattle.wc_triggers.proofs.replacements.past_blanks.Given as goal

abbrev pub invariant-loop-rest : goal.invariant-loop-rest
invariant-loop-rest l = past 32 l.rest ≡ past 32 l.text

abbrev pub decreases-loop-rest : goal.decreases-loop-rest
decreases-loop-rest l = length l.rest
