use Rattle.std.proofs.Common.{◌≡◌, length}
use Rattle.wc_triggers.specs.Triggers.{contains_folded}
use Rattle.wc_triggers.proofs.trigger.contains_folded.Given as goal

abbrev pub invariant-loop-rest : goal.invariant-loop-rest
invariant-loop-rest l = contains_folded l.part l.rest ≡ contains_folded l.part l.text

abbrev pub decreases-loop-rest : goal.decreases-loop-rest
decreases-loop-rest l = length l.rest
