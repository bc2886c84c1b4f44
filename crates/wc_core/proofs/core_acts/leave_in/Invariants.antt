use Rattle.std.proofs.Common.{◌≡◌, length}
use Rattle.wc_core.specs.ServerSteps.{leave_in}
use Rattle.wc_core.proofs.core_acts.leave_in.Given as goal

abbrev pub invariant-loop-rest : goal.invariant-loop-rest
invariant-loop-rest l = leave_in l.rest ≡ leave_in l.acts

abbrev pub decreases-loop-rest : goal.decreases-loop-rest
decreases-loop-rest l = length l.rest
