use Rattle.wc_hooks.proofs.StepLaws.{steps_within}
use Rattle.wc_hooks.proofs.laws.steps_hold.Goals as goal

pub returns : goal.returns
returns c = steps_within
