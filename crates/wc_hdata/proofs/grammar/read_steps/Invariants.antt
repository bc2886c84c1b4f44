use Rattle.std.proofs.Common.{◌≡◌}
use Rattle.std.specs.Option.{option_copied}
use Rattle.wc_hdata.specs.Answers.{steps_after}
use Rattle.wc_hdata.proofs.CutLemmas.{length_left}
use Rattle.wc_hdata.proofs.StepLemmas.{steps_front}
use Rattle.wc_hdata.proofs.grammar.read_steps.Given as goal

abbrev pub invariant-loop-rest : goal.invariant-loop-rest
invariant-loop-rest l = steps_front l.steps (steps_after l.here (option_copied l.rest)) ≡ steps_after l.fn.element (option_copied l.fn.text)

abbrev pub decreases-loop-rest : goal.decreases-loop-rest
decreases-loop-rest l = length_left (option_copied l.rest)
