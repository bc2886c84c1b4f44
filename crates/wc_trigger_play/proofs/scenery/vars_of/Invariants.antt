use Rattle.std.proofs.Common.{All}
use Rattle.wc_eval.specs.Names.{HasText}
use Rattle.wc_trigger_play.proofs.scenery.vars_of.Given as goal

abbrev pub invariant-loop-other : goal.invariant-loop-other
invariant-loop-other l = All HasText l.vars
