use Rattle.std.proofs.Common.{◌≡◌, ◌++◌, length}
use Rattle.wc_triggers.specs.Reactions.{with_value}
use Rattle.wc_triggers.proofs.run.with_value.Given as goal

abbrev pub invariant-vars : goal.invariant-vars
invariant-vars l = l.made ++ with_value l.fn.name l.fn.value l.rest ≡ with_value l.fn.name l.fn.value l.fn.vars

abbrev pub decreases-vars : goal.decreases-vars
decreases-vars l = length l.rest
