use Rattle.std.proofs.Common.{◌≡◌, ◌++◌}
use Rattle.wc_core.specs.Fitted.{flips_among, flips_everywhere}
use Rattle.wc_world.specs.Near.{all_numbers}
use Rattle.wc_core.proofs.core_state.Core.flips_everywhere.Given as goal

abbrev pub invariant-loop-group : goal.invariant-loop-group
invariant-loop-group l = l.flips ++ flips_among l.plan l.self.world (all_numbers l.group-iterator) ≡ flips_everywhere l.plan l.self.world
