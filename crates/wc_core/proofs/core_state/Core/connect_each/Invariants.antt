use Rattle.std.proofs.Common.{drop}
use Rattle.wc_core.specs.CoreView.{CoreView}
use Rattle.wc_core.specs.ServerTyped.{connect_each_step}
use Rattle.wc_core.proofs.core_state.Core.connect_each.Given as goal
use Rattle.wc_core.specs.Contained.{Runs}

-- what connects those that are left has connected all of them
abbrev pub invariant-loop-name : goal.invariant-loop-name
invariant-loop-name l = (final : CoreView) → Runs l.self final (λ state. connect_each_step state (drop l.name-index l.names)) → Runs l.fn.self final (λ state. connect_each_step state l.names)
