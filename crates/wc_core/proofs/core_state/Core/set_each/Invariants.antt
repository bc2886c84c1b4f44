use Rattle.std.proofs.Common.{drop}
use Rattle.wc_core.specs.CoreView.{CoreView}
use Rattle.wc_core.specs.ServerTyped.{settings_step}
use Rattle.wc_core.proofs.core_state.Core.set_each.Given as goal
use Rattle.wc_core.specs.Contained.{Runs}

-- what sets those that are left has set all of them
abbrev pub invariant-loop-setting : goal.invariant-loop-setting
invariant-loop-setting l = (final : CoreView) → Runs l.self final (λ state. settings_step state (drop l.setting-index l.settings)) → Runs l.fn.self final (λ state. settings_step state l.settings)
