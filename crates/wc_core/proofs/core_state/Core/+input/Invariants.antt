use Rattle.std.proofs.Common.{◌+◌, ◌*◌}
use Rattle.wc_core.proofs.core_state.Core.+input.Given as goal

-- the `/eval`s that may still be inside one another, then the step in one of them
abbrev pub decreases-evaluate : goal.decreases-evaluate
decreases-evaluate l = l.levels * 4 + 1

abbrev pub decreases-input_at : goal.decreases-input_at
decreases-input_at l = l.levels * 4 + 2

abbrev pub decreases-run_value : goal.decreases-run_value
decreases-run_value l = l.levels * 4 + 3
