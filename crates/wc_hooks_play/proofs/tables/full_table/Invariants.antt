use Rattle.std.proofs.Common.{◌≤◌}
use Rattle.wc_hooks_play.proofs.tables.full_table.Given as goal

abbrev pub invariant-loop-trigger : goal.invariant-loop-trigger
invariant-loop-trigger l = l.table.hooked ≤ l.trigger
