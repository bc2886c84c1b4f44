use Rattle.std.proofs.Common.{◌≡◌, ◌++◌}
use Rattle.wc_model.specs.Order.{order}
use Rattle.wc_world.specs.Near.{numbers, all_numbers}
use Rattle.wc_world.proofs.all_lines.in_order.Given as goal

abbrev pub invariant-loop-group : goal.invariant-loop-group
invariant-loop-group l = numbers l.all ++ all_numbers l.group-iterator ≡ order l.buffers
