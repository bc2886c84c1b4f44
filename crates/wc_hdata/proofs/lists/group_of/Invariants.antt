use Rattle.std.proofs.Common.{◌≡◌}
use Rattle.wc_hdata.specs.Lists.{group_of, group_with}
use Rattle.wc_hdata.proofs.lists.group_of.Given as goal

abbrev pub invariant-loop-group : goal.invariant-loop-group
invariant-loop-group l =
    (goal.iterator-loop-group).can_next l.group-iterator ×
    (goal.iterator-loop-group).is_finite l.group-iterator ×
    (group_of l.buffers l.buffer.0 ≡ group_with l.buffer.0 l.group-iterator)
