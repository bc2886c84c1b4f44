use Rattle.std.proofs.Common.{◌≡◌, ◌++◌}
use Rattle.std.specs.List.{flat_map}
use Rattle.wc_hdata.specs.Steps.{all_buffers}
use Rattle.wc_hdata.proofs.lists.all_buffers.Given as goal

abbrev pub invariant-loop-group : goal.invariant-loop-group
invariant-loop-group l =
    (goal.iterator-loop-group).can_next l.group-iterator ×
    (goal.iterator-loop-group).is_finite l.group-iterator ×
    (l.all.items ++ flat_map (λ group. group) l.group-iterator ≡ all_buffers l.buffers)
