use Rattle.std.proofs.Common.{◌≡◌}
use Rattle.wc_buffers.specs.Kept.{handles}
use Rattle.wc_hdata.specs.Starts.{mixed_among}
use Rattle.wc_hdata.proofs.starts.mixed_at.Given as goal

abbrev pub invariant-loop-group : goal.invariant-loop-group
invariant-loop-group l =
    (goal.iterator-loop-group).can_next l.group-iterator ×
    (goal.iterator-loop-group).is_finite l.group-iterator ×
    (mixed_among l.buffers l.pointer (handles l.buffers) ≡ mixed_among l.buffers l.pointer l.group-iterator)
