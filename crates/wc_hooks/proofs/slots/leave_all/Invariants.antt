use Rattle.std.proofs.Common.{◌≡◌, ◌++◌, take, drop, map}
use Rattle.wc_hooks.specs.Slots.{with_leave}
use Rattle.wc_hooks.proofs.slots.leave_all.Given as goal

-- the slots up to here are changed, and the others are as they were
abbrev pub invariant-loop-slot : goal.invariant-loop-slot
invariant-loop-slot l = l.slots ≡ map (with_leave l.id) (take l.slot-index l.initial.slots) ++ drop l.slot-index l.initial.slots
