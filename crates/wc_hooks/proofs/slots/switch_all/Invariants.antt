use Rattle.std.proofs.Common.{◌≡◌, ◌++◌, take, drop, map}
use Rattle.wc_hooks.specs.Slots.{with_slot_switch}
use Rattle.wc_hooks.proofs.slots.switch_all.Given as goal

-- the slots up to here are changed, and the others are as they were
abbrev pub invariant-loop-slot : goal.invariant-loop-slot
invariant-loop-slot l = l.slots ≡ map (with_slot_switch l.id l.on) (take l.slot-index l.initial.slots) ++ drop l.slot-index l.initial.slots
