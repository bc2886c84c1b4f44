use Rattle.std.proofs.Common.{◌≡◌, ◌++◌, take, drop, map}
use Rattle.wc_hooks.specs.Slots.{with_opening}
use Rattle.wc_hooks.proofs.slots.open_range.Given as goal

-- the slots up to here saw the opening, and the others are as they were
abbrev pub invariant-loop-at : goal.invariant-loop-at
invariant-loop-at l = l.slots ≡ map (with_opening l.place l.kind l.key) (take l.at l.fn.slots) ++ drop l.at l.fn.slots
