use Rattle.std.proofs.Common.{◌≡◌, ◌+◌, ◌-◌}
use Rattle.wc_hooks.proofs.Walks.{OnWay}
use Rattle.wc_hooks.proofs.slots.Slots.next.Given as goal

abbrev pub invariant-loop-cursor : goal.invariant-loop-cursor
invariant-loop-cursor g l = OnWay l.self l.marks l.place l.fn.cursor l.cursor × (l.steps + l.fn.cursor.looked ≡ l.fn.steps + l.cursor.looked)

abbrev pub decreases-loop-cursor : goal.decreases-loop-cursor
decreases-loop-cursor g l = l.cursor.count - l.cursor.seen
