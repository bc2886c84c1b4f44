use Rattle.std.proofs.Common.{◌≡◌, ◌++◌, take, drop, map}
use Rattle.wc_hooks.specs.Slots.{moved_place}
use Rattle.wc_hooks.proofs.cursor.move_each.Given as goal

-- the cursors up to here are moved, and the others are as they were
abbrev pub invariant-loop-cursor : goal.invariant-loop-cursor
invariant-loop-cursor l = l.cursors ≡ map (moved_place l.at) (take l.cursor-index l.initial.cursors) ++ drop l.cursor-index l.initial.cursors
