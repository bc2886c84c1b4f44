use Rattle.std.proofs.Common.{◌≡◌, ℕ, drop, option_map, if◌then◌else◌}
use Rattle.wc_lines.specs.Ring.{with_room}
use Rattle.wc_world.specs.Flips.{lies_in}
use Rattle.wc_world.specs.Kept.{held_at}
use Rattle.wc_world.specs.Limits.{AreRoomier}
use Rattle.wc_world.specs.Near.{numbers}
use Rattle.wc_world.proofs.limits.make_room.Given as goal

abbrev pub invariant-loop-h : goal.invariant-loop-h
invariant-loop-h l = ((q : ℕ) → (if lies_in q (numbers (drop l.h-index l.buffers)) then option_map (with_room l.limit) (held_at l.held q) else held_at l.held q) ≡ (if lies_in q (numbers l.buffers) then option_map (with_room l.limit) (held_at l.fn.held q) else held_at l.fn.held q)) × AreRoomier l.fn.held l.held
