use Rattle.std.proofs.Common.{◌≡◌, ℕ, drop, option_map, if◌then◌else◌}
use Rattle.wc_lines.specs.Ring.{with_limit}
use Rattle.wc_world.specs.Flips.{lies_in}
use Rattle.wc_world.specs.Kept.{held_at}
use Rattle.wc_world.specs.Limits.{HasRoom}
use Rattle.wc_world.specs.Near.{numbers}
use Rattle.wc_world.proofs.limits.set_limits.Given as goal

abbrev pub invariant-loop-h : goal.invariant-loop-h
invariant-loop-h l = ((q : ℕ) → (if lies_in q (numbers (drop l.h-index l.buffers)) then option_map (with_limit l.limit) (held_at l.held q) else held_at l.held q) ≡ (if lies_in q (numbers l.buffers) then option_map (with_limit l.limit) (held_at l.fn.held q) else held_at l.fn.held q)) × ((q : ℕ) → HasRoom l.limit (held_at l.held q))
