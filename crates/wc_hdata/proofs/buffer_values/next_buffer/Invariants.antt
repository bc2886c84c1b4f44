use Rattle.std.proofs.Common.{◌≡◌, length}
use Rattle.wc_model.specs.Order.{after_in}
use Rattle.wc_world.specs.Near.{numbers}
use Rattle.wc_hdata.proofs.buffer_values.next_buffer.Given as goal

abbrev pub invariant-loop-first : goal.invariant-loop-first
invariant-loop-first l = after_in l.buffer.0 (numbers l.all) ≡ after_in l.buffer.0 (numbers l.left)

abbrev pub decreases-loop-first : goal.decreases-loop-first
decreases-loop-first l = length l.left
