use Rattle.std.proofs.Common.{◌≡◌}
use Rattle.wc_model.specs.Order.{before_in, prev_of}
use Rattle.wc_world.specs.Near.{all_numbers}
use Rattle.wc_world.proofs.near.prev_of.Given as goal

abbrev pub invariant-loop-group : goal.invariant-loop-group
invariant-loop-group l = prev_of l.h.0 l.buffers ≡ before_in l.last.0 l.h.0 (all_numbers l.group-iterator)
