use Rattle.std.proofs.Common.{◌≡◌}
use Rattle.wc_model.specs.Order.{next_of}
use Rattle.wc_world.specs.Near.{all_numbers, after_seen}
use Rattle.wc_world.proofs.near.next_of.Given as goal

abbrev pub invariant-loop-group : goal.invariant-loop-group
invariant-loop-group l = next_of l.h.0 l.buffers ≡ after_seen l.seen l.h.0 (all_numbers l.group-iterator)
