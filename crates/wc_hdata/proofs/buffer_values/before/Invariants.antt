use Rattle.std.proofs.Common.{◌≡◌, drop}
use Rattle.wc_model.specs.Order.{before_in}
use Rattle.wc_world.specs.Near.{numbers}
use Rattle.wc_hdata.proofs.buffer_values.before.Given as goal

abbrev pub invariant-loop-other : goal.invariant-loop-other
invariant-loop-other l = before_in 0 l.buffer.0 (numbers l.all) ≡ before_in l.before l.buffer.0 (numbers (drop l.other-index l.all))
