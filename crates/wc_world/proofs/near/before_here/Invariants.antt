use Rattle.std.proofs.Common.{◌≡◌, ◌++◌, ℕ, List, drop}
use Rattle.wc_model.specs.Order.{before_in}
use Rattle.wc_world.specs.Near.{numbers}
use Rattle.wc_world.proofs.near.before_here.Given as goal

abbrev pub invariant-loop-other : goal.invariant-loop-other
invariant-loop-other l = (rest : List ℕ) → before_in l.fn.last.0 l.h.0 (numbers l.group ++ rest) ≡ before_in l.last.0 l.h.0 (numbers (drop l.other-index l.group) ++ rest)
