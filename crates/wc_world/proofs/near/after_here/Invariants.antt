use Rattle.std.proofs.Common.{◌≡◌, ◌++◌, ℕ, List, drop}
use Rattle.wc_world.specs.Near.{numbers, after_seen}
use Rattle.wc_world.proofs.near.after_here.Given as goal

abbrev pub invariant-loop-other : goal.invariant-loop-other
invariant-loop-other l = (rest : List ℕ) → after_seen l.fn.seen l.h.0 (numbers l.group ++ rest) ≡ after_seen l.seen l.h.0 (numbers (drop l.other-index l.group) ++ rest)
