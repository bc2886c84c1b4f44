use Rattle.std.proofs.Common.{◌≡◌, ◌++◌, map}
use Rattle.wc_events.specs.BufferObjects.{pair_of}
use Rattle.wc_events.proofs.values.pairs.Given as goal

-- the pairs so far, and those of the variables that are left
abbrev pub invariant-loop-name : goal.invariant-loop-name
invariant-loop-name l = l.pairs ++ map pair_of l.name-iterator ≡ map pair_of l.vars
