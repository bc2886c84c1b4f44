use Rattle.std.proofs.Common.{◌≡◌, ◌++◌, drop, map}
use Rattle.wc_session.specs.Hotlists.{int_of}
use Rattle.wc_session.proofs.hotlists.numbers.Given as goal

-- the numbers so far, and those that are left
abbrev pub invariant-loop-number : goal.invariant-loop-number
invariant-loop-number l = l.values ++ map int_of (drop l.number-index l.counts) ≡ map int_of l.counts
