use Rattle.std.proofs.Common.{◌≡◌, length}
use Rattle.wc_complete.specs.Candidates.{begins_as}
use Rattle.wc_complete.proofs.found.begins_as.Given as goal

-- the bytes that are passed are alike
abbrev pub invariant-loop-left : goal.invariant-loop-left
invariant-loop-left l = begins_as l.left l.rest ≡ begins_as l.base l.text

abbrev pub decreases-loop-left : goal.decreases-loop-left
decreases-loop-left l = length l.left
