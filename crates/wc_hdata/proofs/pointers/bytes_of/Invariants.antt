use Rattle.std.proofs.Common.{◌≡◌, ◌+◌, length}
use Rattle.wc_objects.specs.Hex.{hex}
use Rattle.wc_hdata.proofs.pointers.bytes_of.Given as goal

-- the digits that were counted, and those of what is left
abbrev pub invariant-loop-left : goal.invariant-loop-left
invariant-loop-left l = l.bytes + length (hex l.left) ≡ length (hex l.pointer) + 2

abbrev pub decreases-loop-left : goal.decreases-loop-left
decreases-loop-left l = l.left
