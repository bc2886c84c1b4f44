use Rattle.std.proofs.Common.{◌≡◌, ◌≤◌, ◌++◌, length, drop, map}
use Rattle.std.specs.Int.Digits.{digits_of}
use Rattle.wc_objects.specs.Hex.{glyph}
use Rattle.wc_objects.proofs.hex.write_digits.Given as goal

-- the digits of what is left are in front of those that were written
abbrev pub invariant-loop-left : goal.invariant-loop-left
invariant-loop-left l =
    (length l.digits ≡ 16) × (l.at ≤ 16) × (length (digits_of 16 l.left) ≤ l.at)
    × (map glyph (digits_of 16 l.left) ++ drop l.at l.digits ≡ map glyph (digits_of 16 l.n))

abbrev pub decreases-loop-left : goal.decreases-loop-left
decreases-loop-left l = l.left
