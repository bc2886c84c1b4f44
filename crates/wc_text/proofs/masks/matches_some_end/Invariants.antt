use Rattle.std.proofs.Common.{◌≡◌, length}
use Rattle.wc_text.specs.Mask.{ends_with}
use Rattle.wc_text.proofs.masks.matches_some_end.Given as goal

-- the parts that are found change nothing of the answer
abbrev pub invariant-loop-part : goal.invariant-loop-part
invariant-loop-part l = ends_with l.fold l.mask l.text ≡ ends_with l.fold l.fn.mask l.fn.text

abbrev pub decreases-loop-part : goal.decreases-loop-part
decreases-loop-part l = length l.mask
