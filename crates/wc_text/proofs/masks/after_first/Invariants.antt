use Rattle.std.proofs.Common.{◌≡◌, length}
use Rattle.wc_text.specs.Mask.{after_first}
use Rattle.wc_text.proofs.masks.after_first.Given as goal

-- the places that are passed are none of the part
abbrev pub invariant-loop-following : goal.invariant-loop-following
invariant-loop-following l = after_first l.fold l.part l.text ≡ after_first l.fold l.part l.fn.text

abbrev pub decreases-loop-following : goal.decreases-loop-following
decreases-loop-following l = length l.text
