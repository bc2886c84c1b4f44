use Rattle.std.proofs.Common.{◌≡◌, length}
use Rattle.wc_text.specs.Mask.{after_front}
use Rattle.wc_text.proofs.masks.after_front.Given as goal

-- the bytes that are passed change nothing of what comes after the part
abbrev pub invariant-loop-c : goal.invariant-loop-c
invariant-loop-c l = after_front l.fold l.part l.text ≡ after_front l.fold l.fn.part l.fn.text

abbrev pub decreases-loop-c : goal.decreases-loop-c
decreases-loop-c l = length l.part
