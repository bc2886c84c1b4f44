use Rattle.std.proofs.Common.{◌≡◌, true, length}
use Rattle.wc_text.specs.Mask.{after_front}
use Rattle.wc_irc_texts.proofs.speech.after_front.Given as goal

-- the bytes that are passed change nothing of what comes after the front
abbrev pub invariant-loop-a : goal.invariant-loop-a
invariant-loop-a l = after_front true l.front l.text ≡ after_front true l.fn.front l.fn.text

abbrev pub decreases-loop-a : goal.decreases-loop-a
decreases-loop-a l = length l.front
