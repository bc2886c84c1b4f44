use Rattle.std.proofs.Common.{◌≡◌, length, true}
use Rattle.wc_text.specs.Mask.{after_front}
use Rattle.wc_triggers.proofs.trigger.begins_folded.Given as goal

abbrev pub invariant-loop-c : goal.invariant-loop-c
invariant-loop-c l = after_front true l.part l.text ≡ after_front true l.fn.part l.fn.text

abbrev pub decreases-loop-c : goal.decreases-loop-c
decreases-loop-c l = length l.part
