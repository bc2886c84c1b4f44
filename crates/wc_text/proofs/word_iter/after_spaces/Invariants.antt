use Rattle.std.proofs.Common.{◌≡◌, length}
use Rattle.wc_text.specs.Words.{after_spaces}
use Rattle.wc_text.proofs.word_iter.after_spaces.Given as goal

-- the spaces that are passed change nothing of what comes after all of them
abbrev pub invariant-loop-rest : goal.invariant-loop-rest
invariant-loop-rest l = after_spaces l.rest ≡ after_spaces l.bytes

abbrev pub decreases-loop-rest : goal.decreases-loop-rest
decreases-loop-rest l = length l.rest
