use Rattle.std.proofs.Common.{◌≡◌, length}
use Rattle.wc_complete.specs.BaseWord.{after_chars}
use Rattle.wc_complete.proofs.base_word.after_chars.Given as goal

-- the characters that are passed are no longer to be passed
abbrev pub invariant-loop-rest : goal.invariant-loop-rest
invariant-loop-rest l = after_chars l.left l.rest ≡ after_chars l.count l.text

abbrev pub decreases-loop-rest : goal.decreases-loop-rest
decreases-loop-rest l = length l.rest
