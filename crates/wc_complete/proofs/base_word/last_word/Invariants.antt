use Rattle.std.proofs.Common.{◌≡◌, cond, length}
use Rattle.std.specs.List.{list_any}
use Rattle.wc_complete.specs.BaseWord.{is_blank, last_word}
use Rattle.wc_complete.proofs.base_word.last_word.Given as goal

-- the word so far is the last one where no blank is left
abbrev pub invariant-loop-rest : goal.invariant-loop-rest
invariant-loop-rest l = last_word l.text ≡ cond (list_any is_blank l.rest) (last_word l.rest) l.word

abbrev pub decreases-loop-rest : goal.decreases-loop-rest
decreases-loop-rest l = length l.rest
