use Rattle.std.proofs.Common.{◌≡◌}
use Rattle.wc_text.specs.Splits.{past}
use Rattle.wc_triggers.specs.Words.{words_up_to}
use Rattle.wc_triggers.proofs.WordLemmas.{words_after}
use Rattle.wc_triggers.proofs.words.words_of.Given as goal

abbrev pub invariant-loop-rest : goal.invariant-loop-rest
invariant-loop-rest l = words_after l.words (words_up_to l.left l.rest) ≡ words_up_to 8 (past 32 l.text)

abbrev pub decreases-loop-rest : goal.decreases-loop-rest
decreases-loop-rest l = l.left
