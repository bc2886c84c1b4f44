use Rattle.std.proofs.Common.{◌≡◌, ◌++◌}
use Rattle.wc_text.specs.Words.{words_of, words_left}
use Rattle.wc_irc.proofs.errand.put_words.Given as goal

abbrev pub invariant-loop-word : goal.invariant-loop-word
invariant-loop-word l = l.params ++ words_left l.word-iterator ≡ l.fn.params ++ words_of l.text
