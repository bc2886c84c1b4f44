use Rattle.std.proofs.Common.{◌≡◌}
use Rattle.wc_text.specs.Words.{words_of, words_left}
use Rattle.wc_irc_texts.specs.Capabilities.{is_among}
use Rattle.wc_irc_texts.proofs.capabilities.is_word.Given as goal

abbrev pub invariant-loop-word : goal.invariant-loop-word
invariant-loop-word l = is_among l.name (words_left l.word-iterator) ≡ is_among l.name (words_of l.text)
