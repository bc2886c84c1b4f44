use Rattle.std.proofs.Common.{◌≡◌}
use Rattle.std.specs.List.{list_any}
use Rattle.wc_text.specs.Words.{words_of, words_left}
use Rattle.wc_irc_texts.specs.Capabilities.{is_offer}
use Rattle.wc_irc_texts.proofs.capabilities.is_offered.Given as goal

abbrev pub invariant-loop-word : goal.invariant-loop-word
invariant-loop-word l = list_any (is_offer l.name) (words_left l.word-iterator) ≡ list_any (is_offer l.name) (words_of l.text)
