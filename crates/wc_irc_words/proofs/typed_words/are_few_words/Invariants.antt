use Rattle.std.proofs.Common.{◌≡◌, ◌≤◌}
use Rattle.wc_text.specs.Words.{words_of, words_left}
use Rattle.wc_irc_words.specs.Typed.{are_words_to}
use Rattle.wc_irc_words.specs.TypedSeen.{words_from}
use Rattle.wc_irc_words.proofs.typed_words.are_few_words.Given as goal

-- what is left says the same of all words
abbrev pub invariant-loop-word : goal.invariant-loop-word
invariant-loop-word l = record {
  few : l.count ≤ l.most;
  same : words_from l.most l.count l.ends (words_left l.word-iterator) ≡ are_words_to l.most (words_of l.text);
}
