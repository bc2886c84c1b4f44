use Rattle.std.proofs.Common.{◌≡◌, None}
use Rattle.wc_text.specs.Words.{words_of, words_left}
use Rattle.wc_irc_words.specs.Typed.{tls_words}
use Rattle.wc_irc_words.proofs.typed_words.tls_in.Given as goal

abbrev pub invariant-loop-word : goal.invariant-loop-word
invariant-loop-word l = tls_words l.tls (words_left l.word-iterator) ≡ tls_words None (words_of l.text)
