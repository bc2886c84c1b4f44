use Rattle.std.proofs.Common.{◌≡◌, ◌++◌, drop, filter, not}
use Rattle.wc_text.specs.Words.{words_of}
use Rattle.wc_irc_texts.specs.Capabilities.{is_among, unnamed_in}
use Rattle.wc_irc_texts.proofs.capabilities.unnamed_in.Given as goal

abbrev pub invariant-loop-name : goal.invariant-loop-name
invariant-loop-name l = l.kept ++ filter (λ name. not (is_among name (words_of l.text))) (drop l.name-index l.names) ≡ unnamed_in l.names l.text
