use Rattle.std.proofs.Common.{◌≡◌, ◌++◌, drop, filter}
use Rattle.wc_text.specs.Words.{words_of}
use Rattle.wc_irc_texts.specs.Capabilities.{is_among, named_in}
use Rattle.wc_irc_texts.proofs.capabilities.named_in.Given as goal

abbrev pub invariant-loop-name : goal.invariant-loop-name
invariant-loop-name l = l.kept ++ filter (λ name. is_among name (words_of l.text)) (drop l.name-index l.names) ≡ named_in l.names l.text
