use Rattle.std.proofs.Common.{◌≡◌, ◌++◌, drop}
use Rattle.wc_irc_texts.specs.Texts.{spaced}
use Rattle.wc_irc_texts.proofs.TextLemmas.{spaced_after}
use Rattle.wc_irc_texts.proofs.line_text.spaced.Given as goal

abbrev pub invariant-loop-other : goal.invariant-loop-other
invariant-loop-other l = l.text ++ spaced_after (drop l.other-index l.others) ≡ spaced l.texts
