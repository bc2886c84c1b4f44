use Rattle.std.proofs.Common.{◌≡◌, ◌++◌, drop}
use Rattle.wc_irc.specs.LongTexts.{sent_parts}
use Rattle.wc_irc.proofs.long_texts.put_parts.Given as goal

abbrev pub invariant-loop-text : goal.invariant-loop-text
invariant-loop-text l = l.acts ++ sent_parts l.command l.target l.does (drop l.text-index l.texts) ≡ l.fn.acts ++ sent_parts l.command l.target l.does l.texts
