use Rattle.std.proofs.Common.{◌≡◌, ◌++◌, length}
use Rattle.wc_irc_texts.specs.Texts.{plain_after}
use Rattle.wc_irc_texts.proofs.formatting.plain.Given as goal

abbrev pub invariant-loop-rest : goal.invariant-loop-rest
invariant-loop-rest l = l.bare ++ plain_after 0 l.rest ≡ plain_after 0 l.text

abbrev pub decreases-loop-rest : goal.decreases-loop-rest
decreases-loop-rest l = length l.rest
