use Rattle.std.proofs.Common.{◌≡◌, length}
use Rattle.wc_irc_texts.specs.TextsSeen.{from_format}
use Rattle.wc_irc_texts.proofs.formatting.from_format.Given as goal

abbrev pub invariant-loop-rest : goal.invariant-loop-rest
invariant-loop-rest l = from_format l.rest ≡ from_format l.text

abbrev pub decreases-loop-rest : goal.decreases-loop-rest
decreases-loop-rest l = length l.rest
