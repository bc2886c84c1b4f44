use Rattle.std.proofs.Common.{◌≡◌, ◌++◌, length}
use Rattle.wc_irc_texts.specs.Sasl.{response_pieces}
use Rattle.wc_irc_texts.proofs.sasl.response_pieces.Given as goal

abbrev pub invariant-loop-rest : goal.invariant-loop-rest
invariant-loop-rest l = l.pieces ++ response_pieces l.rest ≡ response_pieces l.text

abbrev pub decreases-loop-rest : goal.decreases-loop-rest
decreases-loop-rest l = length l.rest
