use Rattle.std.proofs.Common.{◌≡◌}
use Rattle.wc_irc_texts.specs.Capabilities.{is_among}
use Rattle.wc_irc_texts.specs.Pieces.{pieces, pieces_left, length_left}
use Rattle.wc_irc_texts.proofs.capabilities.is_piece.Given as goal

abbrev pub invariant-loop-left : goal.invariant-loop-left
invariant-loop-left l = is_among l.name (pieces_left l.left) ≡ is_among l.name (pieces l.text)

abbrev pub decreases-loop-left : goal.decreases-loop-left
decreases-loop-left l = length_left l.left
