use Rattle.std.proofs.Common.{◌≡◌, ◌++◌, filter}
use Rattle.wc_irc_texts.specs.Pieces.{pieces, pieces_left, length_left}
use Rattle.wc_irc.specs.Start.{may_be_tried}
use Rattle.wc_irc.proofs.start.nicks_of.Given as goal

abbrev pub invariant-loop-left : goal.invariant-loop-left
invariant-loop-left l = l.nicks ++ filter may_be_tried (pieces_left l.left) ≡ filter may_be_tried (pieces l.value)

abbrev pub decreases-loop-left : goal.decreases-loop-left
decreases-loop-left l = length_left l.left
