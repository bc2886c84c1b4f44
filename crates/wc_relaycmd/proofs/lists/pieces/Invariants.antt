use Rattle.std.proofs.Common.{◌≡◌, ◌++◌, length}
use Rattle.wc_relaycmd.specs.Lists.{pieces_of}
use Rattle.wc_relaycmd.proofs.lists.pieces.Given as goal

abbrev pub invariant-loop-pieces : goal.invariant-loop-pieces
invariant-loop-pieces l = l.pieces ++ pieces_of l.rest ≡ pieces_of l.text

abbrev pub decreases-loop-pieces : goal.decreases-loop-pieces
decreases-loop-pieces l = length l.rest
