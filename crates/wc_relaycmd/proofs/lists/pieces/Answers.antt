use Rattle.std.proofs.Common.{◌∙◌}
use Rattle.wc_relaycmd.proofs.ListLemmas.{pieces_end, pieces_more}
use Rattle.wc_relaycmd.proofs.lists.pieces.Goals as goal

pub returns-in_default : goal.returns-in_default
returns-in_default c =
    pieces_end c.loop-pieces.pieces _ _ _ c.loop-pieces.rest.now c.loop-pieces.invariant (c.in_ok-from_slice.ensures ∙ c.split_once.ensures.front)
    (rw c.in_default.is at c.split_once.ensures.back) c.in_ok-push.ensures.ok

pub loop-pieces-preserved : goal.loop-pieces-preserved
loop-pieces-preserved c =
    pieces_more c.loop-pieces.pieces _ _ _ c.loop-pieces.rest.now _ c.loop-pieces.invariant (c.in_ok-from_slice.ensures ∙ c.split_once.ensures.front)
    (rw c.in-Some.is at c.split_once.ensures.back) c.in_ok-push.ensures.ok
