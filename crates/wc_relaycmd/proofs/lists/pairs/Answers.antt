use Rattle.wc_relaycmd.proofs.ListLemmas.{pairs_end, pairs_more}
use Rattle.wc_relaycmd.proofs.lists.pairs.Goals as goal

pub returns-in_default : goal.returns-in_default
returns-in_default c =
    pairs_end c.loop-pairs.pairs _ _ _ _ _ c.loop-pairs.rest.now c.loop-pairs.invariant (rw c.in_default.is at c.in_ok-item.ensures.item)
    c.as_slice.ensures c.in_ok-pair.ensures c.in_ok-push_pair.ensures

pub loop-pairs-preserved : goal.loop-pairs-preserved
loop-pairs-preserved c =
    pairs_more c.loop-pairs.pairs _ _ _ _ _ c.loop-pairs.rest.now _ c.loop-pairs.invariant (rw c.in-Some.is at c.in_ok-item.ensures.item)
    c.as_slice.ensures c.in_ok-pair.ensures c.in_ok-push_pair.ensures
