use Rattle.std.proofs.Common.{arith}
use Rattle.wc_relaycmd.proofs.ListLemmas.{items_after-nil, items_of-filled, item_more}
use Rattle.wc_relaycmd.proofs.lists.take_item.Goals as goal

pub loop-text_after-init : goal.loop-text_after-init
loop-text_after-init c = record { items = items_after-nil _ _ c.new-item.ensures (items_of-filled c.args.list.now); shorter = omega arith }

pub loop-text_after-preserved : goal.loop-text_after-preserved
loop-text_after-preserved c = record {
  items = item_more c.loop-text_after.item _ c.loop-text_after.rest.now c.in-Goes.text_after.now c.args.list.now c.in-Goes.byte c.loop-text_after.invariant.items c.in-Goes.ensures.0 c.in_ok-append-in-Goes.ensures.ok;
  shorter = omega (arith, c.in-Goes.ensures.1);
}
