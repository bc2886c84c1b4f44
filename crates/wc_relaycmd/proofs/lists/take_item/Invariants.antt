use Rattle.std.proofs.Common.{◌≡◌, ◌≤◌, length}
use Rattle.wc_relaycmd.specs.Lists.{items_of}
use Rattle.wc_relaycmd.proofs.ListLemmas.{items_after}
use Rattle.wc_relaycmd.proofs.lists.take_item.Given as goal

abbrev pub invariant-loop-text_after : goal.invariant-loop-text_after
invariant-loop-text_after l = record {
  items : items_after l.item (items_of l.rest) ≡ items_of l.list;
  shorter : length l.rest ≤ length l.list;
}

abbrev pub decreases-loop-text_after : goal.decreases-loop-text_after
decreases-loop-text_after l = length l.rest
