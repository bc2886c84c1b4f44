use Rattle.std.proofs.Common.{◌≡◌, ◌+◌, length}
use Rattle.wc_hdata.specs.WalkBytes.{pointers_of_all, values_of_all}
use Rattle.wc_hdata.specs.WalkForms.{AreNodesKept}
use Rattle.wc_hdata.proofs.writer.room_after_items.Given as goal

-- what is left of the room, and the items that are still to come
abbrev pub invariant-loop-place : goal.invariant-loop-place
invariant-loop-place l = record {
  same : l.walker.lists ≡ l.lists;
  room : l.left.room + length (pointers_of_all l.fn.walker.left) ≡ l.fn.whole.room + length (pointers_of_all l.walker.left);
  values_left : l.left.values + length (values_of_all l.lists.world l.keys l.fn.walker.left) ≡ l.fn.whole.values + length (values_of_all l.lists.world l.keys l.walker.left);
  counted : l.left.items + length l.walker.left ≡ l.fn.whole.items + length l.fn.walker.left;
  kept : AreNodesKept l.lists l.walker.left → AreNodesKept l.lists l.fn.walker.left;
}

abbrev pub decreases-loop-place : goal.decreases-loop-place
decreases-loop-place l = length l.walker.left
