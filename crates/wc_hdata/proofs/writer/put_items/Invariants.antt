use Rattle.std.proofs.Common.{◌≡◌, ◌+◌, ◌++◌, ◌≤◌, length}
use Rattle.wc_hdata.specs.WalkBytes.{nodes_bytes}
use Rattle.wc_hdata.proofs.writer.put_items.Given as goal

-- the bytes so far, and those of the items that are still to come
abbrev pub invariant-loop-place : goal.invariant-loop-place
invariant-loop-place l = record {
  same : l.walker.lists ≡ l.lists;
  bytes : l.out.items ++ nodes_bytes l.lists.world l.keys l.walker.left ≡ l.fn.out.items ++ nodes_bytes l.lists.world l.keys l.fn.walker.left;
  spare : l.out.spare + length (nodes_bytes l.lists.world l.keys l.fn.walker.left) ≡ l.fn.out.spare + length (nodes_bytes l.lists.world l.keys l.walker.left);
  fewer : length (nodes_bytes l.lists.world l.keys l.walker.left) ≤ length (nodes_bytes l.lists.world l.keys l.fn.walker.left);
}

abbrev pub decreases-loop-place : goal.decreases-loop-place
decreases-loop-place l = length l.walker.left
