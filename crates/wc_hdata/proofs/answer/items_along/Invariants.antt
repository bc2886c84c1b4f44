use Rattle.std.proofs.Common.{◌≡◌, ◌++◌, ◌+◌, length}
use Rattle.std.specs.List.{flat_map}
use Rattle.wc_hdata.specs.Hdata.{bytes_of, most_bytes}
use Rattle.wc_hdata.specs.Values.{items_of}
use Rattle.wc_hdata.proofs.answer.items_along.Given as goal

abbrev pub invariant-loop-place : goal.invariant-loop-place
invariant-loop-place l = record {
  lists : l.walker.lists ≡ l.lists;
  items : l.items ++ items_of l.lists.world l.keys l.walker.left ≡ items_of l.lists.world l.keys l.fn.walker.left;
  left : length (flat_map (bytes_of l.lists.world l.keys) l.fn.walker.left) + l.left ≡ most_bytes + length (flat_map (bytes_of l.lists.world l.keys) l.walker.left);
}

abbrev pub decreases-loop-place : goal.decreases-loop-place
decreases-loop-place l = length l.walker.left
