use Rattle.std.proofs.Common.{◌≡◌, ◌+◌, vec_capacity}
use Rattle.wc_hdata.specs.Depth.{IsCount, further_left, turns_left}
use Rattle.wc_hdata.proofs.visits.are_within.Given as goal

abbrev pub invariant-loop-top : goal.invariant-loop-top
invariant-loop-top l = record {
  count : IsCount l.lists l.steps l.open.items (vec_capacity l.open);
  left : l.left + further_left l.lists.world l.steps 0 l.fn.open.items ≡ l.most + further_left l.lists.world l.steps 0 l.open.items;
}

abbrev pub decreases-loop-top : goal.decreases-loop-top
decreases-loop-top l = turns_left l.lists.world l.steps 0 l.open.items
