use Rattle.std.proofs.Common.{◌≡◌, length, vec_capacity}
use Rattle.wc_hdata.specs.Depth.{IsWalk, nodes_left, turns_left}
use Rattle.wc_hdata.proofs.walker.Walker.next.Given as goal

abbrev pub invariant-loop-top : goal.invariant-loop-top
invariant-loop-top l = record {
  lists : l.self-inside.lists.now ≡ l.fn.self.lists;
  walk : IsWalk l.self-inside.lists.now l.self-inside.steps.now (length l.self-inside.pointers) l.self-inside.open.items (vec_capacity l.self-inside.open);
  left : nodes_left l.self-inside.lists.now.world l.self-inside.steps.now l.self-inside.pointers 0 l.self-inside.open.items ≡ l.fn.self.left;
}

abbrev pub decreases-loop-top : goal.decreases-loop-top
decreases-loop-top l = turns_left l.self-inside.lists.now.world l.self-inside.steps.now 0 l.self-inside.open.items
