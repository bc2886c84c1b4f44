-- What contracts see of a walk.
use Rattle.std.specs.Prelude.{length, vec_capacity}
use Rattle.wc_hdata.specs.declared.walker.Walker.TheInside.{Inside}
use Rattle.wc_hdata.specs.Depth.{IsWalk, Walking, nodes_left}

abbrev pub walking_of : Inside → Walking
walking_of walk = record {
  lists = walk.lists.now;
  pointers = walk.pointers;
  left = nodes_left walk.lists.now.world walk.steps.now walk.pointers 0 walk.open.items;
}

abbrev pub IsWalker : Inside → Type 0
IsWalker walk = IsWalk walk.lists.now walk.steps.now (length walk.pointers) walk.open.items
    (vec_capacity walk.open)
