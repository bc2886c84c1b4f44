use Rattle.std.proofs.Common.{◌≤◌, ◌+◌, ◌-◌, length, take}
use Rattle.wc_nicklist.specs.Order.{key_at, address_of}
use Rattle.wc_nicklist.specs.Stored.{AllBefore}
use Rattle.wc_nicklist.specs.Tree.{rows_in}
use Rattle.wc_nicklist.proofs.Leaves.{EndsAt}
use Rattle.wc_nicklist.proofs.row_tree.leaf_of.Given as goal

-- the rows of the leaves below `low` are before the address, and those of the leaf `high` do not all, if it is not the last
abbrev pub invariant-loop-low : goal.invariant-loop-low
invariant-loop-low l =
    let a = address_of l.address.path.now (key_at l.address.is_group l.address.name.now) in
    record {
      order : l.low ≤ l.high;
      within : l.high + 1 ≤ length l.leaves;
      left : AllBefore (rows_in l.store (take l.low l.leaves)) a;
      right : EndsAt l.store l.leaves a l.high;
    }

abbrev pub decreases-loop-low : goal.decreases-loop-low
decreases-loop-low l = l.high - l.low
