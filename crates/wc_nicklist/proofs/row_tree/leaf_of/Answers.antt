use Rattle.std.proofs.Common.{◌≡◌, ℕ, ◌+◌, ◌-◌, ◌/◌, ◌<◌, List, length, sym, subst, arith}
use Rattle.wc_nicklist.specs.declared.item.Row.{Row}
use Rattle.wc_nicklist.specs.Order.{key_at, address_of}
use Rattle.wc_nicklist.specs.Stored.{AllBefore}
use Rattle.wc_nicklist.proofs.Leaves.{leaf_at, is_leaf_at, ascending_leaf, leaves_before, place_of, stand_leaf, some_leaf, EndsAt}
use Rattle.wc_nicklist.proofs.row_tree.leaf_of.Goals as goal

pub ends_before-requires-clause-filled : goal.ends_before-requires-clause-filled
ends_before-requires-clause-filled c =
    let m = c.loop-low.low + (c.loop-low.high - c.loop-low.low) / 2 in
    let order = c.loop-low.invariant.order in
    let within = c.loop-low.invariant.within in
    let h : m < length c.args.leaves.now = omega arith in
    let s = leaf_at c.args.leaves.now m c.index-leaves-middle.result h c.index-leaves-middle.is in
    let f = (is_leaf_at c.args.leaves.now m c.index-leaves-middle.result c.requires.leaves s).filled in
    f

pub ends_before-requires-clause-stand : goal.ends_before-requires-clause-stand
ends_before-requires-clause-stand c =
    let m = c.loop-low.low + (c.loop-low.high - c.loop-low.low) / 2 in
    let order = c.loop-low.invariant.order in
    let within = c.loop-low.invariant.within in
    let h : m < length c.args.leaves.now = omega arith in
    stand_leaf c.args.store.now c.args.leaves.now m c.index-leaves-middle.result c.requires.stand (leaf_at c.args.leaves.now m c.index-leaves-middle.result h c.index-leaves-middle.is)

pub ends_before-requires-clause-order : goal.ends_before-requires-clause-order
ends_before-requires-clause-order c =
    let m = c.loop-low.low + (c.loop-low.high - c.loop-low.low) / 2 in
    let order = c.loop-low.invariant.order in
    let within = c.loop-low.invariant.within in
    let h : m < length c.args.leaves.now = omega arith in
    ascending_leaf c.args.store.now c.args.leaves.now m c.index-leaves-middle.result c.requires.order (leaf_at c.args.leaves.now m c.index-leaves-middle.result h c.index-leaves-middle.is)

pub loop-low-preserved-then-ends_before : goal.loop-low-preserved-then-ends_before
loop-low-preserved-then-ends_before c =
    let a = address_of c.args.address.now.path.now (key_at c.args.address.now.is_group c.args.address.now.name.now) in
    let m = c.loop-low.low + (c.loop-low.high - c.loop-low.low) / 2 in
    let order = c.loop-low.invariant.order in
    let within = c.loop-low.invariant.within in
    let h : m < length c.args.leaves.now = omega arith in
    let s = leaf_at c.args.leaves.now m c.index-leaves-middle.result h c.index-leaves-middle.is in
    let P : List Row → Type 0 = λ xs. AllBefore xs a in
    record {
      order = omega arith;
      within = within;
      left = leaves_before c.args.store.now c.args.leaves.now a m c.index-leaves-middle.result c.requires.leaves c.requires.order s (c.ends_before.ensures.all c.if-ends_before.true);
      right = c.loop-low.invariant.right;
    }

pub returns : goal.returns
returns c =
    let a = address_of c.args.address.now.path.now (key_at c.args.address.now.is_group c.args.address.now.name.now) in
    let order = c.loop-low.invariant.order in
    let within = c.loop-low.invariant.within in
    let same : c.loop-low.low ≡ c.loop-low.high = omega arith in
    let h : c.loop-low.low < length c.args.leaves.now = omega arith in
    let l = some_leaf c.args.leaves.now c.loop-low.low h in
    let E : ℕ → Type 0 = λ n. EndsAt c.args.store.now c.args.leaves.now a n in
    place_of c.args.store.now c.args.leaves.now a c.loop-low.low l.0 h l.1 c.loop-low.invariant.left (subst E (sym same) c.loop-low.invariant.right)
