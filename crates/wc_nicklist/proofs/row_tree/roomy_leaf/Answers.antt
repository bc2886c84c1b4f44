use Rattle.std.proofs.Common.{◌≡◌, refl, ap, ◌∙◌, arith}
use Rattle.std.specs.Prelude.{vec_len}
use Rattle.wc_nicklist.specs.Order.{key_at, address_of}
use Rattle.wc_nicklist.specs.Tree.{IsLeafPlace}
use Rattle.wc_nicklist.proofs.Leaves.{is_leaf_at}
use Rattle.wc_nicklist.proofs.TreeLaws.{moved_leaf_place}
use Rattle.wc_nicklist.proofs.row_tree.roomy_leaf.Goals as goal

pub returns-then-len-lt-LEAF_ROWS-clause-place : goal.returns-then-len-lt-LEAF_ROWS-clause-place
returns-then-len-lt-LEAF_ROWS-clause-place c =
    let p : IsLeafPlace c.args.store.now c.args.leaves.now.items (address_of c.args.address.now.path.now (key_at c.args.address.now.is_group c.args.address.now.name.now)) c.leaf_of-at.result = moved_leaf_place c.as_slice.ensures.value refl c.leaf_of-at.ensures in
    let same : c.index.result.now ≡ p.leaf = c.index.ensures ∙ p.split.value c.index.result.now in
    record { place = p; room = omega (arith, c.len.ensures, c.if-len-lt-LEAF_ROWS.true, ap vec_len same) }

pub split-requires-clause-full : goal.split-requires-clause-full
split-requires-clause-full c =
    let p : IsLeafPlace c.args.store.now c.args.leaves.now.items (address_of c.args.address.now.path.now (key_at c.args.address.now.is_group c.args.address.now.name.now)) c.leaf_of-at.result = moved_leaf_place c.as_slice.ensures.value refl c.leaf_of-at.ensures in
    let f = (is_leaf_at c.args.leaves.now.items c.leaf_of-at.result p.leaf c.requires.leaves p.split).fits in
    let same : c.index.result.now ≡ p.leaf = c.index.ensures ∙ p.split.value c.index.result.now in
    record { leaf = p.leaf; split = p.split; full = omega (arith, f, c.len.ensures, c.if-len-lt-LEAF_ROWS.false, ap vec_len same) }
