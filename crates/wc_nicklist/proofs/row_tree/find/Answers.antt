use Rattle.std.proofs.Common.{◌≡◌, sym, ◌∙◌, subst}
use Rattle.wc_nicklist.specs.Order.{key_at, address_of}
use Rattle.wc_nicklist.specs.Rows.{Ascending}
use Rattle.wc_nicklist.specs.Stored.{AllEntriesLead, IsRowPlace}
use Rattle.wc_nicklist.specs.Tree.{Leaf, leaf_rows}
use Rattle.wc_nicklist.proofs.Leaves.{ascending_leaf, stand_leaf}
use Rattle.wc_nicklist.proofs.Places.{some_and}
use Rattle.wc_nicklist.proofs.TreeLaws.{lies_in, some_leaves}
use Rattle.wc_nicklist.proofs.row_tree.find.Goals as goal

pub leaf_of-at-requires-clause-some : goal.leaf_of-at-requires-clause-some
leaf_of-at-requires-clause-some c = some_leaves c.args.store.now _ (key_at c.args.address.now.is_group c.args.address.now.name.now) c.args.leaves.now c.requires.known

pub place-n-requires-clause-stand : goal.place-n-requires-clause-stand
place-n-requires-clause-stand c =
    let s = c.args.store.now in
    let p = c.leaf_of-at.ensures in
    let same : c.index-leaves-at.result ≡ p.leaf = c.index-leaves-at.is ∙ p.split.value c.index-leaves-at.result in
    let P : Leaf → Type 0 = λ l. AllEntriesLead s l.items in
    subst P (sym same) (stand_leaf s c.args.leaves.now c.leaf_of-at.result p.leaf c.requires.stand p.split)

pub place-n-requires-clause-order : goal.place-n-requires-clause-order
place-n-requires-clause-order c =
    let s = c.args.store.now in
    let p = c.leaf_of-at.ensures in
    let same : c.index-leaves-at.result ≡ p.leaf = c.index-leaves-at.is ∙ p.split.value c.index-leaves-at.result in
    let P : Leaf → Type 0 = λ l. Ascending (leaf_rows s l) in
    subst P (sym same) (ascending_leaf s c.args.leaves.now c.leaf_of-at.result p.leaf c.requires.held.ascending p.split)

pub returns : goal.returns
returns c =
    let s = c.args.store.now in
    let a = c.args.address.now in
    let k = key_at a.is_group a.name.now in
    let p = c.leaf_of-at.ensures in
    let same : c.index-leaves-at.result ≡ p.leaf = c.index-leaves-at.is ∙ p.split.value c.index-leaves-at.result in
    let P : Leaf → Type 0 = λ l. IsRowPlace (leaf_rows s l) (address_of a.path.now k) c.place-n.result in
    let o = some_and _ c.requires.known in
    lies_in s c.args.leaves.now a.path.now k c.leaf_of-at.result p c.requires.held c.place-n.result (subst P same c.place-n.ensures) o.0 o.1 o.2
