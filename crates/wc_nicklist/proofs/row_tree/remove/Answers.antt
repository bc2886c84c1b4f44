use Rattle.std.proofs.Common.{◌≡◌, Some, refl, sym, ap, ◌∙◌, subst, arith}
use Rattle.std.specs.Prelude.{remove, slice_index_or, vec_len, vec_capacity}
use Rattle.wc_nicklist.specs.Order.{key_at}
use Rattle.wc_nicklist.specs.Stored.{entry_row}
use Rattle.wc_nicklist.specs.Tree.{entries_in, IsInTree, IsRemoved}
use Rattle.wc_nicklist.proofs.Leaves.{is_leaf_at}
use Rattle.wc_nicklist.proofs.TreeLaws.{tree_removed, tree_nearly, moved_stands_in}
use Rattle.wc_nicklist.proofs.row_tree.remove.Goals as goal

pub drop_empty-requires-clause-nearly : goal.drop_empty-requires-clause-nearly
drop_empty-requires-clause-nearly c =
    let leaves = c.args.leaves.now.items in
    let s : IsInTree c.args.store.now leaves c.find-at.result.0 c.find-at.result.1 (key_at c.args.address.now.is_group c.args.address.now.name.now) = moved_stands_in c.as_slice.ensures.value refl c.find-at.ensures in
    let same : c.index_mut.result.now ≡ s.leaf = c.index_mut.ensures.value ∙ s.outer.value c.index_mut.result.now in
    let old = is_leaf_at leaves c.find-at.result.0 s.leaf c.requires.leaves s.outer in
    let f = old.fits in
    let r = old.roomy in
    tree_nearly leaves c.find-at.result.0 s.leaf c.remove-entry.new.self c.requires.leaves s.outer (omega (arith, f, c.remove-entry.ensures.len, ap vec_len same)) (omega (arith, r, c.remove-entry.ensures.capacity, ap vec_capacity same))

pub returns-clause-found : goal.returns-clause-found
returns-clause-found c =
    let leaves = c.args.leaves.now.items in
    let k = key_at c.args.address.now.is_group c.args.address.now.name.now in
    let n = c.find-at.result.1 in
    let s : IsInTree c.args.store.now leaves c.find-at.result.0 n k = moved_stands_in c.as_slice.ensures.value refl c.find-at.ensures in
    let same : c.index_mut.result.now ≡ s.leaf = c.index_mut.ensures.value ∙ s.outer.value c.index_mut.result.now in
    let entry : c.remove-entry.result ≡ s.entry = c.remove-entry.ensures.value ∙ ap (λ l. slice_index_or l.items n c.remove-entry.result) same ∙ s.inner.value c.remove-entry.result in
    s.found ∙ ap (λ e. Some (entry_row c.args.store.now e)) (sym entry)

pub returns-clause-entries : goal.returns-clause-entries
returns-clause-entries c =
    let leaves = c.args.leaves.now.items in
    let k = key_at c.args.address.now.is_group c.args.address.now.name.now in
    let n = c.find-at.result.1 in
    let s : IsInTree c.args.store.now leaves c.find-at.result.0 n k = moved_stands_in c.as_slice.ensures.value refl c.find-at.ensures in
    let same : c.index_mut.result.now ≡ s.leaf = c.index_mut.ensures.value ∙ s.outer.value c.index_mut.result.now in
    let entry : c.remove-entry.result ≡ s.entry = c.remove-entry.ensures.value ∙ ap (λ l. slice_index_or l.items n c.remove-entry.result) same ∙ s.inner.value c.remove-entry.result in
    let gone = tree_removed c.args.store.now leaves c.find-at.result.0 n k c.remove-entry.new.self s (c.remove-entry.ensures.items ∙ ap (λ l. remove l.items n) same) in
    let end = c.join_around.ensures.entries ∙ c.drop_empty.ensures.entries in
    subst (IsRemoved (entries_in leaves) (entries_in c.join_around.new.leaves.items)) (sym entry) (subst (λ z. IsRemoved (entries_in leaves) z s.entry) (sym end) gone)
