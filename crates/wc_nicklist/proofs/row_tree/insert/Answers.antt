use Rattle.std.proofs.Common.{◌≡◌, List, map, sym, ap, ◌∙◌, subst, arith}
use Rattle.std.specs.Prelude.{insert, slice_set, vec_len, vec_capacity}
use Rattle.wc_nicklist.specs.declared.store.Entry.{Entry}
use Rattle.wc_nicklist.specs.Order.{key_at, address_of}
use Rattle.wc_nicklist.specs.Rows.{Ascending}
use Rattle.wc_nicklist.specs.Stored.{entry_row, AllEntriesLead, IsRowPlace}
use Rattle.wc_nicklist.specs.Tree.{Leaf, leaf_rows, entries_in, IsLeaf, IsInserted}
use Rattle.wc_nicklist.proofs.Leaves.{is_leaf_at, ascending_leaf, stand_leaf}
use Rattle.wc_nicklist.proofs.TreeLaws.{tree_inserted, leaves_set}
use Rattle.wc_nicklist.proofs.row_tree.insert.Goals as goal

pub put-requires-clause-stand : goal.put-requires-clause-stand
put-requires-clause-stand c =
    let s = c.args.store.now in
    let leaves = c.roomy_leaf-at.new.leaves.items in
    let p = c.roomy_leaf-at.ensures.place in
    let same : c.index_mut.result.now ≡ p.place.leaf = c.index_mut.ensures.value ∙ p.place.split.value c.index_mut.result.now in
    let P : Leaf → Type 0 = λ l. AllEntriesLead s l.items in
    subst P (sym same) (stand_leaf s leaves c.roomy_leaf-at.result p.place.leaf (subst (AllEntriesLead s) (sym c.roomy_leaf-at.ensures.entries) c.requires.stand) p.place.split)

pub put-requires-clause-order : goal.put-requires-clause-order
put-requires-clause-order c =
    let s = c.args.store.now in
    let leaves = c.roomy_leaf-at.new.leaves.items in
    let p = c.roomy_leaf-at.ensures.place in
    let same : c.index_mut.result.now ≡ p.place.leaf = c.index_mut.ensures.value ∙ p.place.split.value c.index_mut.result.now in
    let P : Leaf → Type 0 = λ l. Ascending (leaf_rows s l) in
    let Q : List Entry → Type 0 = λ z. Ascending (map (entry_row s) z) in
    subst P (sym same) (ascending_leaf s leaves c.roomy_leaf-at.result p.place.leaf (subst Q (sym c.roomy_leaf-at.ensures.entries) c.requires.order) p.place.split)

pub put-requires-clause-room : goal.put-requires-clause-room
put-requires-clause-room c =
    let leaves = c.roomy_leaf-at.new.leaves.items in
    let at = c.roomy_leaf-at.result in
    let p = c.roomy_leaf-at.ensures.place in
    let same : c.index_mut.result.now ≡ p.place.leaf = c.index_mut.ensures.value ∙ p.place.split.value c.index_mut.result.now in
    let old = is_leaf_at leaves at p.place.leaf c.roomy_leaf-at.ensures.leaves p.place.split in
    let f = old.roomy in
    let g = p.room in
    omega (arith, f, g, ap vec_len same, ap vec_capacity same)

pub returns-clause-entries : goal.returns-clause-entries
returns-clause-entries c =
    let s = c.args.store.now in
    let a = address_of c.args.address.now.path.now (key_at c.args.address.now.is_group c.args.address.now.name.now) in
    let leaves = c.roomy_leaf-at.new.leaves.items in
    let at = c.roomy_leaf-at.result in
    let p = c.roomy_leaf-at.ensures.place in
    let same : c.index_mut.result.now ≡ p.place.leaf = c.index_mut.ensures.value ∙ p.place.split.value c.index_mut.result.now in
    let q = c.put.ensures.place in
    let P : Leaf → Type 0 = λ l. IsRowPlace (leaf_rows s l) a q.0 in
    let new = entries_in (slice_set leaves at c.put.new.self) in
    let came = tree_inserted s leaves at a c.args.entry c.put.new.self p.place q.0 (subst P same q.1) (q.2 ∙ ap (λ l. insert l.items q.0 c.args.entry) same) in
    subst (λ z. IsInserted s z new c.args.entry a) c.roomy_leaf-at.ensures.entries came

pub returns-clause-leaves : goal.returns-clause-leaves
returns-clause-leaves c =
    let leaves = c.roomy_leaf-at.new.leaves.items in
    let at = c.roomy_leaf-at.result in
    let p = c.roomy_leaf-at.ensures.place in
    let same : c.index_mut.result.now ≡ p.place.leaf = c.index_mut.ensures.value ∙ p.place.split.value c.index_mut.result.now in
    let old = is_leaf_at leaves at p.place.leaf c.roomy_leaf-at.ensures.leaves p.place.split in
    let f = old.roomy in
    let g = p.room in
    let leaf : IsLeaf c.put.new.self = record {
      filled = omega (arith, c.put.ensures.len);
      fits = omega (arith, g, c.put.ensures.len, ap vec_len same);
      roomy = omega (arith, f, c.put.ensures.capacity, ap vec_capacity same);
    } in
    leaves_set leaves at p.place.leaf c.put.new.self c.roomy_leaf-at.ensures.leaves p.place.split leaf
