use Rattle.std.proofs.Common.{◌≡◌, ◌∷◌, ◌++◌, suc, take, drop, map, sym, ap, ◌∙◌, subst, arith}
use Rattle.std.specs.Prelude.{vec_capacity}
use Rattle.std.proofs.lemmas.Bool.{true≢false}
use Rattle.std.proofs.lemmas.List.{map-append}
use Rattle.wc_nicklist.specs.Order.{key_at, address_of}
use Rattle.wc_nicklist.specs.Rows.{Ascending}
use Rattle.wc_nicklist.specs.Stored.{entry_row, AllEntriesLead}
use Rattle.wc_nicklist.specs.Tree.{leaf_rows, IsLeaf}
use Rattle.wc_nicklist.proofs.Leaves.{is_leaf_at, ascending_leaf, ascending_left, stand_leaf, stand_left}
use Rattle.wc_nicklist.proofs.TreeLaws.{split_made, split_leaves, lower_place, upper_place}
use Rattle.wc_nicklist.proofs.row_tree.split.Goals as goal

pub ends_before-in_upper-requires-clause-stand : goal.ends_before-in_upper-requires-clause-stand
ends_before-in_upper-requires-clause-stand c =
    let s = c.args.store.now in
    let leaves = c.args.leaves.now.items in
    let p = c.requires.place in
    let same : c.index_mut-lower.result.now ≡ p.leaf = c.index_mut-lower.ensures.value ∙ p.split.value c.index_mut-lower.result.now in
    stand_left s c.move_half.new.self.items c.move_half.new.upper.items (subst (AllEntriesLead s) (ap (λ l. l.items) (sym same) ∙ c.move_half.ensures.rows) (stand_leaf s leaves c.args.at p.leaf c.requires.stand p.split))

pub ends_before-in_upper-requires-clause-order : goal.ends_before-in_upper-requires-clause-order
ends_before-in_upper-requires-clause-order c =
    let s = c.args.store.now in
    let leaves = c.args.leaves.now.items in
    let p = c.requires.place in
    let same : c.index_mut-lower.result.now ≡ p.leaf = c.index_mut-lower.ensures.value ∙ p.split.value c.index_mut-lower.result.now in
    let halves : leaf_rows s p.leaf ≡ leaf_rows s c.move_half.new.self ++ leaf_rows s c.move_half.new.upper = ap (map (entry_row s)) (ap (λ l. l.items) (sym same) ∙ c.move_half.ensures.rows) ∙ map-append (entry_row s) c.move_half.new.self.items c.move_half.new.upper.items in
    ascending_left (leaf_rows s c.move_half.new.self) (leaf_rows s c.move_half.new.upper) (subst Ascending halves (ascending_leaf s leaves c.args.at p.leaf c.requires.order p.split))

pub returns-then-in_upper-clause-place : goal.returns-then-in_upper-clause-place
returns-then-in_upper-clause-place c =
    let leaves = c.args.leaves.now.items in
    let a = address_of c.args.address.now.path.now (key_at c.args.address.now.is_group c.args.address.now.name.now) in
    let p = c.requires.place in
    let same : c.index_mut-lower.result.now ≡ p.leaf = c.index_mut-lower.ensures.value ∙ p.split.value c.index_mut-lower.result.now in
    let made : c.insert.new.self.items ≡ take c.args.at leaves ++ c.move_half.new.self ∷ c.move_half.new.upper ∷ drop (suc c.args.at) leaves = c.in-Ok.ensures.items ∙ split_made leaves c.args.at p.leaf c.move_half.new.self c.move_half.new.upper p.split in
    upper_place c.args.store.now leaves a c.args.at p c.move_half.new.self c.move_half.new.upper c.insert.new.self.items (omega (arith, c.move_half.ensures.upper_len)) (ap (λ l. l.items) (sym same) ∙ c.move_half.ensures.rows) (c.ends_before-in_upper.ensures.all c.if-in_upper.true) made

pub returns-then-in_upper-clause-leaves : goal.returns-then-in_upper-clause-leaves
returns-then-in_upper-clause-leaves c =
    let leaves = c.args.leaves.now.items in
    let a = address_of c.args.address.now.path.now (key_at c.args.address.now.is_group c.args.address.now.name.now) in
    let p = c.requires.place in
    let same : c.index_mut-lower.result.now ≡ p.leaf = c.index_mut-lower.ensures.value ∙ p.split.value c.index_mut-lower.result.now in
    let made : c.insert.new.self.items ≡ take c.args.at leaves ++ c.move_half.new.self ∷ c.move_half.new.upper ∷ drop (suc c.args.at) leaves = c.in-Ok.ensures.items ∙ split_made leaves c.args.at p.leaf c.move_half.new.self c.move_half.new.upper p.split in
    let old = is_leaf_at leaves c.args.at p.leaf c.requires.leaves p.split in
    let r = old.roomy in
    let lower : IsLeaf c.move_half.new.self = record { filled = omega (arith, c.move_half.ensures.lower_len); fits = omega (arith, c.move_half.ensures.lower_len); roomy = omega (arith, r, c.move_half.ensures.lower_capacity, ap vec_capacity same) } in
    let upper : IsLeaf c.move_half.new.upper = record { filled = omega (arith, c.move_half.ensures.upper_len); fits = omega (arith, c.move_half.ensures.upper_len); roomy = omega (arith, c.requires.roomy, c.move_half.ensures.upper_capacity) } in
    split_leaves leaves c.args.at p.leaf c.move_half.new.self c.move_half.new.upper c.insert.new.self.items c.requires.leaves p.split lower upper made

pub returns-else-in_upper-clause-place : goal.returns-else-in_upper-clause-place
returns-else-in_upper-clause-place c =
    let leaves = c.args.leaves.now.items in
    let a = address_of c.args.address.now.path.now (key_at c.args.address.now.is_group c.args.address.now.name.now) in
    let p = c.requires.place in
    let same : c.index_mut-lower.result.now ≡ p.leaf = c.index_mut-lower.ensures.value ∙ p.split.value c.index_mut-lower.result.now in
    let made : c.insert.new.self.items ≡ take c.args.at leaves ++ c.move_half.new.self ∷ c.move_half.new.upper ∷ drop (suc c.args.at) leaves = c.in-Ok.ensures.items ∙ split_made leaves c.args.at p.leaf c.move_half.new.self c.move_half.new.upper p.split in
    lower_place c.args.store.now leaves a c.args.at p c.move_half.new.self c.move_half.new.upper c.insert.new.self.items (omega (arith, c.move_half.ensures.lower_len)) (λ b. true≢false (sym (c.ends_before-in_upper.ensures.not_all b) ∙ c.if-in_upper.false)) made

pub returns-else-in_upper-clause-leaves : goal.returns-else-in_upper-clause-leaves
returns-else-in_upper-clause-leaves c =
    let leaves = c.args.leaves.now.items in
    let a = address_of c.args.address.now.path.now (key_at c.args.address.now.is_group c.args.address.now.name.now) in
    let p = c.requires.place in
    let same : c.index_mut-lower.result.now ≡ p.leaf = c.index_mut-lower.ensures.value ∙ p.split.value c.index_mut-lower.result.now in
    let made : c.insert.new.self.items ≡ take c.args.at leaves ++ c.move_half.new.self ∷ c.move_half.new.upper ∷ drop (suc c.args.at) leaves = c.in-Ok.ensures.items ∙ split_made leaves c.args.at p.leaf c.move_half.new.self c.move_half.new.upper p.split in
    let old = is_leaf_at leaves c.args.at p.leaf c.requires.leaves p.split in
    let r = old.roomy in
    let lower : IsLeaf c.move_half.new.self = record { filled = omega (arith, c.move_half.ensures.lower_len); fits = omega (arith, c.move_half.ensures.lower_len); roomy = omega (arith, r, c.move_half.ensures.lower_capacity, ap vec_capacity same) } in
    let upper : IsLeaf c.move_half.new.upper = record { filled = omega (arith, c.move_half.ensures.upper_len); fits = omega (arith, c.move_half.ensures.upper_len); roomy = omega (arith, c.requires.roomy, c.move_half.ensures.upper_capacity) } in
    split_leaves leaves c.args.at p.leaf c.move_half.new.self c.move_half.new.upper c.insert.new.self.items c.requires.leaves p.split lower upper made
