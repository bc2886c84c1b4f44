use Rattle.std.proofs.Common.{◌≡◌, Some, sym, ap, ◌∙◌, subst, arith}
use Rattle.wc_nicklist.specs.Order.{key, key_at}
use Rattle.wc_nicklist.specs.Rows.{find_row, remove_row, IsRows}
use Rattle.wc_nicklist.specs.Stored.{row_at, entry_row}
use Rattle.wc_nicklist.specs.Tree.{entries_in, rows_in}
use Rattle.wc_nicklist.proofs.Owned.{rows_removed, stand_removed, length_removed, same_rows, same_stand, agree_take, owns_take}
use Rattle.wc_nicklist.proofs.Places.{some_and}
use Rattle.wc_nicklist.proofs.row_tree.RowTree.remove.Goals as goal

pub returns-clause-rows : goal.returns-clause-rows
returns-clause-rows c =
    let a = c.self.inside in
    let t = c.take.new.self in
    let n = c.args.id.0 in
    let old = entries_in a.leaves.items in
    let new = entries_in c.remove.new.leaves.items in
    let o = some_and _ c.requires.known in
    let r = o.0 in
    let there : row_at a.store n ≡ Some r = ap (λ v. row_at v.store n) c.self.view_is ∙ o.1 in
    let known : find_row (key r) (rows_in a.store a.leaves.items) ≡ Some r = ap (λ v. find_row (key r) v.rows) c.self.view_is ∙ o.2 in
    let held = subst (λ v. IsRows v.rows) (sym c.self.view_is) c.requires.held in
    let one : Some c.get-row.result.now ≡ Some r = sym c.get-row.ensures ∙ there in
    let same : c.get-row.result.now ≡ r = cc in
    let d = c.address in
    let k : key_at d.result.is_group d.result.name.now ≡ key r = (λ i. key_at (d.ensures.kind i) (d.ensures.name i)) ∙ ap key same in
    let found : find_row (key r) (rows_in a.store a.leaves.items) ≡ Some (entry_row a.store c.remove.result) = ap (λ z. find_row z (rows_in a.store a.leaves.items)) (sym k) ∙ c.remove.ensures.found in
    let taken : Some r ≡ Some c.take.result.value = sym there ∙ c.take.ensures.row in
    let value : r ≡ c.take.result.value = cc in
    same_rows a.store t new (agree_take a.store old new c.remove.result n r held c.self.invariant.owned there known c.remove.ensures.entries found t c.take.ensures.after)
    ∙ rows_removed a.store old new c.remove.result n r held c.self.invariant.owned there known c.remove.ensures.entries found
    ∙ ap (λ v. remove_row (key r) v.rows) c.self.view_is
    ∙ ap (λ z. remove_row (key z) c.args.self.now.rows) value

pub invariant_of-self : goal.invariant_of-self
invariant_of-self c =
    let a = c.self.inside in
    let t = c.take.new.self in
    let n = c.args.id.0 in
    let old = entries_in a.leaves.items in
    let new = entries_in c.remove.new.leaves.items in
    let i = c.self.invariant in
    let o = some_and _ c.requires.known in
    let r = o.0 in
    let there : row_at a.store n ≡ Some r = ap (λ v. row_at v.store n) c.self.view_is ∙ o.1 in
    let known : find_row (key r) (rows_in a.store a.leaves.items) ≡ Some r = ap (λ v. find_row (key r) v.rows) c.self.view_is ∙ o.2 in
    let held = subst (λ v. IsRows v.rows) (sym c.self.view_is) c.requires.held in
    let one : Some c.get-row.result.now ≡ Some r = sym c.get-row.ensures ∙ there in
    let same : c.get-row.result.now ≡ r = cc in
    let d = c.address in
    let k : key_at d.result.is_group d.result.name.now ≡ key r = (λ i. key_at (d.ensures.kind i) (d.ensures.name i)) ∙ ap key same in
    let found : find_row (key r) (rows_in a.store a.leaves.items) ≡ Some (entry_row a.store c.remove.result) = ap (λ z. find_row z (rows_in a.store a.leaves.items)) (sym k) ∙ c.remove.ensures.found in
    let gone = c.remove.ensures.entries in
    let len = length_removed old new c.remove.result gone in
    record {
      are_leaves = c.remove.ensures.leaves;
      stand = same_stand a.store t new (agree_take a.store old new c.remove.result n r held i.owned there known gone found t c.take.ensures.after) (stand_removed a.store old new c.remove.result n r held i.owned there known gone found i.stand);
      spare_empty = i.spare_empty;
      counted = omega (arith, i.counted, len);
      owned = owns_take a.store old new c.remove.result n r held i.owned there known gone found t c.take.ensures.after;
    }
