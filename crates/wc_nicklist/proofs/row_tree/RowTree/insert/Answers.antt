use Rattle.std.proofs.Common.{◌≡◌, Some, refl, sym, ap, ◌∙◌, subst, arith}
use Rattle.wc_nicklist.specs.declared.store.Entry.{Entry}
use Rattle.wc_nicklist.specs.Order.{key, key_at, address, address_of}
use Rattle.wc_nicklist.specs.Rows.{find_row, insert_row, Ascending}
use Rattle.wc_nicklist.specs.Stored.{row_or, entry_row, EntryLeads}
use Rattle.wc_nicklist.specs.Tree.{entries_in, IsInserted}
use Rattle.wc_nicklist.proofs.Owned.{rows_inserted, stand_inserted, length_inserted, same_rows, same_stand, agree_put, owns_put, new_row, moved_digest}
use Rattle.wc_nicklist.proofs.row_tree.RowTree.insert.Goals as goal

pub insert-requires-clause-stand : goal.insert-requires-clause-stand
insert-requires-clause-stand c =
    let a = c.self.inside in
    let es = entries_in a.leaves.items in
    let stand = c.self.invariant.stand in
    same_stand a.store c.put-id.new.self es (agree_put a.store c.put-id.new.self c.put-id.result.0 c.args.row.value c.put-id.ensures.fresh c.put-id.ensures.after es stand) stand

pub insert-requires-clause-order : goal.insert-requires-clause-order
insert-requires-clause-order c =
    let a = c.self.inside in
    let es = entries_in a.leaves.items in
    let rows = same_rows a.store c.put-id.new.self es (agree_put a.store c.put-id.new.self c.put-id.result.0 c.args.row.value c.put-id.ensures.fresh c.put-id.ensures.after es c.self.invariant.stand) in
    subst Ascending (sym (rows ∙ ap (λ v. v.rows) c.self.view_is)) c.requires.held.ascending

pub returns-clause-rows : goal.returns-clause-rows
returns-clause-rows c =
    let a = c.self.inside in
    let t = c.put-id.new.self in
    let n = c.put-id.result.0 in
    let r = c.args.row.value in
    let es = entries_in a.leaves.items in
    let d = c.address-address in
    let e : Entry = record { digest = d.result.digest; id = c.put-id.result } in
    let rows = same_rows a.store t es (agree_put a.store t n r c.put-id.ensures.fresh c.put-id.ensures.after es c.self.invariant.stand) in
    let one : Some c.get-stored.result.now ≡ Some r = sym c.get-stored.ensures ∙ new_row a.store t n r c.put-id.ensures.fresh c.put-id.ensures.after in
    let same : c.get-stored.result.now ≡ r = cc in
    let here : address_of d.result.path.now (key_at d.result.is_group d.result.name.now) ≡ address r = (λ i. address_of (d.ensures.path i) (key_at (d.ensures.kind i) (d.ensures.name i))) ∙ ap address same in
    let came = subst (IsInserted t es (entries_in c.insert.new.leaves.items) e) here c.insert.ensures.entries in
    let own : entry_row t e ≡ r = ap row_or (new_row a.store t n r c.put-id.ensures.fresh c.put-id.ensures.after) in
    let old = rows ∙ ap (λ v. v.rows) c.self.view_is in
    rows_inserted t es (entries_in c.insert.new.leaves.items) e r own came (ap (find_row (key r)) old ∙ c.requires.absent) ∙ ap (insert_row r) old

pub invariant_of-self : goal.invariant_of-self
invariant_of-self c =
    let a = c.self.inside in
    let t = c.put-id.new.self in
    let n = c.put-id.result.0 in
    let r = c.args.row.value in
    let es = entries_in a.leaves.items in
    let new = entries_in c.insert.new.leaves.items in
    let i = c.self.invariant in
    let d = c.address-address in
    let e : Entry = record { digest = d.result.digest; id = c.put-id.result } in
    let at = address_of d.result.path.now (key_at d.result.is_group d.result.name.now) in
    let stand = same_stand a.store t es (agree_put a.store t n r c.put-id.ensures.fresh c.put-id.ensures.after es i.stand) i.stand in
    let stands : EntryLeads t e = record { row = c.get-stored.result.now; found = c.get-stored.ensures; digest = moved_digest d.ensures.path d.ensures.kind d.ensures.name d.result.exact } in
    let len = length_inserted t es new e at c.insert.ensures.entries in
    record {
      are_leaves = c.insert.ensures.leaves;
      stand = stand_inserted t es new e at c.insert.ensures.entries stand stands;
      spare_empty = c.insert.ensures.spare_empty;
      counted = omega (arith, i.counted, len);
      owned = owns_put a.store t n r c.put-id.ensures.fresh c.put-id.ensures.after es new e at refl c.insert.ensures.entries i.owned;
    }
