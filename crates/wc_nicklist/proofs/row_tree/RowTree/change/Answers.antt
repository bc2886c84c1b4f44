use Rattle.std.proofs.Common.{◌≡◌, Some, sym, ap, ◌∙◌, subst}
use Rattle.wc_nicklist.specs.Order.{key}
use Rattle.wc_nicklist.specs.Rows.{find_row, change_row, Keyed}
use Rattle.wc_nicklist.specs.Stored.{row_at}
use Rattle.wc_nicklist.specs.Tree.{entries_in, rows_in}
use Rattle.wc_nicklist.proofs.Owned.{stand_changed, rows_changed, owns_change}
use Rattle.wc_nicklist.proofs.Places.{some_and}
use Rattle.wc_nicklist.proofs.row_tree.RowTree.change.Goals as goal

pub invariant_of-self : goal.invariant_of-self
invariant_of-self c =
    let a = c.self.inside in
    let n = c.args.id.0 in
    let o = some_and _ c.requires.known in
    let there : row_at a.store n ≡ Some o.0 = ap (λ v. row_at v.store n) c.self.view_is ∙ o.1 in
    let after = c.change.ensures o.0 there in
    let i = c.self.invariant in
    record {
      are_leaves = i.are_leaves;
      stand = stand_changed a.store c.change.new.self n o.0 c.args.item there after (entries_in a.leaves.items) i.stand;
      spare_empty = i.spare_empty;
      counted = i.counted;
      owned = owns_change a.store c.change.new.self n o.0 c.args.item there after (entries_in a.leaves.items) i.owned;
    }

pub returns-clause-rows : goal.returns-clause-rows
returns-clause-rows c r h =
    let a = c.self.inside in
    let n = c.args.id.0 in
    let o = some_and _ c.requires.known in
    let one : Some o.0 ≡ Some r = sym o.1 ∙ h in
    let same : o.0 ≡ r = cc in
    let there : row_at a.store n ≡ Some r = ap (λ v. row_at v.store n) c.self.view_is ∙ h in
    let known : find_row (key r) (rows_in a.store a.leaves.items) ≡ Some r = ap (λ v. find_row (key r) v.rows) c.self.view_is ∙ ap (λ z. find_row (key z) c.args.self.now.rows) (sym same) ∙ o.2 ∙ ap Some same in
    let keyed = subst (λ v. Keyed v.rows) (sym c.self.view_is) c.requires.held.keyed in
    rows_changed a.store c.change.new.self n r c.args.item there (c.change.ensures r there) (entries_in a.leaves.items) keyed c.self.invariant.owned known
    ∙ ap (λ v. change_row (key r) c.args.item v.rows) c.self.view_is
