use Rattle.std.proofs.Common.{◌≡◌, ℕ, true, Bool, Option, Some, List, sym, ap, ◌∙◌, subst}
use Rattle.std.specs.Prelude.{IsSomeAnd}
use Rattle.wc_nicklist.specs.declared.item.Row.{Row}
use Rattle.wc_nicklist.specs.Order.{key_at}
use Rattle.wc_nicklist.specs.Rows.{find_row}
use Rattle.wc_nicklist.specs.Tree.{rows_in, IsInTree}
use Rattle.wc_nicklist.proofs.Children.{children_after, is_its_group}
use Rattle.wc_nicklist.proofs.row_tree.has_child.Goals as goal

pub find-at-requires-clause-known : goal.find-at-requires-clause-known
find-at-requires-clause-known c =
    let s = c.args.store.now in
    let leaves = c.args.leaves.now in
    let g = c.args.group.now in
    let group = is_its_group s leaves g c.requires.stands in
    let k : key_at c.address.result.is_group c.address.result.name.now ≡ key_at true g.item.name = λ i. key_at ((c.address.ensures.kind ∙ group) i) (c.address.ensures.name i) in
    let found : find_row (key_at c.address.result.is_group c.address.result.name.now) (rows_in s leaves) ≡ Some g = ap (λ z. find_row z (rows_in s leaves)) k ∙ c.requires.stands in
    let P : Option Row → Type 0 = λ o. IsSomeAnd o (λ r. r.path ≡ c.address.result.path.now) in
    subst P (sym found) (sym c.address.ensures.path)

pub returns : goal.returns
returns c =
    let s = c.args.store.now in
    let leaves = c.args.leaves.now in
    let At : Bool → Type 0 = λ g. IsInTree s leaves c.find-at.result.0 c.find-at.result.1 (key_at g c.address.result.name.now) in
    let Of : List ℕ → Type 0 = λ name. IsInTree s leaves c.find-at.result.0 c.find-at.result.1 (key_at true name) in
    let group = is_its_group s leaves c.args.group.now c.requires.stands in
    let t : Of c.args.group.now.item.name = subst Of c.address.ensures.name (subst At (c.address.ensures.kind ∙ group) c.find-at.ensures) in
    c.begins_with_child.ensures
    ∙ sym (children_after s leaves c.find-at.result.0 c.find-at.result.1 c.args.group.now c.rows_after.result t c.requires.held c.requires.stands c.rows_after.ensures)
