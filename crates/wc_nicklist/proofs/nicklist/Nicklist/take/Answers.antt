use Rattle.std.proofs.Common.{◌≡◌, Some, None, sym, ap, ◌∙◌}
use Rattle.wc_nicklist.specs.Calls.{has_children, with_rows}
use Rattle.wc_nicklist.specs.Order.{key, key_at}
use Rattle.wc_nicklist.specs.Rows.{find_row, remove_row, Nicks}
use Rattle.wc_nicklist.proofs.Keeps.{take_kept, id_row, id_known}
use Rattle.wc_nicklist.proofs.RowLaws.{find_key}
use Rattle.wc_nicklist.proofs.nicklist.Nicklist.take.Goals as goal

pub remove-row-requires-clause-known : goal.remove-row-requires-clause-known
remove-row-requires-clause-known c =
    let a = c.self.inside in
    id_known a.rows a.index (key_at c.args.is_group c.args.name.now) c.in-Some.id c.self.invariant.indexed (sym c.find.ensures ∙ c.in-Some.is)

pub returns-clause-after : goal.returns-clause-after
returns-clause-after c =
    let a = c.self.inside in
    let k = key_at c.args.is_group c.args.name.now in
    let x = id_row a.rows a.index k c.in-Some.id c.self.invariant.indexed (sym c.find.ensures ∙ c.in-Some.is) in
    let one : Some c.remove-row.result.value ≡ Some x.0 = sym c.remove-row.ensures.row ∙ x.1 in
    let same : c.remove-row.result.value ≡ x.0 = cc in
    let rows : c.remove-row.new.self.rows ≡ remove_row k a.rows.rows = c.remove-row.ensures.rows ∙ ap (λ z. remove_row (key z) a.rows.rows) same ∙ ap (λ z. remove_row z a.rows.rows) (find_key k a.rows.rows x.0 x.2) in
    (λ i. record { root = a.root; rows = rows i; room = None }) ∙ ap (λ (v : Nicks). with_rows (remove_row k v.rows) v) c.self.view_is

-- the row and its number go together
pub invariant_of-self : goal.invariant_of-self
invariant_of-self c =
    let a = c.self.inside in
    let k = key_at c.args.is_group c.args.name.now in
    let x = id_row a.rows a.index k c.in-Some.id c.self.invariant.indexed (sym c.find.ensures ∙ c.in-Some.is) in
    let one : Some c.remove-row.result.value ≡ Some x.0 = sym c.remove-row.ensures.row ∙ x.1 in
    let same : c.remove-row.result.value ≡ x.0 = cc in
    let rows : c.remove-row.new.self.rows ≡ remove_row k a.rows.rows = c.remove-row.ensures.rows ∙ ap (λ z. remove_row (key z) a.rows.rows) same ∙ ap (λ z. remove_row z a.rows.rows) (find_key k a.rows.rows x.0 x.2) in
    take_kept a.rows c.remove-row.new.self a.index c.remove.new.self c.args.is_group c.args.name.now x.0 c.in-Some.id
    c.self.invariant.held c.self.invariant.indexed x.2 x.1
    (λ g. ap (λ s. has_children (find_row k s.rows) s.rows) c.self.view_is ∙ c.requires.childless g)
    rows c.remove-row.ensures.at c.remove.ensures
