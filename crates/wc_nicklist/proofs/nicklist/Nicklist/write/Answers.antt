use Rattle.std.proofs.Common.{◌≡◌, Some, None, sym, ap, ◌∙◌}
use Rattle.wc_nicklist.specs.Calls.{with_rows}
use Rattle.wc_nicklist.specs.Index.{id_in}
use Rattle.wc_nicklist.specs.Order.{key_at}
use Rattle.wc_nicklist.specs.Rows.{change_row, Nicks}
use Rattle.wc_nicklist.proofs.Keeps.{write_kept, id_row, id_known}
use Rattle.wc_nicklist.proofs.RowLaws.{find_key}
use Rattle.wc_nicklist.proofs.nicklist.Nicklist.write.Goals as goal

pub change-requires-clause-known : goal.change-requires-clause-known
change-requires-clause-known c =
    let a = c.self.inside in
    id_known a.rows a.index (key_at c.args.is_group c.as_slice.result.now) c.in-Some.id c.self.invariant.indexed (sym c.find.ensures ∙ c.in-Some.is)

pub returns : goal.returns
returns c =
    let a = c.self.inside in
    let k = key_at c.args.is_group c.args.item.name in
    let e : id_in a.index k ≡ Some c.in-Some.id = ap (λ n. id_in a.index (key_at c.args.is_group n)) (sym c.as_slice.ensures) ∙ sym c.find.ensures ∙ c.in-Some.is in
    let x = id_row a.rows a.index k c.in-Some.id c.self.invariant.indexed e in
    let rows : c.change.new.self.rows ≡ change_row k c.args.item a.rows.rows = c.change.ensures.rows x.0 x.1 ∙ ap (λ z. change_row z c.args.item a.rows.rows) (find_key k a.rows.rows x.0 x.2) in
    (λ i. record { root = a.root; rows = rows i; room = None }) ∙ ap (λ (v : Nicks). with_rows (change_row k c.args.item v.rows) v) c.self.view_is

pub invariant_of-self : goal.invariant_of-self
invariant_of-self c =
    let a = c.self.inside in
    let k = key_at c.args.is_group c.args.item.name in
    let e : id_in a.index k ≡ Some c.in-Some.id = ap (λ n. id_in a.index (key_at c.args.is_group n)) (sym c.as_slice.ensures) ∙ sym c.find.ensures ∙ c.in-Some.is in
    let x = id_row a.rows a.index k c.in-Some.id c.self.invariant.indexed e in
    let rows : c.change.new.self.rows ≡ change_row k c.args.item a.rows.rows = c.change.ensures.rows x.0 x.1 ∙ ap (λ z. change_row z c.args.item a.rows.rows) (find_key k a.rows.rows x.0 x.2) in
    write_kept a.rows c.change.new.self a.index k x.0 c.args.item c.in-Some.id c.self.invariant.held c.self.invariant.indexed x.2 e c.requires.utf8 rows (c.change.ensures.at x.0 x.1)
