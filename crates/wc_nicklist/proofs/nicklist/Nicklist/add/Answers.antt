use Rattle.std.proofs.Common.{◌≡◌, None, sym, ap, ◌∙◌}
use Rattle.wc_nicklist.specs.Calls.{add_refusal}
use Rattle.wc_nicklist.specs.Order.{key_at}
use Rattle.wc_nicklist.specs.Rows.{find_row, Nicks}
use Rattle.wc_nicklist.proofs.Refusals.{may_add}
use Rattle.wc_nicklist.proofs.nicklist.Nicklist.add.Goals as goal

pub prepare-requires : goal.prepare-requires
prepare-requires c =
    let e : add_refusal c.args.is_group c.args.parent.now c.args.item.name c.args.self.now.rows ≡ None = ap (λ n. add_refusal c.args.is_group c.args.parent.now n c.args.self.now.rows) (sym c.as_slice.ensures) ∙ c.add_refusal.ensures.none c.in_default.is in
    (may_add c.args.is_group c.args.item.name c.args.self.now.rows c.args.parent.now e).parent

pub put-requires-clause-absent : goal.put-requires-clause-absent
put-requires-clause-absent c =
    let e : add_refusal c.args.is_group c.args.parent.now c.args.item.name c.args.self.now.rows ≡ None = ap (λ n. add_refusal c.args.is_group c.args.parent.now n c.args.self.now.rows) (sym c.as_slice.ensures) ∙ c.add_refusal.ensures.none c.in_default.is in
    ap (λ (list : Nicks). find_row (key_at c.args.is_group c.args.item.name) list.rows) c.in-Ok.ensures.ok ∙ (may_add c.args.is_group c.args.item.name c.args.self.now.rows c.args.parent.now e).absent

pub put-requires-clause-named : goal.put-requires-clause-named
put-requires-clause-named c =
    let e : add_refusal c.args.is_group c.args.parent.now c.args.item.name c.args.self.now.rows ≡ None = ap (λ n. add_refusal c.args.is_group c.args.parent.now n c.args.self.now.rows) (sym c.as_slice.ensures) ∙ c.add_refusal.ensures.none c.in_default.is in
    (may_add c.args.is_group c.args.item.name c.args.self.now.rows c.args.parent.now e).named
