use Rattle.std.proofs.Common.{◌≡◌, Some, None, [], ◌∷◌, ◌++◌, sym, ap, ◌∙◌}
use Rattle.std.specs.Prelude.{option_copied}
use Rattle.wc_nicklist.specs.Order.{group_key}
use Rattle.wc_nicklist.specs.Rows.{find_row}
use Rattle.wc_nicklist.proofs.Keeps.{below_root, below_group, no_names}
use Rattle.wc_nicklist.proofs.OrderLaws.{path_eq-true}
use Rattle.wc_nicklist.proofs.nicklist.Nicklist.leads_below.Goals as goal

pub returns-in-Some : goal.returns-in-Some
returns-in-Some c = λ t.
    let p = c.args.parent.now in
    let above = c.in-Some.above.now in
    let same : c.args.path.now ≡ above.path ++ p ∷ [] = path_eq-true _ _ (sym c.is_below.ensures ∙ t) ∙ ap (λ a. a ++ p ∷ []) c.path.ensures in
    let found : find_row (group_key p) c.args.self.now.rows ≡ Some above = sym c.in-Some.ensures.row in
    below_group p c.args.self.now.rows above c.stored.ensures.held found ∙ ap Some (sym same)

pub returns-in-None : goal.returns-in-None
returns-in-None c = λ t.
    let p = c.args.parent.now in
    let none : find_row (group_key p) c.args.self.now.rows ≡ None = sym c.stored.ensures.row ∙ ap option_copied c.in-None.is in
    below_root p c.args.self.now.rows c.requires none ∙ ap Some (no_names c.args.path.now (sym c.is_empty.ensures ∙ t))
