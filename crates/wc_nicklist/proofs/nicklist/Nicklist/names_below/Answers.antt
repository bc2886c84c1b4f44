use Rattle.std.proofs.Common.{◌≡◌, Some, None, [], ◌∷◌, ◌++◌, sym, ap, ◌∙◌}
use Rattle.std.specs.Prelude.{option_copied}
use Rattle.wc_nicklist.specs.Order.{group_key}
use Rattle.wc_nicklist.specs.Rows.{find_row}
use Rattle.wc_nicklist.proofs.Keeps.{below_root, below_group}
use Rattle.wc_nicklist.proofs.nicklist.Nicklist.names_below.Goals as goal

pub returns-in_default : goal.returns-in_default
returns-in_default c =
    let p = c.args.parent.now in
    let none : find_row (group_key p) c.args.self.now.rows ≡ None = sym c.stored.ensures.row ∙ ap option_copied c.in_default.is in
    below_root p c.args.self.now.rows c.requires none ∙ ap Some (sym c.new.ensures)

pub returns : goal.returns
returns c =
    let p = c.args.parent.now in
    let above = c.in-Some.above.now in
    let found : find_row (group_key p) c.args.self.now.rows ≡ Some above = sym c.in-Some.ensures.row in
    let made : c.push.new.self ≡ above.path ++ p ∷ [] = c.in_ok-push.ensures.ok ∙ (λ i. c.in_ok-path.ensures i ++ c.in_ok-name.ensures i ∷ []) in
    below_group p c.args.self.now.rows above c.stored.ensures.held found ∙ ap Some (sym made)
