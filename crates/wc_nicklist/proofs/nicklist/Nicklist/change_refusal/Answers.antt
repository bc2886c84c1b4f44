use Rattle.std.proofs.Common.{◌≡◌, true, false, Some, sym, ap, ◌∙◌}
use Rattle.std.specs.Prelude.{is_some}
use Rattle.wc_nicklist.specs.declared.refused.NickRefused.TheVariants.{NoSuch}
use Rattle.wc_nicklist.specs.Order.{key_at}
use Rattle.wc_nicklist.specs.Rows.{find_row}
use Rattle.wc_nicklist.proofs.Refusals.{is_name, change_named, change_absent, change_accepted}
use Rattle.wc_nicklist.proofs.nicklist.Nicklist.change_refusal.Goals as goal

pub returns-in-Some : goal.returns-in-Some
returns-in-Some c = sym (change_named c.args.is_group c.args.name.now c.args.self.now.rows c.in-Some.refused (sym c.in-Some.ensures))

pub from_slice-requires : goal.from_slice-requires
from_slice-requires c = (is_name c.args.is_group c.args.name.now (sym c.refusal_of_name.ensures ∙ c.in_default.is)).bounds.1

pub returns-then-not-has : goal.returns-then-not-has
returns-then-not-has c =
    let absent : is_some (find_row (key_at c.args.is_group c.args.name.now) c.args.self.now.rows) ≡ false = cc in
    sym (change_absent c.args.is_group c.args.name.now c.args.self.now.rows (sym c.refusal_of_name.ensures ∙ c.in_default.is) absent ∙ ap (λ n. Some (NoSuch n)) (sym c.from_slice.ensures))

pub returns : goal.returns
returns c =
    let there : is_some (find_row (key_at c.args.is_group c.args.name.now) c.args.self.now.rows) ≡ true = cc in
    sym (change_accepted c.args.is_group c.args.name.now c.args.self.now.rows (sym c.refusal_of_name.ensures ∙ c.in_default.is) there)
