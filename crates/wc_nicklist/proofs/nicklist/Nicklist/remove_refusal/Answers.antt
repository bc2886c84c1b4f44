use Rattle.std.proofs.Common.{◌≡◌, Some, None, sym, ap, ◌∙◌}
use Rattle.std.specs.Prelude.{option_copied}
use Rattle.wc_nicklist.specs.declared.refused.NickRefused.TheVariants.{NoSuch, NotEmpty}
use Rattle.wc_nicklist.specs.Order.{key_at}
use Rattle.wc_nicklist.specs.Rows.{find_row}
use Rattle.wc_nicklist.proofs.RowLaws.{found_by_name}
use Rattle.wc_nicklist.proofs.Refusals.{is_name, remove_named, remove_absent, remove_filled, remove_accepted}
use Rattle.wc_nicklist.proofs.nicklist.Nicklist.remove_refusal.Goals as goal

pub returns-in-Some : goal.returns-in-Some
returns-in-Some c = sym (remove_named c.args.is_group c.args.name.now c.args.self.now.rows c.in-Some.refused (sym c.in-Some.ensures))

pub from_slice-requires : goal.from_slice-requires
from_slice-requires c = (is_name c.args.is_group c.args.name.now (sym c.refusal_of_name.ensures ∙ c.in_default.is)).bounds.1

pub returns-in_default-stored : goal.returns-in_default-stored
returns-in_default-stored c =
    let absent : find_row (key_at c.args.is_group c.args.name.now) c.args.self.now.rows ≡ None = sym c.stored.ensures.row ∙ ap option_copied c.in_default-stored.is in
    sym (remove_absent c.args.is_group c.args.name.now c.args.self.now.rows (sym c.refusal_of_name.ensures ∙ c.in_default.is) absent ∙ ap (λ n. Some (NoSuch n)) (sym c.from_slice.ensures))

-- the row is found under its own name
pub is_filled-requires : goal.is_filled-requires
is_filled-requires c =
    let rows = c.args.self.now.rows in
    let found : find_row (key_at c.args.is_group c.args.name.now) rows ≡ Some c.in-Some-stored.row.now = sym c.in-Some-stored.ensures.row in
    found_by_name rows c.in-Some-stored.row.now c.args.is_group c.args.name.now found

pub from_slice-requires-then-is_filled : goal.from_slice-requires-then-is_filled
from_slice-requires-then-is_filled c = (is_name c.args.is_group c.args.name.now (sym c.refusal_of_name.ensures ∙ c.in_default.is)).bounds.1

pub returns-then-is_filled : goal.returns-then-is_filled
returns-then-is_filled c =
    let r = c.in-Some-stored.row.now in
    let found : find_row (key_at c.args.is_group c.args.name.now) c.args.self.now.rows ≡ Some r = sym c.in-Some-stored.ensures.row in
    sym (remove_filled c.args.is_group c.args.name.now c.args.self.now.rows r (sym c.refusal_of_name.ensures ∙ c.in_default.is) found (sym c.is_filled.ensures ∙ c.if-is_filled.true) ∙ ap (λ n. Some (NotEmpty n)) (sym c.from_slice-then-is_filled.ensures))

pub returns : goal.returns
returns c =
    let r = c.in-Some-stored.row.now in
    let found : find_row (key_at c.args.is_group c.args.name.now) c.args.self.now.rows ≡ Some r = sym c.in-Some-stored.ensures.row in
    sym (remove_accepted c.args.is_group c.args.name.now c.args.self.now.rows r (sym c.refusal_of_name.ensures ∙ c.in_default.is) found (sym c.is_filled.ensures ∙ c.if-is_filled.false))
