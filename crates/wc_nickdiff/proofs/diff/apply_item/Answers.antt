use Rattle.std.proofs.Common.{ap, sym, ◌∙◌}
use Rattle.std.specs.Prelude.{option_copied}
use Rattle.wc_nickdiff.proofs.Items.{first_fits, first_after}
use Rattle.wc_nickdiff.proofs.diff.apply_item.Goals as goal

pub returns-in_default-clause-fits : goal.returns-in_default-clause-fits
returns-in_default-clause-fits c = first_fits c.has_group.result c.args.item.now (option_copied c.args.parent) c.args.list.now.rows (ap option_copied c.in_default.is) (sym c.names_parent.ensures ∙ c.if-not-names_parent.false) c.has_group.ensures

pub returns-in_default-clause-after : goal.returns-in_default-clause-after
returns-in_default-clause-after c = first_after c.has_group.result c.args.item.now (option_copied c.args.parent) c.args.list.now.rows (ap option_copied c.in_default.is) (sym c.names_parent.ensures ∙ c.if-not-names_parent.false)
