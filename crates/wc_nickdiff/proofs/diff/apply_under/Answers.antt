use Rattle.wc_nickdiff.proofs.Items.{named_fits, named_after}
use Rattle.wc_nickdiff.proofs.diff.apply_under.Goals as goal

pub returns-in-Parent-clause-fits : goal.returns-in-Parent-clause-fits
returns-in-Parent-clause-fits c = named_fits c.has_group.result c.args.item.now.mark c.args.parent.now c.args.item.now.item c.args.list.now.rows c.in-Parent.is c.has_group.ensures

pub returns-in-Parent-clause-after : goal.returns-in-Parent-clause-after
returns-in-Parent-clause-after c = named_after c.has_group.result c.args.item.now.mark c.args.parent.now c.args.item.now.item c.args.list.now.rows c.in-Parent.is
