use Rattle.wc_nicklist.proofs.Names.{at_long-update}
use Rattle.std.proofs.Common.{None}
use Rattle.wc_nicklist.proofs.by_name.remove_long.Goals as goal

pub returns : goal.returns
returns c = at_long-update c.args.name.now c.args.ids.now c.remove.new.self None c.remove.ensures.updates
