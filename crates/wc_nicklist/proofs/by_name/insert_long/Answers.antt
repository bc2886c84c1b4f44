use Rattle.wc_nicklist.proofs.Names.{at_long-update}
use Rattle.std.proofs.Common.{Some}
use Rattle.wc_nicklist.proofs.by_name.insert_long.Goals as goal

pub returns : goal.returns
returns c = at_long-update c.args.name.items c.args.ids.now c.insert.new.self (Some c.args.id) c.in-Ok.ensures.updates
