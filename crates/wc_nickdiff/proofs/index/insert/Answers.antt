use Rattle.wc_nicklist.proofs.Names.{at_long-update}
use Rattle.std.proofs.Common.{Some}
use Rattle.wc_nickdiff.proofs.index.insert.Goals as goal

pub returns : goal.returns
returns c = at_long-update c.args.name.items c.args.places.now c.insert.new.self (Some c.args.place) c.in-Ok.ensures.updates
