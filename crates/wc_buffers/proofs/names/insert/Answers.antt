use Rattle.std.proofs.Common.{Some}
use Rattle.wc_buffers.proofs.NameLemmas.{at_name-update}
use Rattle.wc_buffers.proofs.names.insert.Goals as goal

pub returns : goal.returns
returns c = at_name-update c.args.name.items c.args.names.now c.insert.new.self (Some c.args.h) c.in-Ok.ensures.updates
