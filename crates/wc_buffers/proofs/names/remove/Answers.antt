use Rattle.std.proofs.Common.{None}
use Rattle.wc_buffers.proofs.NameLemmas.{at_name-update}
use Rattle.wc_buffers.proofs.names.remove.Goals as goal

pub returns-clause-left : goal.returns-clause-left
returns-clause-left c = at_name-update c.args.name.now c.args.names.now c.remove.new.self None c.remove.ensures.updates
