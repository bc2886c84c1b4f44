use Rattle.wc_buffers.proofs.NameLemmas.{at_name-same}
use Rattle.wc_buffers.proofs.names.reserve.Goals as goal

pub returns-clause-same : goal.returns-clause-same
returns-clause-same c = at_name-same c.args.names.now c.reserve.new.self c.in_ok-reserve.ensures.entries.2
