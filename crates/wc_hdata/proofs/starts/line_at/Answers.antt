use Rattle.wc_hdata.proofs.KeptLemmas.{there_all}
use Rattle.wc_hdata.proofs.starts.line_at.Goals as goal

pub line_among-requires : goal.line_among-requires
line_among-requires c = there_all c.args.lists.now c.world.result.now c.buffers.result.now c.world.ensures c.buffers.ensures
