use Rattle.wc_hdata.proofs.KeptLemmas.{kept_buffers}
use Rattle.wc_hdata.proofs.starts.starts.Goals as goal

pub returns-in-FirstBuffer-clause-kept : goal.returns-in-FirstBuffer-clause-kept
returns-in-FirstBuffer-clause-kept c = kept_buffers c.args.lists.now c.buffers.result.now c.args.path.now.count _ _ c.buffers.ensures c.of_buffers.ensures

pub returns-in-LastBuffer-clause-kept : goal.returns-in-LastBuffer-clause-kept
returns-in-LastBuffer-clause-kept c = kept_buffers c.args.lists.now c.buffers-buffers.result.now c.args.path.now.count _ _ c.buffers-buffers.ensures c.of_buffers-in-LastBuffer.ensures
