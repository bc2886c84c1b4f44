use Rattle.wc_hdata.proofs.KeptLemmas.{kept_buffers, one_buffer}
use Rattle.wc_hdata.proofs.reach.buffers_from.Goals as goal

pub returns-in-One-clause-places : goal.returns-in-One-clause-places
returns-in-One-clause-places c = one_buffer c.args.lists.now.world.groups c.args.count c.args.buffer _ c.requires c.in-One.is c.one.ensures

pub returns-clause-kept : goal.returns-clause-kept
returns-clause-kept c = kept_buffers c.args.lists.now c.buffers-buffers.result.now c.args.count _ _ c.buffers-buffers.ensures c.of_buffers.ensures
