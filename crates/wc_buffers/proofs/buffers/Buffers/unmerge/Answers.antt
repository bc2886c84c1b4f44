use Rattle.std.proofs.Common.{◌∙◌, sym}
use Rattle.wc_buffers.proofs.RefusalLemmas.{unmerge_good}
use Rattle.wc_buffers.proofs.buffers.Buffers.unmerge.Goals as goal

pub part-requires-clause-there : goal.part-requires-clause-there
part-requires-clause-there c = (unmerge_good c.args.h c.args.self.now (sym c.unmerge_refusal.ensures ∙ c.in_default.is)).0

pub part-requires-clause-merged : goal.part-requires-clause-merged
part-requires-clause-merged c = (unmerge_good c.args.h c.args.self.now (sym c.unmerge_refusal.ensures ∙ c.in_default.is)).1
