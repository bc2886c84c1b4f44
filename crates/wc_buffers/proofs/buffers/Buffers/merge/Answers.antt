use Rattle.std.proofs.Common.{◌∙◌, sym}
use Rattle.wc_buffers.proofs.RefusalLemmas.{merge_good}
use Rattle.wc_buffers.proofs.buffers.Buffers.merge.Goals as goal

pub append-requires-clause-there : goal.append-requires-clause-there
append-requires-clause-there c = (merge_good c.args.h c.args.into c.args.self.now (sym c.merge_refusal.ensures ∙ c.in_default.is)).0

pub append-requires-clause-target : goal.append-requires-clause-target
append-requires-clause-target c = (merge_good c.args.h c.args.into c.args.self.now (sym c.merge_refusal.ensures ∙ c.in_default.is)).1

pub append-requires-clause-apart : goal.append-requires-clause-apart
append-requires-clause-apart c = (merge_good c.args.h c.args.into c.args.self.now (sym c.merge_refusal.ensures ∙ c.in_default.is)).2
