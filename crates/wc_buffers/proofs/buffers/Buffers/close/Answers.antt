use Rattle.std.proofs.Common.{◌∙◌, sym}
use Rattle.wc_buffers.proofs.RefusalLemmas.{close_good}
use Rattle.wc_buffers.proofs.buffers.Buffers.close.Goals as goal

pub take-requires : goal.take-requires
take-requires c = close_good c.args.h c.args.self.now (sym c.close_refusal.ensures ∙ c.in_default.is)
