use Rattle.wc_buffers.proofs.RefusalLemmas.{not_due, rename_good}
use Rattle.wc_buffers.proofs.buffers.Buffers.rename.Goals as goal

pub put_full_name-requires-clause-there : goal.put_full_name-requires-clause-there
put_full_name-requires-clause-there c = (rename_good c.args.h c.args.full_name.now c.args.self.now (not_due _ c.rename_refusal.result c.rename_refusal.ensures c.in_default.is)).0

pub put_full_name-requires-clause-fits : goal.put_full_name-requires-clause-fits
put_full_name-requires-clause-fits c = (rename_good c.args.h c.args.full_name.now c.args.self.now (not_due _ c.rename_refusal.result c.rename_refusal.ensures c.in_default.is)).1

pub put_full_name-requires-clause-free : goal.put_full_name-requires-clause-free
put_full_name-requires-clause-free c = (rename_good c.args.h c.args.full_name.now c.args.self.now (not_due _ c.rename_refusal.result c.rename_refusal.ensures c.in_default.is)).2
