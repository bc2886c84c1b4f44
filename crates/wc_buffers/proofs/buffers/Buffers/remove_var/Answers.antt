use Rattle.std.proofs.Common.{◌∙◌, ap}
use Rattle.wc_buffers.specs.Calls.{is_fixed}
use Rattle.wc_buffers.proofs.RefusalLemmas.{not_due, remove_var_good}
use Rattle.wc_buffers.proofs.buffers.Buffers.remove_var.Goals as goal

pub drop_var-requires-clause-there : goal.drop_var-requires-clause-there
drop_var-requires-clause-there c = (remove_var_good c.args.h c.args.name.now c.args.self.now (not_due _ c.remove_var_refusal.result c.remove_var_refusal.ensures c.in_default.is)).0

pub drop_var-requires-clause-own : goal.drop_var-requires-clause-own
drop_var-requires-clause-own c =
    ap is_fixed c.as_slice.ensures
    ∙ (remove_var_good c.args.h c.args.name.now c.args.self.now (not_due _ c.remove_var_refusal.result c.remove_var_refusal.ensures c.in_default.is)).1
