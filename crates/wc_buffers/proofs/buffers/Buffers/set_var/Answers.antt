use Rattle.std.proofs.Common.{◌∙◌, ◌&&◌, ap}
use Rattle.wc_buffers.specs.Calls.{entry_of, is_fixed, is_full, lacks_var}
use Rattle.wc_buffers.proofs.RefusalLemmas.{not_due, set_var_good}
use Rattle.wc_buffers.proofs.buffers.Buffers.set_var.Goals as goal

pub put_var-requires-clause-there : goal.put_var-requires-clause-there
put_var-requires-clause-there c = (set_var_good c.args.h c.args.name.now c.args.self.now (not_due _ c.set_var_refusal.result c.set_var_refusal.ensures c.in_default.is)).0

pub put_var-requires-clause-own : goal.put_var-requires-clause-own
put_var-requires-clause-own c =
    ap is_fixed c.as_slice.ensures
    ∙ (set_var_good c.args.h c.args.name.now c.args.self.now (not_due _ c.set_var_refusal.result c.set_var_refusal.ensures c.in_default.is)).1

pub put_var-requires-clause-room : goal.put_var-requires-clause-room
put_var-requires-clause-room c =
    ap (λ name. lacks_var name (entry_of c.args.h c.args.self.now) && is_full (entry_of c.args.h c.args.self.now)) c.as_slice.ensures
    ∙ (set_var_good c.args.h c.args.name.now c.args.self.now (not_due _ c.set_var_refusal.result c.set_var_refusal.ensures c.in_default.is)).2
