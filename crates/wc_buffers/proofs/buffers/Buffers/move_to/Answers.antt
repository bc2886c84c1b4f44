use Rattle.std.proofs.Common.{◌∙◌, sym}
use Rattle.wc_buffers.proofs.RefusalLemmas.{move_good}
use Rattle.wc_buffers.proofs.buffers.Buffers.move_to.Goals as goal

pub move_group-requires-clause-there : goal.move_group-requires-clause-there
move_group-requires-clause-there c = (move_good c.args.h c.args.number c.args.self.now (sym c.move_refusal.ensures ∙ c.in_default.is)).0

pub move_group-requires-clause-above : goal.move_group-requires-clause-above
move_group-requires-clause-above c = (move_good c.args.h c.args.number c.args.self.now (sym c.move_refusal.ensures ∙ c.in_default.is)).1

pub move_group-requires-clause-within : goal.move_group-requires-clause-within
move_group-requires-clause-within c = (move_good c.args.h c.args.number c.args.self.now (sym c.move_refusal.ensures ∙ c.in_default.is)).2
