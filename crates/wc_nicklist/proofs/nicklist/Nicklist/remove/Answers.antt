use Rattle.std.proofs.Common.{◌∙◌, sym}
use Rattle.wc_nicklist.proofs.Refusals.{may_remove}
use Rattle.wc_nicklist.proofs.nicklist.Nicklist.remove.Goals as goal

pub take-requires-clause-stands : goal.take-requires-clause-stands
take-requires-clause-stands c = (may_remove c.args.is_group c.args.name.now c.args.self.now.rows (sym c.remove_refusal.ensures ∙ c.in_default.is)).stands

pub take-requires-clause-childless : goal.take-requires-clause-childless
take-requires-clause-childless c = (may_remove c.args.is_group c.args.name.now c.args.self.now.rows (sym c.remove_refusal.ensures ∙ c.in_default.is)).childless
