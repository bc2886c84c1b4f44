use Rattle.std.proofs.Common.{◌∙◌, sym, ap}
use Rattle.wc_nicklist.specs.Calls.{change_refusal}
use Rattle.wc_nicklist.proofs.Refusals.{may_change}
use Rattle.wc_nicklist.proofs.nicklist.Nicklist.change.Goals as goal

pub write-requires-clause-stands : goal.write-requires-clause-stands
write-requires-clause-stands c = may_change c.args.is_group c.args.item.name c.args.self.now.rows (ap (λ n. change_refusal c.args.is_group n c.args.self.now.rows) (sym c.as_slice.ensures) ∙ sym c.change_refusal.ensures ∙ c.in_default.is)
