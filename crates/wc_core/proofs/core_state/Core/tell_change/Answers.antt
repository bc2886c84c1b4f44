use Rattle.std.proofs.Common.{refl}
use Rattle.wc_core.specs.Changing.{refused}
use Rattle.wc_core.specs.ServerSteps.{told_step_if}
use Rattle.wc_core.proofs.PushLemmas.{Runs-over}
use Rattle.wc_core.proofs.CoreLemmas.{starved_only}
use Rattle.wc_core.proofs.ActLemmas.{tells-made, tells-refused}
use Rattle.wc_core.proofs.core_state.Core.tell_change.Goals as goal

pub returns-in_default-clause-does : goal.returns-in_default-clause-does
returns-in_default-clause-does c = tells-made c.args.self.now c.change.new.self c.args.change (c.in_default.ensures.made refl)

pub returns-in-Ok-clause-does : goal.returns-in-Ok-clause-does
returns-in-Ok-clause-does c = tells-refused c.args.self.now c.change.new.self c.say.new.self c.args.change c.in-Some.reason c.in-Ok.text c.in-Some.ensures.refused c.in-Ok.ensures c.say.ensures.does

pub returns-clause-does : goal.returns-clause-does
returns-clause-does c =
    Runs-over c.args.self.now c.change.new.self c.starve.new.self (λ state. told_step_if state c.args.change (refused state c.args.change)) c.in-Some.ensures.refused.stays c.in-Some.ensures.refused.touches
    (starved_only c.change.new.self c.starve.new.self (λ state. told_step_if state c.args.change (refused state c.args.change)) c.starve.ensures.counts c.starve.ensures.rises)
