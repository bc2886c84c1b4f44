use Rattle.std.proofs.Common.{ap, ◌∙◌}
use Rattle.wc_model.specs.World.{World}
use Rattle.wc_core.specs.ServerSteps.{server_of, parting_step}
use Rattle.wc_core.proofs.CoreLemmas.{starved_only}
use Rattle.wc_core.proofs.ServedLemmas.{parts-none, parts-found}
use Rattle.wc_core.proofs.core_state.Core.part.Goals as goal

pub returns-in_default : goal.returns-in_default
returns-in_default c = parts-none c.args.self.now c.args.buffer c.in_default.ensures

pub returns-in-Ok : goal.returns-in-Ok
returns-in-Ok c =
    rw (← c.self.view_is) (parts-found _ c.run_acts.new.self c.args.buffer c.buffers-buffers.result.now c.in-Some.seat.now c.link-link.result.0 c.server.result.now c.in-Ok.acts (rw (← c.self.view_is) at c.in-Some.ensures) c.link-link.ensures c.server.ensures
    (c.buffers-buffers.ensures ∙ ap (λ (w : World). w.groups) c.world.ensures.world) c.in-Ok.ensures (rw (← c.self.view_is) at c.run_acts.ensures.does))

pub returns-in-Err : goal.returns-in-Err
returns-in-Err c = starved_only c.args.self.now c.starve.new.self (λ state. parting_step state c.args.buffer (server_of state c.args.buffer)) c.starve.ensures.counts c.starve.ensures.rises
