use Rattle.wc_core.specs.Inputs.{taken_at}
use Rattle.wc_servers.specs.Seats.{server_link}
use Rattle.wc_outside.specs.Keyed.{at_key}
use Rattle.wc_core.proofs.FoundLemmas.{refused-starved}
use Rattle.std.proofs.Common.{ap, ◌∙◌}
use Rattle.wc_model.specs.World.{World}
use Rattle.wc_core.proofs.ServedLemmas.{takes-to, takes-refused}
use Rattle.wc_core.proofs.core_state.Core.take_message.Goals as goal

pub returns-in-Ok : goal.returns-in-Ok
returns-in-Ok c =
    rw (← c.self.view_is) (takes-to _ _ c.run_server_acts.new.self c.take.new.self c.buffers-buffers.result.now c.args.link.0 c.args.message.now c.in-Ok.acts c.seats-seats.ensures.apart
    (c.buffers-buffers.ensures ∙ ap (λ (w : World). w.groups) c.world.ensures.world) c.in-Ok.ensures.took c.in-Ok.ensures.others c.run_server_acts.ensures)

pub returns-in-Err : goal.returns-in-Err
returns-in-Err c = rw (← c.self.view_is) (refused-starved _ c.starve.new.self c.take.new.self (λ state. taken_at state c.args.link.0 c.args.message.now (at_key server_link c.args.link.0 state.servers)) (takes-refused _ _ c.take.new.self c.buffers-buffers.result.now c.args.link.0 c.args.message.now c.in-Err.field-0 c.in-Err.ensures.took c.in-Err.ensures.others) c.starve.ensures.counts c.starve.ensures.rises)
