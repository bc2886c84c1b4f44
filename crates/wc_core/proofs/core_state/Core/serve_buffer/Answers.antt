use Rattle.std.proofs.Common.{ap, ◌∙◌}
use Rattle.wc_model.specs.World.{World}
use Rattle.wc_core.specs.CoreView.{CoreView}
use Rattle.wc_core.proofs.FoundLemmas.{types-linked, types-unlinked}
use Rattle.wc_core.proofs.core_state.Core.serve_buffer.Goals as goal

pub returns-in-Some : goal.returns-in-Some
returns-in-Some c =
    types-linked c.args.self.now c.run_typed.new.self c.args.buffer c.args.line.now c.in-Some.seat.now c.link-link.result.0 c.server.result.now c.buffers-buffers.result.now c.on_command-acts.result c.in-Some.ensures c.link-link.ensures c.server.ensures
    (c.buffers-buffers.ensures ∙ ap (λ (w : World). w.groups) c.world.ensures.world ∙ ap (λ (core : CoreView). core.world.groups) c.self.view_is) c.on_command-acts.ensures.acts c.run_typed.ensures.found c.run_typed.ensures.starves

pub returns-in-None : goal.returns-in-None
returns-in-None c =
    types-unlinked c.args.self.now c.run_typed-in-None.new.self c.args.buffer c.args.line.now c.buffers-buffers.result.now c.on_command_unlinked-acts.result c.in-None.ensures
    (c.buffers-buffers.ensures ∙ ap (λ (w : World). w.groups) c.world.ensures.world ∙ ap (λ (core : CoreView). core.world.groups) c.self.view_is) c.on_command_unlinked-acts.ensures c.run_typed-in-None.ensures.found c.run_typed-in-None.ensures.starves
