use Rattle.std.proofs.Common.{◌∙◌, is_some, ap}
use Rattle.wc_buffers.specs.Calls.{is_there}
use Rattle.wc_model.specs.World.{World}
use Rattle.wc_world.proofs.There.{there_by_row}
use Rattle.wc_core.specs.CoreView.{CoreView}
use Rattle.wc_core.proofs.core_state.Core.has_buffer.Goals as goal

pub returns-in-Some : goal.returns-in-Some
returns-in-Some c =
    ap is_some c.in-Some.ensures ∙ there_by_row c.args.buffer c.buffers.result.now ∙ ap (λ groups. is_there c.args.buffer groups) c.buffers.ensures
    ∙ ap (λ (w : World). is_there c.args.buffer w.groups) c.world.ensures.world ∙ ap (λ (core : CoreView). is_there c.args.buffer core.world.groups) c.self.view_is

pub returns-in-None : goal.returns-in-None
returns-in-None c =
    ap is_some c.in-None.ensures ∙ there_by_row c.args.buffer c.buffers.result.now ∙ ap (λ groups. is_there c.args.buffer groups) c.buffers.ensures
    ∙ ap (λ (w : World). is_there c.args.buffer w.groups) c.world.ensures.world ∙ ap (λ (core : CoreView). is_there c.args.buffer core.world.groups) c.self.view_is
