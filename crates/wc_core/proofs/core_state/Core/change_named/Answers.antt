use Rattle.std.proofs.Common.{ap, ◌∙◌}
use Rattle.wc_model.specs.World.{World}
use Rattle.wc_buffers.specs.Calls.{handle_of_name}
use Rattle.wc_core.proofs.ActLemmas.{passes-none}
use Rattle.wc_core.proofs.core_state.Core.change_named.Goals as goal

pub returns-in-None-clause-does : goal.returns-in-None-clause-does
returns-in-None-clause-does c =
    rw (← c.self.view_is) (passes-none _ c.args.tells c.args.what _ (c.in-None.ensures ∙ ap (handle_of_name c.as_slice.result.now) (c.buffers.ensures ∙ ap (λ (w : World). w.groups) c.world.ensures.world) ∙ ap (λ name. handle_of_name name c.self.inside.board.world.groups) c.as_slice.ensures))
