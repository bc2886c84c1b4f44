use Rattle.std.proofs.Common.{IfOk, ap, subst, ◌∙◌}
use Rattle.wc_buffers.specs.Calls.{EntryGroups}
use Rattle.wc_model.specs.World.{World}
use Rattle.wc_core.specs.CoreView.{CoreView}
use Rattle.wc_core.specs.EvaluatedSeen.{IsAround}
use Rattle.wc_core.proofs.EvalLemmas.{around_text, ok-as}
use Rattle.wc_core.proofs.core_state.Core.around.Goals as goal

pub returns-clause-is : goal.returns-clause-is
returns-clause-is c =
    let P : EntryGroups → Type 0 = λ groups. IfOk c.of.result (IsAround groups c.args.buffer) in
    subst P (c.buffers-buffers.ensures ∙ ap (λ (w : World). w.groups) c.world.ensures.world ∙ ap (λ (core : CoreView). core.world.groups) c.self.view_is) c.of.ensures

pub returns-clause-texts : goal.returns-clause-texts
returns-clause-texts c = ok-as _ _ c.of.result (λ around is. around_text c.buffers-buffers.result.now c.args.buffer c.args.self.now.options around c.groups-texts.ensures.held is) c.of.ensures
