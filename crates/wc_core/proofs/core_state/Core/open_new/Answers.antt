use Rattle.std.proofs.Common.{ap, ◌∙◌, is_some}
use Rattle.wc_buffers.specs.Calls.{EntryGroups, handle_of_name}
use Rattle.wc_model.specs.World.{World}
use Rattle.wc_core.specs.CoreView.{CoreView}
use Rattle.wc_core.proofs.FoundLemmas.{opens-not, opens-new}
use Rattle.wc_core.proofs.core_state.Core.open_new.Goals as goal

pub returns-then-is_some-clause-does : goal.returns-then-is_some-clause-does
returns-then-is_some-clause-does c =
    let groups = c.buffers.ensures ∙ ap (λ (w : World). w.groups) c.world.ensures.world ∙ ap (λ (core : CoreView). core.world.groups) c.self.view_is in
    let found = c.find.ensures ∙ ap (λ name. handle_of_name name c.buffers.result.now) c.as_slice.ensures ∙ ap (λ (groups : EntryGroups). handle_of_name c.args.spec.full_name groups) groups in
    opens-not c.args.self.now c.args.spec c.is_some.result (c.is_some.ensures ∙ ap is_some found) c.if-is_some.true

pub returns-clause-does : goal.returns-clause-does
returns-clause-does c =
    let groups = c.buffers.ensures ∙ ap (λ (w : World). w.groups) c.world.ensures.world ∙ ap (λ (core : CoreView). core.world.groups) c.self.view_is in
    let found = c.find.ensures ∙ ap (λ name. handle_of_name name c.buffers.result.now) c.as_slice.ensures ∙ ap (λ (groups : EntryGroups). handle_of_name c.args.spec.full_name groups) groups in
    opens-new c.args.self.now c.open.new.self c.args.spec c.is_some.result (c.is_some.ensures ∙ ap is_some found) c.if-is_some.false c.open.ensures.does
