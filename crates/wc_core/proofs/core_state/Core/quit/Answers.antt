use Rattle.std.proofs.Common.{subst, true}
use Rattle.wc_core.specs.Contained.{Runs}
use Rattle.wc_core.specs.contracts.core_state.Core.{the_view}
use Rattle.wc_core.specs.CoreView.{CoreView}
use Rattle.wc_core.specs.ServerSteps.{quit_step}
use Rattle.wc_core.proofs.ServerLemmas.{quits, quits-starved}
use Rattle.wc_core.proofs.core_state.Core.quit.Goals as goal

pub returns-then-not-told : goal.returns-then-not-told
returns-then-not-told c =
    let P : CoreView → Type 0 = λ core. Runs core c.starve.new.self quit_step in
    subst P c.self.view_is (quits-starved _ c.starve.new.self c.quit-told.new.self c.seats-seats.ensures.apart c.quit-told.ensures.front c.quit-told.ensures.others c.starve.ensures.counts c.starve.ensures.rises)

pub returns-else-not-told : goal.returns-else-not-told
returns-else-not-told c =
    let before : CoreView = the_view c.self.inside in
    let after : CoreView = record before { servers = c.quit-told.new.self; quits = true } in
    let P : CoreView → Type 0 = λ core. Runs core after quit_step in
    subst P c.self.view_is (quits before c.quit-told.new.self c.seats-seats.ensures.apart (c.quit-told.ensures.told c.if-not-told.false))
