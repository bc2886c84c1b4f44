use Rattle.std.proofs.Common.{◌≡◌, ap, sym, ◌∙◌}
use Rattle.wc_core.specs.CoreView.{CoreView}
use Rattle.wc_core.specs.ServerSteps.{before_step}
use Rattle.wc_core.specs.Step.{ask_step}
use Rattle.wc_core.proofs.ChainLemmas.{Runs-then, Runs-cut}
use Rattle.wc_core.proofs.ChangeCloses.{asks-closes}
use Rattle.wc_core.proofs.ServerCloses.{before-closes}
use Rattle.wc_core.proofs.core_state.Core.ask_after_part.Goals as goal

pub returns-then-self-cuts : goal.returns-then-self-cuts
returns-then-self-cuts c =
    let following : c.self-2.inside.cuts ≡ c.part_before.new.self.cuts = ap (λ (core : CoreView). core.cuts) c.self-2.view_is in
    let before : c.self.inside.cuts ≡ c.args.self.now.cuts = ap (λ (core : CoreView). core.cuts) c.self.view_is in
    Runs-cut c.args.self.now c.part_before.new.self (λ state. before_step state c.args.change) (λ next. ask_step next c.args.change) (λ j state. before-closes j state c.args.change)
    (λ same. c.if-self-cuts.true (following ∙ same ∙ sym before)) c.part_before.ensures

pub returns : goal.returns
returns c =
    let following : c.self-2.inside.cuts ≡ c.part_before.new.self.cuts = ap (λ (core : CoreView). core.cuts) c.self-2.view_is in
    let before : c.self.inside.cuts ≡ c.args.self.now.cuts = ap (λ (core : CoreView). core.cuts) c.self.view_is in
    Runs-then c.args.self.now c.part_before.new.self c.ask_change.new.self (λ state. before_step state c.args.change) (λ next. ask_step next c.args.change) (λ j state. before-closes j state c.args.change) (λ j state. asks-closes j state c.args.change)
    (sym following ∙ c.if-self-cuts.false ∙ before) c.part_before.ensures c.ask_change.ensures.does
