use Rattle.std.proofs.Common.{◌≡◌, List, Option, ap, sym, subst, ◌∙◌}
use Rattle.wc_text.specs.declared.names.Cause.{Cause}
use Rattle.wc_irc.specs.declared.act.Act.{Act}
use Rattle.wc_core.specs.CoreView.{CoreView}
use Rattle.wc_core.specs.ServerSteps.{acts_step, leave_in, loss_step_if}
use Rattle.wc_core.proofs.ChainLemmas.{Runs-then, Runs-cut}
use Rattle.wc_core.proofs.ServerCloses.{acts-closes, loss_if-closes}
use Rattle.wc_core.proofs.core_state.Core.run_server_acts.Goals as goal
use Rattle.wc_core.specs.Contained.{Runs}

pub returns-then-self-cuts : goal.returns-then-self-cuts
returns-then-self-cuts c =
    let tells = c.args.tells in
    let link = c.args.link.0 in
    let following : c.self-2.inside.cuts ≡ c.run_acts.new.self.cuts = ap (λ (core : CoreView). core.cuts) c.self-2.view_is in
    let before : c.self.inside.cuts ≡ c.args.self.now.cuts = ap (λ (core : CoreView). core.cuts) c.self.view_is in
    Runs-cut c.args.self.now c.run_acts.new.self (λ state. acts_step tells link state c.args.acts) (λ next. loss_step_if link next (leave_in c.args.acts)) (λ j state. acts-closes j tells link state c.args.acts)
    (λ same. c.if-self-cuts.true (following ∙ same ∙ sym before)) c.run_acts.ensures.does

pub returns : goal.returns
returns c =
    let tells = c.args.tells in
    let link = c.args.link.0 in
    let following : c.self-2.inside.cuts ≡ c.run_acts.new.self.cuts = ap (λ (core : CoreView). core.cuts) c.self-2.view_is in
    let before : c.self.inside.cuts ≡ c.args.self.now.cuts = ap (λ (core : CoreView). core.cuts) c.self.view_is in
    let Q : Option Cause → Type 0 = λ o. Runs c.run_acts.new.self c.lose_if.new.self (λ state. loss_step_if link state o) in
    let R : List Act → Type 0 = λ acts. Runs c.run_acts.new.self c.lose_if.new.self (λ state. loss_step_if link state (leave_in acts)) in
    Runs-then c.args.self.now c.run_acts.new.self c.lose_if.new.self (λ state. acts_step tells link state c.args.acts) (λ next. loss_step_if link next (leave_in c.args.acts)) (λ j state. acts-closes j tells link state c.args.acts)
    (λ j state. loss_if-closes j link state (leave_in c.args.acts)) (sym following ∙ c.if-self-cuts.false ∙ before) c.run_acts.ensures.does (subst R c.as_slice.ensures (subst Q c.leave_in-cause.ensures c.lose_if.ensures))
