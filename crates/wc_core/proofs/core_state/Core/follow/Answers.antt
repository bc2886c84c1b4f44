use Rattle.wc_core.specs.Served.{plain_beside}
use Rattle.wc_core.specs.Step.{outcome_step}
use Rattle.wc_core.specs.Contained.{Runs, RunsFor, rest_in}
use Rattle.wc_session.specs.Served.{OnServed}
use Rattle.wc_session.specs.declared.outcome.Outcome.{Outcome}
use Rattle.wc_session.specs.declared.outcome.Outcome.TheVariants as outcome
use Rattle.wc_core.proofs.RunLemmas.{Runs-stays, RunsFor-any}
use Rattle.std.proofs.Common.{List, Some, ◌≤◌, ap, subst, ℕ, ◌⊎◌, inl, inr, sym}
use Rattle.wc_core.specs.CoreView.{CoreView}
use Rattle.wc_core.proofs.CoreLemmas.{client-lost}
use Rattle.wc_core.proofs.core_state.Core.follow.Goals as goal

either : {A B C : Type 0} → A ⊎ B → (A → C) → (B → C) → C
either (inl a) f g = f a
either (inr b) f g = g b

pub lose_client-requires : goal.lose_client-requires
lose_client-requires c = rw c.in-Leave.is at c.requires.opened

pub returns-in-Leave-clause-does : goal.returns-in-Leave-clause-does
returns-in-Leave-clause-does c =
    let opened = rw c.in-Leave.is at c.requires.opened in
    let left = c.lose_client.ensures.leaves in
    let P : ℕ → Type 0 = λ n. c.args.self.now.starved ≤ n in
    rw c.in-Leave.is (client-lost c.args.self.now c.lose_client.new.self c.args.link.0 c.in-Leave.cause opened left (subst P (ap (λ (core : CoreView). core.starved) left) c.lose_client.ensures.rises))

pub returns-in-Replied-clause-does : goal.returns-in-Replied-clause-does
returns-in-Replied-clause-does c =
    let P : Outcome → Type 0 = λ outcome. OnServed outcome (RunsFor (Some c.args.link.0) c.args.self.now c.args.self.now (λ state. outcome_step state c.args.link.0 outcome)) in
    either c.in-Replied.is (λ e. subst P (sym e) (Runs-stays c.args.self.now)) (λ e. subst P (sym e) (Runs-stays c.args.self.now))

pub returns-in-Input-clause-rises : goal.returns-in-Input-clause-rises
returns-in-Input-clause-rises c = (c.run_input.ensures (rest_in c.args.self.now (plain_beside c.args.self.now))).keeps.rises

pub returns-in-Input-clause-does : goal.returns-in-Input-clause-does
returns-in-Input-clause-does c =
    let P : List ℕ → Type 0 = λ text. Runs c.args.self.now c.run_input.new.self (λ state. outcome_step state c.args.link.0 (outcome.Input c.in-Input.buffer text)) in
    rw c.in-Input.is (RunsFor-any (Some c.args.link.0) c.args.self.now c.run_input.new.self (λ state. outcome_step state c.args.link.0 (outcome.Input c.in-Input.buffer c.in-Input.text)) (subst P c.as_slice.ensures c.run_input.ensures))
