use Rattle.std.proofs.Common.{◌≡◌, [], List, sym, subst, ◌∙◌}
use Rattle.std.specs.Vec.Iter.{into_iter_items}
use Rattle.wc_irc.specs.declared.act.Act.{Act}
use Rattle.wc_core.specs.ServerSteps.{act_step, acts_step}
use Rattle.wc_core.proofs.ChainLemmas.{Runs-then, Runs-cut}
use Rattle.std.proofs.lemmas.List.{nil_from_length}
use Rattle.wc_core.proofs.DidLemmas.{ChangesServers-trans}
use Rattle.wc_core.proofs.ServedLemmas.{shut-then}
use Rattle.wc_core.proofs.ServerCloses.{act-closes, acts-closes}
use Rattle.wc_core.proofs.core_state.Core.run_each.Goals as goal
use Rattle.wc_core.specs.Contained.{Runs}
use Rattle.wc_core.proofs.RunLemmas.{Runs-stays}

pub returns-then-run_one-clause-does : goal.returns-then-run_one-clause-does
returns-then-run_one-clause-does c =
    let a = c.loop-act.self in
    let b = c.run_one.new.self in
    let tells = c.args.tells in
    let link = c.args.link.0 in
    let item = c.in-Some.act in
    let P : List Act → Type 0 = λ acts. Runs a b (λ state. acts_step tells link state acts) in
    c.loop-act.invariant.onward b (subst P (sym c.in-Some.ensures.steps.0)
    (Runs-cut a b (λ state. act_step tells link state item) (λ state. acts_step tells link state (into_iter_items c.next.new.self)) (λ j state. act-closes j tells link state item) (c.run_one.ensures.cut c.if-run_one.true) c.run_one.ensures.does))

pub returns-then-run_one-clause-stays : goal.returns-then-run_one-clause-stays
returns-then-run_one-clause-stays c = ChangesServers-trans c.args.self.now c.loop-act.self c.run_one.new.self c.loop-act.invariant.stays c.run_one.ensures.stays

pub returns-then-run_one-clause-shut : goal.returns-then-run_one-clause-shut
returns-then-run_one-clause-shut c = shut-then c.args.self.now.servers c.loop-act.self.servers c.run_one.new.self.servers c.args.link.0 c.loop-act.invariant.shut c.run_one.ensures.shut

pub loop-act-preserved : goal.loop-act-preserved
loop-act-preserved c =
    let a = c.loop-act.self in
    let b = c.run_one.new.self in
    let tells = c.args.tells in
    let link = c.args.link.0 in
    let item = c.in-Some.act in
    let rest = into_iter_items c.next.new.self in
    record {
      onward = λ final more.
          let P : List Act → Type 0 = λ acts. Runs a final (λ state. acts_step tells link state acts) in
          c.loop-act.invariant.onward final (subst P (sym c.in-Some.ensures.steps.0)
          (Runs-then a b final (λ state. act_step tells link state item) (λ state. acts_step tells link state rest) (λ j state. act-closes j tells link state item) (λ j state. acts-closes j tells link state rest) (c.run_one.ensures.uncut c.if-run_one.false) c.run_one.ensures.does more));
      stays = ChangesServers-trans c.args.self.now a b c.loop-act.invariant.stays c.run_one.ensures.stays;
      shut = shut-then c.args.self.now.servers a.servers b.servers link c.loop-act.invariant.shut c.run_one.ensures.shut;
    }

pub returns-clause-does : goal.returns-clause-does
returns-clause-does c =
    let a = c.loop-act.self in
    let it = c.loop-act.act-iterator in
    let none : into_iter_items it ≡ [] = nil_from_length (into_iter_items it) (sym it.rest.ok.0 ∙ c.in-None.ensures.steps.0) in
    let P : List Act → Type 0 = λ acts. Runs a a (λ state. acts_step c.args.tells c.args.link.0 state acts) in
    c.loop-act.invariant.onward a (subst P (sym none) (Runs-stays a))

pub returns-clause-stays : goal.returns-clause-stays
returns-clause-stays c = c.loop-act.invariant.stays

pub returns-clause-shut : goal.returns-clause-shut
returns-clause-shut c = c.loop-act.invariant.shut
