use Rattle.std.proofs.Common.{◌≡◌, ◌∙◌, ap, sym, subst, take}
use Rattle.std.proofs.lemmas.List.{take_more, take_all}
use Rattle.wc_core.specs.CoreView.{CoreView}
use Rattle.wc_turns.specs.Steps.{LosesEach}
use Rattle.wc_turns.proofs.LossLemmas.{LosesEach-none, LosesEach-more}
use Rattle.wc_turns.proofs.connect.lose_each.Goals as goal

pub loop-link-init : goal.loop-link-init
loop-link-init c = record { going = c.requires.going; loses = LosesEach-none c.args.core.now }

pub loop-link-preserved : goal.loop-link-preserved
loop-link-preserved c =
    let e = c.link_gone.ensures in
    let quits : c.link_gone.new.self.quits ≡ c.loop-link.core.quits = ap (λ (v : CoreView). v.quits) e.stays in
    record {
      going = quits ∙ c.loop-link.invariant.going;
      loses = subst (λ links. LosesEach links c.args.core.now c.link_gone.new.self) (sym (take_more c.args.links.now c.loop-link.link-index _ c.loop-link-test.true))
          (LosesEach-more c.args.core.now c.loop-link.core c.link_gone.new.self (take c.loop-link.link-index c.args.links.now) _ c.loop-link.invariant.going c.loop-link.invariant.loses e.does quits e.servers (record { does = e.does; contained = e.contained; counted = e.counts; drops = e.drops }));
    }

pub returns : goal.returns
returns c = subst (λ links. LosesEach links c.args.core.now c.loop-link.core) (take_all c.loop-link.link-index c.args.links.now c.loop-link-test.false) c.loop-link.invariant.loses
