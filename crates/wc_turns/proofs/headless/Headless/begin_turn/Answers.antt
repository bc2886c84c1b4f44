use Rattle.std.proofs.Common.{◌∙◌, ap, sym, subst}
use Rattle.wc_core.specs.Served.{Distinct}
use Rattle.wc_core.specs.CoreView.{CoreView}
use Rattle.wc_core.proofs.DidLemmas.{KeepsClients-trans}
use Rattle.wc_turns.specs.declared.headless.Headless.{Headless}
use Rattle.wc_turns.proofs.LossLemmas.{stays-further}
use Rattle.wc_turns.proofs.WakeLemmas.{aside-after}
use Rattle.wc_turns.proofs.headless.Headless.begin_turn.Goals as goal

pub returns-clause-begins : goal.returns-clause-begins
returns-clause-begins c =
    let x = c.args.self.now in
    let w = c.wake_core.new.self in
    let y = c.lose_refused.new.self in
    let woke = c.wake_core.ensures in
    let lost = c.lose_refused.ensures in
    let r = woke.rest in
    let refused = ap (λ (h : Headless). h.refused.items) r in
    let unlisted = ap (λ (h : Headless). h.unlisted) r in
    record {
      keeps = KeepsClients-trans x.core w.core y.core woke.takes.keeps lost.keeps;
      takes = rw (refused, unlisted) at (aside-after x.core w.core y.core w.refused.items w.unlisted x.ran w.ran y.ran c.args.moment x.clock c.requires.going woke.takes woke.ran lost.keeps lost.quits lost.takes);
      causes = λ distinct k out. stays-further _ _ _ (woke.causes.causes distinct k) (lost.causes (subst Distinct (sym woke.takes.keeps.links) distinct) k (rw refused out));
      used = lost.used ∙ ap (λ (h : Headless). h.used) r;
      idle = λ none none'. lost.wanted ∙ ap (λ (v : CoreView). v.servers.wanted) (woke.idle (lost.counts none')) ∙ none;
      listening = lost.listening ∙ ap (λ (h : Headless). h.listening) r;
      opened = ap (λ l. l.opened.items) (lost.links ∙ ap (λ (h : Headless). h.links) r) ∙ ap (λ v. v.items) c.begin_turn.ensures.opened;
      turns = lost.turns ∙ ap (λ (h : Headless). h.turns) r ∙ c.saturating_add-self.ensures;
      clock = lost.clock ∙ woke.clock;
      refused = lost.refused;
      unlisted = lost.unlisted;
    }
