use Rattle.std.proofs.Common.{◌≡◌, ◌∙◌, true, false, inl, ap, map, sym, subst, arith, refl, length}
use Rattle.wc_core.proofs.DidLemmas.{KeepsClients-refl}
use Rattle.wc_turns.specs.Events.{loss_of}
use Rattle.wc_turns.specs.Steps.{LosesEach}
use Rattle.wc_turns.proofs.LossLemmas.{lost-over, lost-all}
use Rattle.wc_turns.proofs.headless.Headless.lose_refused.Goals as goal

pub returns-then-quits : goal.returns-then-quits
returns-then-quits c =
    let old = c.args.self.now in
    let over : old.core.quits ≡ true = sym c.quits.ensures ∙ c.if-quits.true in
    record {
      keeps = KeepsClients-refl old.core;
      quits = refl;
      wanted = refl;
      none = λ e. refl;
      takes = λ lost but size. lost-over old.core old.refused.items old.ran over (map loss_of lost);
      causes = λ distinct k out. inl refl;
      counts = λ e. e;
      refused = ap (λ v. v.items) c.replace-refused.ensures.after ∙ c.new.ensures.items;
      unlisted = c.replace-unlisted.ensures.after;
      used = refl;
      listening = refl;
      links = refl;
      turns = refl;
      clock = refl;
    }

pub returns : goal.returns
returns c =
    let old = c.args.self.now in
    let n : c.replace-unlisted.result ≡ old.unlisted = c.replace-unlisted.ensures.value in
    let links : c.as_slice.result.now ≡ old.refused.items = c.as_slice.ensures.value ∙ ap (λ v. v.items) c.replace-refused.ensures.value in
    let each : LosesEach old.refused.items old.core c.lose_each.new.core = subst (λ ls. LosesEach ls old.core c.lose_each.new.core) links c.lose_each.ensures in
    let going : old.core.quits ≡ false = sym c.quits.ensures ∙ c.if-quits.false in
    record {
      keeps = each.keeps;
      quits = each.quits;
      wanted = each.wanted;
      none = each.none;
      takes = λ lost but size. lost-all old.core c.lose_each.new.core old.refused.items old.unlisted old.ran c.saturating_add-self.result going each
          (let a = c.saturating_add-self.ensures in let b = c.saturating_add.ensures in let l = c.len-listed.ensures in let s = ap (λ v. length v.items) c.replace-refused.ensures.value in omega arith) lost but size;
      causes = each.causes;
      counts = λ e. (let a = c.saturating_add-self.ensures in let b = c.saturating_add.ensures in omega arith);
      refused = ap (λ v. v.items) c.replace-refused.ensures.after ∙ c.new.ensures.items;
      unlisted = c.replace-unlisted.ensures.after;
      used = refl;
      listening = refl;
      links = refl;
      turns = refl;
      clock = refl;
    }
