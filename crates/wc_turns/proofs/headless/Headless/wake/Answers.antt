use Rattle.std.proofs.Common.{refl, inl, sym, ap, ◌∙◌, take, is_some, arith, subst, All}
use Rattle.std.proofs.lemmas.List.Elements.{All-nil}
use Rattle.wc_outside.specs.Keyed.{at_key}
use Rattle.wc_turns.specs.Links.{link_number}
use Rattle.wc_turns.specs.Turns.{HasCause}
use Rattle.wc_turns.proofs.SourceLemmas.{TakesNothing-trans}
use Rattle.wc_turns.proofs.TurnLemmas.{LoopStep-ask, LoopStep-step, LoopStep-joined}
use Rattle.wc_turns.proofs.WaitLemmas.{Nothing-woke, Nothing-none, LoopStep-unwoken, unwoken-loses, MayWait-timeout}
use Rattle.wc_turns.proofs.WakeLemmas.{LoopStep-woke, woke-causes, woken-causes, woken-closed, woken-loses, woken-saves}
use Rattle.wc_turns.proofs.headless.Headless.wake.Goals as goal

pub settle-requires-clause-agrees : goal.settle-requires-clause-agrees
settle-requires-clause-agrees g c =
    let e = c.in-Ok.ensures in
    let seen = g.S.Sockets.seen in
    let begins = c.begin_turn.ensures.begins in
    let reports = c.report.ensures in
    let woke = LoopStep-woke c.args.self.now c.begin_turn.new.self c.report.new.self (seen c.args.sockets.now) (seen c.wait.new.self) c.in-Ok.moment (take c.wait.new.ready.count c.wait.new.ready.tokens)
    (record { told = e.told; taken = e.taken; asked = e.asked; counts = e.counts }) e.sent e.choked e.asked e.used e.there e.undrained e.listening e.freed e.tokens c.requires.going c.requires.calm begins reports (reports.refused ∙ begins.refused) (reports.unlisted ∙ begins.unlisted) (reports.closed ∙ c.begin_turn.ensures.closed) in
    woke.agrees c.requires.agrees

pub returns-in-Ok-clause-woken : goal.returns-in-Ok-clause-woken
unfolding LoopStep-woke LoopStep-step LoopStep-ask
returns-in-Ok-clause-woken g c =
    let e = c.in-Ok.ensures in
    let seen = g.S.Sockets.seen in
    let begins = c.begin_turn.ensures.begins in
    let reports = c.report.ensures in
    let parts = c.settle.ensures in
    let x = c.args.self.now in
    let y = c.begin_turn.new.self in
    let z = c.report.new.self in
    let w = c.settle.new.headless in
    let tokens = take c.wait.new.ready.count c.wait.new.ready.tokens in
    let empty = reports.closed ∙ c.begin_turn.ensures.closed in
    let woke = LoopStep-woke x y z (seen c.args.sockets.now) (seen c.wait.new.self) c.in-Ok.moment tokens
    (record { told = e.told; taken = e.taken; asked = e.asked; counts = e.counts }) e.sent e.choked e.asked e.used e.there e.undrained e.listening e.freed e.tokens c.requires.going c.requires.calm begins reports (reports.refused ∙ begins.refused) (reports.unlisted ∙ begins.unlisted) empty in
    let joined = LoopStep-joined x z w (seen c.args.sockets.now) (seen c.wait.new.self) (seen c.settle.new.sockets) woke parts.continues in
    let rises = begins.keeps.rises in
    let same = ap (λ s. s.starved) reports.core in
    record {
      continues = joined.0;
      closed = λ still below. woken-closed z w parts.continues.closed empty parts.settles.calm (parts.continues.grows refl (woke.agrees c.requires.agrees) (let p = parts.continues.rises in omega arith) (let p = parts.continues.rises in omega arith)) ∙ sym joined.1;
      calm = parts.settles.calm;
      rises = (let p = parts.settles.contained.rises in omega arith);
      loses = woken-loses x y z w c.in-Ok.moment tokens begins reports parts.settles.contained;
      causes = λ s. woken-causes x z w (seen c.args.sockets.now) (seen c.wait.new.self) (seen c.settle.new.sockets) woke s parts.continues empty (woke-causes x z y (seen c.args.sockets.now) (seen c.wait.new.self) c.in-Ok.moment tokens c.requires.calm begins reports e.taken s) parts.settles.calm;
      saves = woken-saves x y z w c.in-Ok.moment tokens begins reports (parts.continues.saves refl (woke.agrees c.requires.agrees));
      nothing = TakesNothing-trans (seen c.args.sockets.now) (seen c.wait.new.self) (seen c.settle.new.sockets) parts.continues.told (Nothing-woke (seen c.args.sockets.now) (seen c.wait.new.self) c.in-Ok.moment e.taken) parts.settles.nothing;
    }

pub returns-in-Err-clause-failed : goal.returns-in-Err-clause-failed
unfolding LoopStep-unwoken LoopStep-step LoopStep-ask
returns-in-Err-clause-failed g c =
    let e = c.in-Err.ensures in
    let seen = g.S.Sockets.seen in
    let closed = c.begin_turn-in-Err.ensures.closed in
    record {
      continues = LoopStep-unwoken c.args.self.now (record c.args.self.now { links = c.begin_turn-in-Err.new.self }) (seen c.args.sockets.now) (seen c.wait.new.self) refl refl refl refl refl refl refl refl (ap (λ v. v.items) c.begin_turn-in-Err.ensures.opened) closed c.requires.calm
          (record { told = e.told; taken = e.taken; asked = e.asked; counts = e.counts }) e.sent e.choked e.asked (record { used = e.used; there = e.there; undrained = e.undrained_as_before; blocked = e.blocked_as_before; listening = e.listening_as_before });
      closed = λ still below. closed;
      calm = c.requires.calm;
      rises = omega arith;
      loses = unwoken-loses c.args.self.now (record c.args.self.now { links = c.begin_turn-in-Err.new.self }) refl (λ k. ap (λ v. is_some (at_key link_number k v.items)) c.begin_turn-in-Err.ensures.opened);
      causes = λ s. subst (All (HasCause c.args.self.now (record c.args.self.now { links = c.begin_turn-in-Err.new.self }) (seen c.args.sockets.now) (seen c.wait.new.self))) (sym closed) (All-nil (HasCause c.args.self.now (record c.args.self.now { links = c.begin_turn-in-Err.new.self }) (seen c.args.sockets.now) (seen c.wait.new.self)));
      saves = inl (refl, refl);
      nothing = Nothing-none (seen c.args.sockets.now) (seen c.wait.new.self) e.taken;
    }

pub wait-requires : goal.wait-requires
wait-requires g c = rw c.timeout.ensures (MayWait-timeout c.args.self.now _ c.requires.agrees c.requires.going)
