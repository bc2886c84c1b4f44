use Rattle.std.proofs.Common.{◌≡◌, ◌+◌, ap, refl, sym, ◌∙◌, subst, false, arith}
use Rattle.wc_turns.specs.declared.turn.TurnEnd.TheVariants.{GoOn}
use Rattle.wc_turns.specs.Saves.{SavesTurn}
use Rattle.wc_turns.specs.Turns.{LoopStep, TurnStep, waits_then}
use Rattle.wc_turns.proofs.CloseLemmas.{LoopStep-refl}
use Rattle.wc_turns.proofs.TurnLemmas.{LoopStep-wider}
use Rattle.wc_core.specs.CoreView.{CoreView}
use Rattle.wc_outside.specs.Faults.{Rose}
use Rattle.wc_loop.proofs.HeadlineLemmas.{calm-first}
use Rattle.wc_loop.proofs.ProgramLemmas.{LoopStep-turn, Rose-before, waits-few, unwoken-by, woke-once, unwaited}
use Rattle.wc_loop.proofs.run.take_turns.Goals as goal

pub loop-init : goal.loop-init
loop-init g c = record {
  continues = LoopStep-wider _ _ _ _ (LoopStep-refl _ _);
  agrees = c.requires.agrees;
  calm = calm-first c.args.headless.now c.requires.first;
  going = c.requires.first.quits;
  causes = λ above. (let none = c.requires.first.turns in absurd (omega arith));
  served = λ one. absurd (omega arith);
  written = c.requires.first.unwritten;
  saves = λ first had. had;
  unsaved = λ none. c.requires.first.saved;
  unwoken = λ none. refl;
  unasked = λ none t. refl;
  faults = refl;
  count = c.requires.first.turns;
}

pub returns-in_default : goal.returns-in_default
returns-in_default g c =
    let i = c.loop.invariant in
    let e = c.turn.ensures in
    let below = c.loop.auto.counter-end in
    let seen = g.S.Sockets.seen in
    let few = waits-few c.turn.result in
    let turns : c.turn.new.self.turns ≡ c.loop.headless.turns + waits_then c.turn.result = (let n = i.count in e.continues.step.turns (omega arith)) in
    record {
      continues = record { faults = e.continues.faults; fits = e.continues.fits; step = LoopStep-turn c.turn.result e.continues.faults c.loop.counter c.args.headless.now c.loop.headless c.turn.new.self (seen c.args.sockets.now) (seen c.loop.sockets) (seen c.turn.new.sockets) i.count (omega arith) i.continues e.continues.step };
      agrees = e.agrees;
      calm = e.calm;
      causes = λ above. record { earlier = c.loop.headless; seen = seen c.loop.sockets; end = c.turn.result; waits = c.loop.counter; until = i.continues; agrees = i.agrees; calm = i.calm; turn = e.continues; causes = e.causes; closes = e.closes };
      served = λ q. absurd (c.in_default.not-GoOn q);
      sent = λ q. record {
        earlier = c.loop.headless;
        seen = seen c.loop.sockets;
        told = i.continues.told;
        gained = i.continues.gained;
        taken = i.continues.taken;
        agrees = i.agrees;
        turn = subst (λ end. TurnStep end c.loop.headless c.turn.new.self (seen c.loop.sockets) (seen c.turn.new.sockets)) q e.continues;
        did = e.sent q;
      };
      quit = e.quit;
      going = λ quit listen keeper. unwoken-by c.turn.result _ c.in_default.not-GoOn quit listen keeper e.unwoken;
      all = λ q. absurd (c.in_default.not-GoOn q);
      fewer = λ q full. (let w = ap waits_then q in let n = i.count in omega arith);
      some = λ q. (let w = woke-once c.turn.result q in let n = i.count in omega arith);
      most = (let n = i.count in omega arith);
      wait_fault = λ q. Rose-before _ _ _ i.continues.counts.waits (e.wait_fault q);
      listen_fault = λ q. Rose-before _ _ _ i.continues.counts.listens (e.listen_fault q);
      saves = λ kept first had. e.saves kept first (i.saves first had);
      unsaved = λ none.
          let zero : c.loop.headless.turns ≡ 0 = omega arith in
          let unwoken : waits_then c.turn.result ≡ 0 = omega arith in
          ap (λ (core : CoreView). core.saved) (e.unsaved (unwaited c.turn.result unwoken)) ∙ i.unsaved zero;
      unwoken = λ none.
          let zero : c.loop.headless.turns ≡ 0 = omega arith in
          let unwoken : waits_then c.turn.result ≡ 0 = omega arith in
          e.unwritten (unwaited c.turn.result unwoken) ∙ i.unwoken zero;
      unasked = λ none t.
          let zero : c.loop.headless.turns ≡ 0 = omega arith in
          let unwoken : waits_then c.turn.result ≡ 0 = omega arith in
          e.unasked (unwaited c.turn.result unwoken) t ∙ i.unasked zero (e.continues.step.told t);
      unwritten = λ q. record {
        earlier = c.loop.headless;
        seen = seen c.loop.sockets;
        waits = c.loop.counter;
        until = i.continues;
        agrees = i.agrees;
        calm = i.calm;
        turn = subst (λ end. TurnStep end c.loop.headless c.turn.new.self (seen c.loop.sockets) (seen c.turn.new.sockets)) q e.continues;
        saves = subst (λ kept. SavesTurn c.args.headless.now.core c.loop.headless.core (g.K.Keeper.contents c.args.keeper.now) kept) (sym (e.kept q)) i.saves;
      };
      keeper_fault = λ q. subst (λ n. Rose n (g.K.Keeper.faults c.turn.new.keeper)) i.faults (e.keeper_fault q);
    }

pub loop-preserved : goal.loop-preserved
loop-preserved g c =
    let i = c.loop.invariant in
    let e = c.in-GoOn.ensures in
    let below = c.loop.auto.counter-end in
    let seen = g.S.Sockets.seen in
    let count : c.turn.new.self.turns ≡ c.loop.counter + 1 = (let n = i.count in let t = e.continues.step.turns (omega arith) in omega arith) in
    record {
      continues = subst (λ n. LoopStep false n 0 c.args.headless.now c.turn.new.self (seen c.args.sockets.now) (seen c.turn.new.sockets)) count
          (LoopStep-turn GoOn 0 c.loop.counter c.args.headless.now c.loop.headless c.turn.new.self (seen c.args.sockets.now) (seen c.loop.sockets) (seen c.turn.new.sockets) i.count (omega arith) i.continues (subst (λ n. LoopStep false 1 n c.loop.headless c.turn.new.self (seen c.loop.sockets) (seen c.turn.new.sockets)) e.continues.fits e.continues.step));
      agrees = e.agrees;
      calm = e.calm;
      going = e.goes_on refl;
      causes = λ above. record { earlier = c.loop.headless; seen = seen c.loop.sockets; end = GoOn; waits = c.loop.counter; until = i.continues; agrees = i.agrees; calm = i.calm; turn = e.continues; causes = e.causes; closes = e.closes };
      served = λ one. record { earlier = c.loop.headless; seen = seen c.loop.sockets; told = i.continues.told; gained = i.continues.gained; taken = i.continues.taken; agrees = i.agrees; turn = e.continues; did = e.served refl };
      written = e.written (λ q. cc);
      saves = λ first had. e.saves (λ q. cc) first (i.saves first had);
      unsaved = λ none. absurd (omega arith);
      unwoken = λ none. absurd (omega arith);
      unasked = λ none t. absurd (omega arith);
      faults = e.keeper_count (λ q. cc) ∙ i.faults;
      count = count;
    }
