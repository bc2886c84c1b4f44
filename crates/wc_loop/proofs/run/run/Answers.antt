use Rattle.std.proofs.Common.{◌≡◌, ◌++◌, [], ◌∷◌, map, IsTrue, refl, sym, ap, ◌∙◌, arith}
use Rattle.wc_outside.specs.declared.happening.Asked.TheVariants.{Listen, Connect}
use Rattle.wc_loop.specs.Endings.{kept_of}
use Rattle.wc_turns.specs.Turns.{wake_count, listen_faults}
use Rattle.wc_loop.proofs.EndingLemmas.{Runs-early, Runs-following, known-readable, known-port, kept-text, not-keeper, keeper-of, kept_of-none, held-earlier, closes-last, last-since, none-asked}
use Rattle.wc_loop.proofs.HeadlineLemmas.{AgreesWithSockets-first, Fresh-listening, HandsOut-run, Headline-known, IfSome-last, TakesEach-run}
use Rattle.wc_loop.proofs.ProgramLemmas.{Rose-before, faults-told}
use Rattle.wc_loop.proofs.run.run.Goals as goal

pub returns-clause-runs : goal.returns-clause-runs
returns-clause-runs g c =
    let seen = g.S.Sockets.seen in
    let new = c.requires.new in
    let listened = c.in-Ok-listen.ensures in
    let ran = c.take_turns-then.ensures in
    let first = c.in-Ok.ensures.first in
    let fresh = Fresh-listening (seen c.args.sockets.now) (seen c.listen.new.self) new listened.told listened.taken listened.sent listened.used listened.there listened.undrained listened.listening listened.blocked in
    let heard : IsTrue (seen c.listen.new.self).tells → (seen c.listen.new.self).asked ≡ Listen c.in-Ok.made.port ∷ [] = λ t. listened.asked t ∙ ap (λ xs. xs ++ Listen c.in-Ok.made.port ∷ []) (new.asked (listened.told t)) in
    rw c.last_state.ensures (Runs-following _ c.args.wish.turns (g.K.Keeper.contents c.args.keeper.now) (g.K.Keeper.faults c.args.keeper.now) (g.K.Keeper.faults c.take_turns-then.new.keeper)
    (seen c.args.sockets.now) (seen c.take_turns-then.new.sockets) c.take_turns-then.result c.ending_of.result c.take_turns-then.new.headless
    (record {
      above = c.requires.above;
      known = known-readable _ _ _ _ c.in-Ok.ensures.known;
      woke = λ t. (let w = ran.continues.step.wakes t in let z : wake_count (seen c.listen.new.self).taken ≡ 0 = ap wake_count (fresh.taken (ran.continues.step.told t)) in omega arith);
      listens = λ t keeper. (let w = ran.continues.step.listens t in let f = faults-told c.take_turns-then.result ran.continues.faults ran.continues.fits keeper in let z : listen_faults (seen c.listen.new.self).taken ≡ 0 = ap listen_faults (fresh.taken (ran.continues.step.told t)) in omega arith);
      quit = ran.quit;
      going = ran.going;
      all = ran.all;
      fewer = ran.fewer;
      some = ran.some;
      most = ran.most;
      wait_fault = λ q. Rose-before _ _ _ listened.counts.waits (ran.wait_fault q);
      listen_fault = λ q. Rose-before _ _ _ listened.counts.listens (ran.listen_fault q);
      keeper_fault = λ q. Rose-before _ _ _ c.configure.ensures.counts (ran.keeper_fault q);
      asked = λ t. record {
        port = c.in-Ok.made.port;
        set = known-port _ _ _ _ c.in-Ok.ensures.known;
        connects = ran.continues.step.connects;
        unwoken = λ none. none-asked _ _ (sym (ran.continues.step.asked t) ∙ ran.unasked none t);
        is = ran.continues.step.asked t ∙ ap (λ xs. xs ++ map Connect ran.continues.step.connects) (heard (ran.continues.step.told t));
      };
      served = λ q. last-since _ _ _ _ listened.told (λ t. listened.taken t) (ran.served q c.requires.above);
      sent = λ q. last-since _ _ _ _ listened.told (λ t. listened.taken t) (ran.sent q);
      left = λ above. record {
        headline = Headline-known _ _ c.in-Ok.made.headless _ _ _ c.in-Ok.ensures.known (λ t fed rows were judged. HandsOut-run c.in-Ok.made.headless c.take_turns-then.new.headless (seen c.listen.new.self) (seen c.take_turns-then.new.sockets) c.in-Ok.made.port ran.continues.step first fresh heard ran.calm t fed rows were judged);
        takes = TakesEach-run _ _ c.in-Ok.made.headless c.take_turns-then.new.headless (seen c.listen.new.self) (seen c.take_turns-then.new.sockets) c.in-Ok.made.port c.in-Ok.ensures.known ran.continues.step first fresh;
        agrees = ran.agrees;
        calm = ran.calm;
        causes = (let turn = ran.causes above in closes-last _ _ c.in-Ok.made.headless c.take_turns-then.new.headless (seen c.args.sockets.now) (seen c.listen.new.self) (seen c.take_turns-then.new.sockets) listened.counts turn (Headline-known _ _ c.in-Ok.made.headless _ turn.seen turn.earlier c.in-Ok.ensures.known (λ t fed rows were judged. HandsOut-run c.in-Ok.made.headless turn.earlier (seen c.listen.new.self) turn.seen c.in-Ok.made.port turn.until first fresh heard turn.calm t fed rows were judged)));
      };
    })
    c.ending_of.ensures)

pub take_turns-then-requires-clause-agrees : goal.take_turns-then-requires-clause-agrees
take_turns-then-requires-clause-agrees g c =
    let seen = g.S.Sockets.seen in
    let new = c.requires.new in
    let listened = c.in-Ok-listen.ensures in
    AgreesWithSockets-first c.in-Ok.made.headless (seen c.listen.new.self) c.in-Ok.ensures.first
    (Fresh-listening (seen c.args.sockets.now) (seen c.listen.new.self) new listened.told listened.taken listened.sent listened.used listened.there listened.undrained listened.listening listened.blocked)

pub returns-in-Err-clause-runs : goal.returns-in-Err-clause-runs
returns-in-Err-clause-runs g c =
    let seen = g.S.Sockets.seen in
    let new = c.requires.new in
    Runs-early _ c.args.wish.turns (g.K.Keeper.contents c.args.keeper.now) (g.K.Keeper.faults c.args.keeper.now) (g.K.Keeper.faults c.configure.new.keeper) (seen c.args.sockets.now) c.in-Err.ending
    (record { above = c.requires.above; woke = λ t. ap wake_count (new.taken t) })
    new.asked
    c.in-Err.ensures.early

pub returns-clause-kept : goal.returns-clause-kept
returns-clause-kept g c = λ three.
    let contents = g.K.Keeper.contents in
    let ran = c.take_turns-then.ensures in
    rw c.last_state.ensures (kept-text c.in-Ok.made.headless c.take_turns-then.new.headless (contents c.args.keeper.now) (contents c.configure.new.keeper) (contents c.take_turns-then.new.keeper)
    c.in-Ok.ensures.first.saved c.configure.ensures.kept (ran.saves (not-keeper c.take_turns-then.result c.ending_of.result c.ending_of.ensures three)) ran.unsaved)

pub returns-clause-unsaved : goal.returns-clause-unsaved
returns-clause-unsaved g c = λ three.
    let seen = g.S.Sockets.seen in
    let contents = g.K.Keeper.contents in
    let new = c.requires.new in
    let listened = c.in-Ok-listen.ensures in
    let ran = c.take_turns-then.ensures in
    let first = c.in-Ok.ensures.first in
    let fresh = Fresh-listening (seen c.args.sockets.now) (seen c.listen.new.self) new listened.told listened.taken listened.sent listened.used listened.there listened.undrained listened.listening listened.blocked in
    let heard : IsTrue (seen c.listen.new.self).tells → (seen c.listen.new.self).asked ≡ Listen c.in-Ok.made.port ∷ [] = λ t. listened.asked t ∙ ap (λ xs. xs ++ Listen c.in-Ok.made.port ∷ []) (new.asked (listened.told t)) in
    let fails = ran.unwritten (keeper-of c.take_turns-then.result c.ending_of.result c.ending_of.ensures three) in
    let known = Headline-known _ _ c.in-Ok.made.headless _ fails.seen fails.earlier c.in-Ok.ensures.known (λ t fed rows were judged. HandsOut-run c.in-Ok.made.headless fails.earlier (seen c.listen.new.self) fails.seen c.in-Ok.made.port fails.until first fresh heard fails.calm t fed rows were judged) in
    rw c.last_state.ensures (IfSome-last (kept_of c.take_turns-then.new.headless) c.take_turns-then.new.headless _ refl (λ above. held-earlier _ (contents c.args.keeper.now) (contents c.configure.new.keeper) (contents c.take_turns-then.new.keeper) c.in-Ok.made.headless c.take_turns-then.new.headless (seen c.listen.new.self) (seen c.take_turns-then.new.sockets) first.saved c.configure.ensures.kept fails known))

pub returns-clause-unwoken : goal.returns-clause-unwoken
returns-clause-unwoken g c = λ none.
    c.take_turns-then.ensures.unwoken (kept_of-none c.take_turns-then.new.headless (sym c.last_state.ensures ∙ none)) ∙ c.configure.ensures.kept
