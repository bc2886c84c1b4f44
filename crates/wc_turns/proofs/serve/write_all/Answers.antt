use Rattle.std.proofs.Common.{arith}
use Rattle.wc_turns.proofs.TurnLemmas.{LoopStep-trans}
use Rattle.wc_turns.proofs.ContainedLemmas.{KeepsLinks-refl, KeepsLinks-trans}
use Rattle.wc_turns.proofs.CloseLemmas.{LoopStep-refl}
use Rattle.wc_turns.proofs.SourceLemmas.{NothingBecameReady-refl, NothingBecameReady-trans, TakesNothing-refl, TakesNothing-trans}
use Rattle.wc_turns.proofs.ServeLemmas.{blocked-kept, written-next, written-rest}
use Rattle.wc_turns.proofs.serve.write_all.Goals as goal

pub loop-link-init : goal.loop-link-init
loop-link-init g c = record { continues = LoopStep-refl _ _; calm = c.requires.calm; contained = KeepsLinks-refl _; going = c.requires.going; falls = NothingBecameReady-refl _; written = λ s k one low. absurd (omega arith); nothing = TakesNothing-refl _ }

pub write_link-requires-clause-agrees : goal.write_link-requires-clause-agrees
write_link-requires-clause-agrees g c = c.loop-link.invariant.continues.agrees c.requires.agrees

pub loop-link-preserved-then-write_link : goal.loop-link-preserved-then-write_link
loop-link-preserved-then-write_link g c =
    let i = c.loop-link.invariant in
    let e = c.write_link.ensures in
    let seen = g.S.Sockets.seen in
    record {
      continues = LoopStep-trans c.args.headless.now c.loop-link.headless c.write_link.new.headless (seen c.args.sockets.now) (seen c.loop-link.sockets) (seen c.write_link.new.sockets) i.continues e.continues;
      calm = e.calm;
      contained = KeepsLinks-trans c.args.headless.now c.loop-link.headless c.write_link.new.headless i.contained e.contained;
      going = e.going;
      falls = NothingBecameReady-trans _ (seen c.loop-link.sockets) _ i.falls e.falls;
      written = λ s k one most. absurd (omega arith);
      nothing = TakesNothing-trans _ (seen c.loop-link.sockets) _ e.continues.told i.nothing e.nothing;
    }

pub loop-link-preserved : goal.loop-link-preserved
loop-link-preserved g c =
    let i = c.loop-link.invariant in
    let e = c.write_link.ensures in
    let seen = g.S.Sockets.seen in
    record {
      continues = LoopStep-trans c.args.headless.now c.loop-link.headless c.write_link.new.headless (seen c.args.sockets.now) (seen c.loop-link.sockets) (seen c.write_link.new.sockets) i.continues e.continues;
      calm = e.calm;
      contained = KeepsLinks-trans c.args.headless.now c.loop-link.headless c.write_link.new.headless i.contained e.contained;
      going = e.going;
      falls = NothingBecameReady-trans _ (seen c.loop-link.sockets) _ i.falls e.falls;
      written = λ s k one most. written-next k c.loop-link.last c.in-Some.link.0 c.loop-link.headless c.write_link.new.headless (seen c.loop-link.sockets) (seen c.write_link.new.sockets) (blocked-kept c.loop-link.headless k (seen c.loop-link.sockets) (i.continues.agrees s)) (i.written s k one) (λ p q. c.in-Some.ensures.between k p q) (λ n. e.others c.if-write_link.false k n) (e.done c.if-write_link.false) most;
      nothing = TakesNothing-trans _ (seen c.loop-link.sockets) _ e.continues.told i.nothing e.nothing;
    }

pub returns-clause-written : goal.returns-clause-written
returns-clause-written g c = λ s k one.
    let i = c.loop-link.invariant in
    written-rest k c.loop-link.last c.loop-link.headless (g.S.Sockets.seen c.loop-link.sockets) (blocked-kept c.loop-link.headless k (g.S.Sockets.seen c.loop-link.sockets) (i.continues.agrees s)) (i.written s k one) (λ above. c.next_unsent.ensures.none c.in_default.is k above)
