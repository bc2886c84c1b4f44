use Rattle.wc_turns.proofs.TurnLemmas.{LoopStep-trans}
use Rattle.wc_turns.proofs.CloseLemmas.{LoopStep-refl}
use Rattle.wc_turns.proofs.AskedLemmas.{AsksWanted-refl, AsksWanted-trans}
use Rattle.wc_turns.proofs.connect.connect_wanted.Goals as goal

pub loop-init : goal.loop-init
loop-init g c = record { continues = LoopStep-refl _ _; asks = AsksWanted-refl _ _ }

pub connect_next-requires : goal.connect_next-requires
connect_next-requires g c = record { agrees = c.loop.invariant.continues.agrees c.requires.agrees }

pub returns-then-not-connect_next-clause-continues : goal.returns-then-not-connect_next-clause-continues
returns-then-not-connect_next-clause-continues g c = LoopStep-trans _ c.loop.headless _ _ (g.S.Sockets.seen c.loop.sockets) _ c.loop.invariant.continues c.connect_next.ensures.continues

pub returns-then-not-connect_next-clause-asks : goal.returns-then-not-connect_next-clause-asks
returns-then-not-connect_next-clause-asks g c = AsksWanted-trans _ c.loop.headless _ _ (g.S.Sockets.seen c.loop.sockets) _ c.connect_next.ensures.continues.told c.loop.invariant.asks c.connect_next.ensures.asks

pub loop-preserved : goal.loop-preserved
loop-preserved g c = record {
  continues = LoopStep-trans _ c.loop.headless _ _ (g.S.Sockets.seen c.loop.sockets) _ c.loop.invariant.continues c.connect_next.ensures.continues;
  asks = AsksWanted-trans _ c.loop.headless _ _ (g.S.Sockets.seen c.loop.sockets) _ c.connect_next.ensures.continues.told c.loop.invariant.asks c.connect_next.ensures.asks;
}
