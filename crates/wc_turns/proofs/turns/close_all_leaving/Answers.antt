use Rattle.std.proofs.Common.{sym, ◌∙◌}
use Rattle.wc_turns.proofs.TurnLemmas.{LoopStep-trans}
use Rattle.wc_turns.proofs.CloseLemmas.{LoopStep-refl}
use Rattle.wc_turns.proofs.ForgetLemmas.{departed-calm}
use Rattle.wc_turns.proofs.SourceLemmas.{later-of}
use Rattle.wc_turns.proofs.PartLemmas.{ClosesLeaving-refl, ClosesLeaving-trans, HasFailed-later}
use Rattle.wc_turns.proofs.turns.close_all_leaving.Goals as goal

pub loop-departure-init : goal.loop-departure-init
loop-departure-init g c = record { continues = LoopStep-refl _ _; asked = c.requires.asked; failed = c.requires.failed; parts = ClosesLeaving-refl _ _ }

pub loop-departure-preserved : goal.loop-departure-preserved
loop-departure-preserved g c =
    let i = c.loop-departure.invariant in
    let e = c.close_leaving.ensures in
    record {
      continues = LoopStep-trans _ c.loop-departure.headless _ _ (g.S.Sockets.seen c.loop-departure.sockets) _ i.continues e.continues;
      asked = e.parts.wanted ∙ i.asked;
      failed = HasFailed-later c.args.lost _ _ (later-of _ _ e.continues) i.failed;
      parts = ClosesLeaving-trans _ c.loop-departure.headless _ _ (g.S.Sockets.seen c.loop-departure.sockets) _ e.continues.told i.parts e.parts;
    }

pub returns-clause-parted : goal.returns-clause-parted
returns-clause-parted g c = departed-calm c.loop-departure.headless.core (sym c.in_default.ensures)
