use Rattle.std.proofs.Common.{refl}
use Rattle.wc_turns.proofs.TurnLemmas.{LoopStep-trans}
use Rattle.wc_turns.proofs.SendLemmas.{LoopStep-put, SendsOn-put}
use Rattle.wc_turns.proofs.SourceLemmas.{later-of, left-same, TakesNothing-trans}
use Rattle.wc_turns.proofs.PartLemmas.{SendsOn-trans, FailureIgnored-later, IsSent-following}
use Rattle.wc_turns.proofs.PartLemmas.{KeepsLinks-sends}
use Rattle.wc_turns.proofs.GoneLemmas.{same-unsent}
use Rattle.wc_turns.proofs.turns.send_link.Goals as goal

pub loop-link-init : goal.loop-link-init
loop-link-init g c =
    let x = c.args.headless.now in
    let mid = c.frame_unsent-refused.new.self in
    let a = g.S.Sockets.seen c.args.sockets.now in
    let sends = SendsOn-put c.args.link.0 x mid a c.frame_unsent-refused.result c.frame_unsent-refused.ensures in
    record { continues = LoopStep-put x mid a c.args.link.0 c.frame_unsent-refused.result c.frame_unsent-refused.ensures; missed = FailureIgnored-later c.args.link.0 x mid a a sends c.requires.missed; sends = sends }

pub returns-then-not-send_once-clause-continues : goal.returns-then-not-send_once-clause-continues
returns-then-not-send_once-clause-continues g c = LoopStep-trans _ c.loop-link.headless _ _ (g.S.Sockets.seen c.loop-link.sockets) _ c.loop-link.invariant.continues c.send_once.ensures.continues

pub returns-then-not-send_once-clause-sends : goal.returns-then-not-send_once-clause-sends
returns-then-not-send_once-clause-sends g c =
    let e = c.send_once.ensures in
    SendsOn-trans c.args.link.0 _ c.loop-link.headless _ _ (g.S.Sockets.seen c.loop-link.sockets) _ e.continues.told c.loop-link.invariant.sends e.sends

pub returns-then-not-send_once-clause-done : goal.returns-then-not-send_once-clause-done
returns-then-not-send_once-clause-done g c =
    let i = c.loop-link.invariant in
    let e = c.send_once.ensures in
    λ s. IsSent-following c.args.link.0 c.send_once.new.headless (g.S.Sockets.seen c.args.sockets.now) (g.S.Sockets.seen c.loop-link.sockets) (g.S.Sockets.seen c.send_once.new.sockets) (later-of _ _ i.continues) i.continues.counts e.continues.told (c.if-not-send_once.ensures.done refl s)

pub returns-then-not-send_once-clause-nothing : goal.returns-then-not-send_once-clause-nothing
returns-then-not-send_once-clause-nothing g c =
    let e = c.send_once.ensures in
    TakesNothing-trans _ (g.S.Sockets.seen c.loop-link.sockets) _ e.continues.told c.loop-link.invariant.sends.nothing e.sends.nothing

pub loop-link-preserved : goal.loop-link-preserved
loop-link-preserved g c =
    let i = c.loop-link.invariant in
    let e = c.send_once.ensures in
    record {
      continues = LoopStep-trans _ c.loop-link.headless _ _ (g.S.Sockets.seen c.loop-link.sockets) _ i.continues e.continues;
      missed = FailureIgnored-later c.args.link.0 c.loop-link.headless c.send_once.new.headless (g.S.Sockets.seen c.loop-link.sockets) (g.S.Sockets.seen c.send_once.new.sockets) e.sends i.missed;
      sends = SendsOn-trans c.args.link.0 _ c.loop-link.headless _ _ (g.S.Sockets.seen c.loop-link.sockets) _ e.continues.told i.sends e.sends;
    }

pub returns-then-not-send_once-clause-contained : goal.returns-then-not-send_once-clause-contained
returns-then-not-send_once-clause-contained g c =
    let e = c.send_once.ensures in
    KeepsLinks-sends c.args.link.0 _ _ _ _ (SendsOn-trans c.args.link.0 c.args.headless.now c.loop-link.headless c.send_once.new.headless (g.S.Sockets.seen c.args.sockets.now) (g.S.Sockets.seen c.loop-link.sockets) (g.S.Sockets.seen c.send_once.new.sockets) e.continues.told c.loop-link.invariant.sends e.sends)

pub returns-then-not-send_once-clause-unsent : goal.returns-then-not-send_once-clause-unsent
returns-then-not-send_once-clause-unsent g c = λ k n.
    let e = c.send_once.ensures in
    let sends = SendsOn-trans c.args.link.0 c.args.headless.now c.loop-link.headless c.send_once.new.headless (g.S.Sockets.seen c.args.sockets.now) (g.S.Sockets.seen c.loop-link.sockets) (g.S.Sockets.seen c.send_once.new.sockets) e.continues.told c.loop-link.invariant.sends e.sends in
    left-same k c.args.headless.now c.send_once.new.headless (record { frames = sends.frames k n; unsent = same-unsent k c.args.headless.now.core c.send_once.new.headless.core (sends.parties k n) })
