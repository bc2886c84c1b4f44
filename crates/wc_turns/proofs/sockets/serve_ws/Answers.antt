use Rattle.std.proofs.Common.{None, refl}
use Rattle.wc_turns.proofs.FramesLemmas.{ServesSocket-none, ServesSocket-then}
use Rattle.wc_turns.proofs.sockets.serve_ws.Goals as goal

pub loop-then-init : goal.loop-then-init
loop-then-init c = record { going = c.requires.going; serves = ServesSocket-none c.args.link.0 None c.args.socket.now c.args.socket.now c.args.core.now c.args.tail.now c.args.ran.now c.requires.going (λ bytes read f. f) tt }

pub loop-then-preserved : goal.loop-then-preserved
loop-then-preserved c =
    let e = c.in-None.ensures.serves in
    record { going = e.goes refl; serves = ServesSocket-then c.args.link.0 None _ _ _ _ _ _ _ _ _ _ _ _ c.requires.going c.loop-then.invariant.serves e }

pub returns-in-Some : goal.returns-in-Some
returns-in-Some c = record { serves = ServesSocket-then c.args.link.0 _ _ _ _ _ _ _ _ _ _ _ _ _ c.requires.going c.loop-then.invariant.serves c.in-Some.ensures.serves }
