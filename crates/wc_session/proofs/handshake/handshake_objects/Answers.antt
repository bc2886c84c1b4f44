use Rattle.wc_session.proofs.Formed.{handshake_formed}
use Rattle.wc_session.proofs.handshake.handshake_objects.Goals as goal

pub returns-clause-formed : goal.returns-clause-formed
returns-clause-formed c = rw c.in_ok-pairs.ensures (handshake_formed c.args.nonce.now c.args.choice c.args.escapes)
