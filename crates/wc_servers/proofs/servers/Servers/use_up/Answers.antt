use Rattle.std.proofs.Common.{refl, arith}
use Rattle.wc_servers.proofs.SeatLemmas.{seats_same}
use Rattle.wc_servers.proofs.servers.Servers.use_up.Goals as goal

pub invariant_of-self : goal.invariant_of-self
invariant_of-self c = seats_same _ _ refl (omega (arith, c.if-self-link.true)) c.self.invariant
