use Rattle.std.proofs.Common.{refl}
use Rattle.wc_servers.proofs.SeatLemmas.{seats_without}
use Rattle.wc_servers.proofs.servers.Servers.forget.Goals as goal

pub invariant_of-self : goal.invariant_of-self
invariant_of-self c = seats_without _ _ c.args.link.0 c.self.invariant c.drop_seat.ensures refl
