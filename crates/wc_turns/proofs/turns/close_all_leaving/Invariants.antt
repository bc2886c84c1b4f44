use Rattle.std.proofs.Common.{◌≡◌, true, []}
use Rattle.wc_turns.specs.Parts.{ClosesLeaving, HasFailed}
use Rattle.wc_turns.specs.Parties.{party_count}
use Rattle.wc_turns.specs.Turns.{LoopStep}
use Rattle.wc_turns.proofs.turns.close_all_leaving.Given as goal

abbrev pub invariant-loop-departure : goal.invariant-loop-departure
invariant-loop-departure g l = record {
  continues : LoopStep true 0 0 l.fn.headless l.headless (g.S.Sockets.seen l.fn.sockets) (g.S.Sockets.seen l.sockets);
  asked : l.headless.core.servers.wanted ≡ [];
  failed : HasFailed l.lost (g.S.Sockets.seen l.sockets);
  parts : ClosesLeaving l.fn.headless l.headless (g.S.Sockets.seen l.fn.sockets) (g.S.Sockets.seen l.sockets);
}

abbrev pub decreases-loop-departure : goal.decreases-loop-departure
decreases-loop-departure g l = party_count l.headless.core
