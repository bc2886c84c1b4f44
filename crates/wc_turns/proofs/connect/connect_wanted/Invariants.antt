use Rattle.std.proofs.Common.{true, length}
use Rattle.wc_turns.specs.Parts.{AsksWanted}
use Rattle.wc_turns.specs.Turns.{LoopStep}
use Rattle.wc_turns.proofs.connect.connect_wanted.Given as goal

abbrev pub invariant-loop : goal.invariant-loop
invariant-loop g l = record {
  continues : LoopStep true 0 0 l.fn.headless l.headless (g.S.Sockets.seen l.fn.sockets) (g.S.Sockets.seen l.sockets);
  asks : AsksWanted l.fn.headless l.headless (g.S.Sockets.seen l.fn.sockets) (g.S.Sockets.seen l.sockets);
}

abbrev pub decreases-loop : goal.decreases-loop
decreases-loop g l = length l.headless.core.servers.wanted
