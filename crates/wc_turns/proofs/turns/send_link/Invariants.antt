use Rattle.std.proofs.Common.{true, length}
use Rattle.wc_turns.specs.Parts.{FailureIgnored, SendsOn}
use Rattle.wc_turns.specs.Turns.{LoopStep, left_on}
use Rattle.wc_turns.proofs.turns.send_link.Given as goal

abbrev pub invariant-loop-link : goal.invariant-loop-link
invariant-loop-link g l = record {
  continues : LoopStep true 0 0 l.fn.headless l.headless (g.S.Sockets.seen l.fn.sockets) (g.S.Sockets.seen l.sockets);
  missed : FailureIgnored l.link.0 l.headless.core;
  sends : SendsOn l.link.0 l.fn.headless l.headless (g.S.Sockets.seen l.fn.sockets) (g.S.Sockets.seen l.sockets);
}

abbrev pub decreases-loop-link : goal.decreases-loop-link
decreases-loop-link g l = length (left_on l.link.0 l.headless)
