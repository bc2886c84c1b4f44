use Rattle.std.proofs.Common.{◌≡◌, ◌≤◌, ◌-◌, ◌^◌, ℕ, true}
use Rattle.wc_turns.specs.Contained.{KeepsLinks}
use Rattle.wc_turns.specs.Parties.{IsCalm}
use Rattle.wc_turns.specs.Sources.{IsSent, TakesNothing}
use Rattle.wc_turns.specs.Turns.{LoopStep, AgreesWithSockets}
use Rattle.wc_turns.proofs.serve.send_all.Given as goal

abbrev pub invariant-loop-link : goal.invariant-loop-link
invariant-loop-link g l = record {
  continues : LoopStep true 0 0 l.fn.headless l.headless (g.S.Sockets.seen l.fn.sockets) (g.S.Sockets.seen l.sockets);
  calm : IsCalm l.headless.core;
  contained : KeepsLinks l.fn.headless l.headless;
  quits : l.headless.core.quits ≡ true;
  sent : AgreesWithSockets l.fn.headless (g.S.Sockets.seen l.fn.sockets) → (link : ℕ) → 1 ≤ link → link ≤ l.last → IsSent link l.headless (g.S.Sockets.seen l.fn.sockets) (g.S.Sockets.seen l.sockets);
  nothing : TakesNothing (g.S.Sockets.seen l.fn.sockets) (g.S.Sockets.seen l.sockets);
}

abbrev pub decreases-loop-link : goal.decreases-loop-link
decreases-loop-link g l = 2 ^ 64 - l.last
