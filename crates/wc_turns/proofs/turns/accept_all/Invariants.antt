use Rattle.std.proofs.Common.{◌≡◌, ◌+◌, ℕ, true, false, IsTrue}
use Rattle.wc_turns.specs.Contained.{KeepsLinks}
use Rattle.wc_turns.specs.Parties.{IsCalm}
use Rattle.wc_turns.specs.Sources.{NothingBecameReady, arrivals, bytes_taken}
use Rattle.wc_turns.specs.Turns.{LoopStep, AgreesWithSockets}
use Rattle.wc_turns.proofs.turns.accept_all.Given as goal

abbrev pub invariant-loop : goal.invariant-loop
invariant-loop g l = record {
  continues : LoopStep true 0 0 l.fn.headless l.headless (g.S.Sockets.seen l.fn.sockets) (g.S.Sockets.seen l.sockets);
  calm : IsCalm l.headless.core;
  contained : AgreesWithSockets l.fn.headless (g.S.Sockets.seen l.fn.sockets) → KeepsLinks l.fn.headless l.headless;
  going : l.headless.core.quits ≡ false;
  falls : NothingBecameReady (g.S.Sockets.seen l.fn.sockets) (g.S.Sockets.seen l.sockets);
  arrived : IsTrue (g.S.Sockets.seen l.sockets).tells → arrivals (g.S.Sockets.seen l.sockets).taken ≡ arrivals (g.S.Sockets.seen l.fn.sockets).taken + l.counter;
  bytes : IsTrue (g.S.Sockets.seen l.sockets).tells → (link : ℕ) → bytes_taken link (g.S.Sockets.seen l.sockets).taken ≡ bytes_taken link (g.S.Sockets.seen l.fn.sockets).taken;
}
