use Rattle.std.proofs.Common.{◌*◌, ◌+◌, ◌≡◌, ◌≤◌, ◌-◌, ◌^◌, ℕ, true, false}
use Rattle.wc_turns.specs.Contained.{KeepsLinks}
use Rattle.wc_turns.specs.Parties.{IsCalm, party_count}
use Rattle.wc_turns.specs.Sources.{NothingBecameReady, IsWritten, TakesNothing}
use Rattle.wc_turns.specs.Turns.{LoopStep, AgreesWithSockets}
use Rattle.wc_turns.proofs.serve.write_all.Given as goal

abbrev pub invariant-loop-link : goal.invariant-loop-link
invariant-loop-link g l = record {
  continues : LoopStep true 0 0 l.fn.headless l.headless (g.S.Sockets.seen l.fn.sockets) (g.S.Sockets.seen l.sockets);
  calm : IsCalm l.headless.core;
  contained : KeepsLinks l.fn.headless l.headless;
  going : l.headless.core.quits ≡ false;
  falls : NothingBecameReady (g.S.Sockets.seen l.fn.sockets) (g.S.Sockets.seen l.sockets);
  written : AgreesWithSockets l.fn.headless (g.S.Sockets.seen l.fn.sockets) → (link : ℕ) → 1 ≤ link → link ≤ l.last → IsWritten link l.headless (g.S.Sockets.seen l.sockets);
  nothing : TakesNothing (g.S.Sockets.seen l.fn.sockets) (g.S.Sockets.seen l.sockets);
}

abbrev pub decreases-loop-link : goal.decreases-loop-link
decreases-loop-link g l = party_count l.headless.core * (2 ^ 64 + 1) + (2 ^ 64 - l.last)
