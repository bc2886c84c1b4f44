use Rattle.std.proofs.Common.{◌≡◌, ◌≢◌, ◌≤◌, ℕ, true, false, length}
use Rattle.wc_turns.specs.Contained.{KeepsLinks}
use Rattle.wc_turns.specs.Parties.{IsCalm, party_count}
use Rattle.wc_turns.specs.Sources.{NothingBecameReady, IsPut, IsWritten, TakesNothing}
use Rattle.wc_turns.specs.Turns.{LoopStep, left_on}
use Rattle.wc_turns.proofs.turns.write_link.Given as goal

abbrev pub invariant-loop : goal.invariant-loop
invariant-loop g l = record {
  continues : LoopStep true 0 0 l.fn.headless l.headless (g.S.Sockets.seen l.fn.sockets) (g.S.Sockets.seen l.sockets);
  calm : IsCalm l.headless.core;
  contained : KeepsLinks l.fn.headless l.headless;
  going : l.headless.core.quits ≡ false;
  falls : NothingBecameReady (g.S.Sockets.seen l.fn.sockets) (g.S.Sockets.seen l.sockets);
  others : (other : ℕ) → other ≢ l.link.0 → IsWritten other l.fn.headless (g.S.Sockets.seen l.fn.sockets) → IsWritten other l.headless (g.S.Sockets.seen l.sockets);
  put : IsPut l.link.0 l.headless;
  parties : party_count l.headless.core ≤ party_count l.fn.headless.core;
  nothing : TakesNothing (g.S.Sockets.seen l.fn.sockets) (g.S.Sockets.seen l.sockets);
}

abbrev pub decreases-loop : goal.decreases-loop
decreases-loop g l = length (left_on l.link.0 l.headless)
