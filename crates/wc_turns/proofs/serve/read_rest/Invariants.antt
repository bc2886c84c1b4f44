use Rattle.std.proofs.Common.{◌≡◌, ◌≤◌, ◌-◌, ◌^◌, ◌⊎◌, ℕ, true, false}
use Rattle.std.specs.List.{list_any}
use Rattle.wc_outside.specs.Happenings.{is_link}
use Rattle.wc_turns.specs.Contained.{KeepsLinks}
use Rattle.wc_turns.specs.Parties.{IsCalm}
use Rattle.wc_turns.specs.Sources.{NothingBecameReady, IsServedAfter, HasDecided, ReadsGuests}
use Rattle.wc_turns.specs.Turns.{LoopStep, AgreesWithSockets}
use Rattle.wc_turns.proofs.ServeLemmas.{ReadsTo}
use Rattle.wc_turns.proofs.serve.read_rest.Given as goal

abbrev pub invariant-loop-link : goal.invariant-loop-link
invariant-loop-link g l = record {
  continues : LoopStep true 0 0 l.fn.headless l.headless (g.S.Sockets.seen l.fn.sockets) (g.S.Sockets.seen l.sockets);
  calm : IsCalm l.headless.core;
  contained : KeepsLinks l.fn.headless l.headless;
  falls : NothingBecameReady (g.S.Sockets.seen l.fn.sockets) (g.S.Sockets.seen l.sockets);
  served : AgreesWithSockets l.fn.headless (g.S.Sockets.seen l.fn.sockets) → l.headless.core.quits ≡ false → (link : ℕ) → 1 ≤ link → link ≤ l.last → list_any (is_link link) l.tokens ≡ false → IsServedAfter l.fn.decided link l.fn.headless l.headless (g.S.Sockets.seen l.fn.sockets) (g.S.Sockets.seen l.sockets);
  decides : l.decided ≡ true → (l.fn.decided ≡ true) ⊎ HasDecided l.fn.headless l.headless (g.S.Sockets.seen l.fn.sockets) (g.S.Sockets.seen l.sockets);
  once : ReadsGuests l.fn.decided l.decided l.fn.headless l.headless (g.S.Sockets.seen l.fn.sockets) (g.S.Sockets.seen l.sockets);
  reads : ReadsTo (λ link. list_any (is_link link) l.tokens) l.last (g.S.Sockets.seen l.fn.sockets) (g.S.Sockets.seen l.sockets);
}

abbrev pub decreases-loop-link : goal.decreases-loop-link
decreases-loop-link g l = 2 ^ 64 - l.last
