use Rattle.std.proofs.Common.{◌≡◌, ◌+◌, ◌-◌, ◌≤◌, true, false, length, IsTrue}
use Rattle.wc_turns.specs.Contained.{KeepsLinks}
use Rattle.wc_turns.specs.Parts.{ReadsOn}
use Rattle.wc_turns.specs.Parties.{IsCalm}
use Rattle.wc_turns.specs.Links.{IsStanding}
use Rattle.wc_turns.specs.Sources.{bytes_taken}
use Rattle.wc_turns.specs.Turns.{LoopStep}
use Rattle.wc_turns.proofs.turns.read_link.Given as goal

abbrev pub invariant-loop-left : goal.invariant-loop-left
invariant-loop-left g l = record {
  continues : LoopStep true 0 0 l.fn.headless l.headless (g.S.Sockets.seen l.fn.sockets) (g.S.Sockets.seen l.sockets);
  calm : IsCalm l.headless.core;
  stands : IsStanding l.link.0 l.headless.links.opened.items;
  contained : KeepsLinks l.fn.headless l.headless;
  going : l.headless.core.quits ≡ false;
  reads : ReadsOn l.link.0 (g.S.Sockets.seen l.fn.sockets) (g.S.Sockets.seen l.sockets);
  size : length l.buffer ≡ 16384;
  most : l.left ≤ 1048576;
  bytes : IsTrue (g.S.Sockets.seen l.sockets).tells → bytes_taken l.link.0 (g.S.Sockets.seen l.sockets).taken ≡ bytes_taken l.link.0 (g.S.Sockets.seen l.fn.sockets).taken + (1048576 - l.left);
}

abbrev pub decreases-loop-left : goal.decreases-loop-left
decreases-loop-left g l = l.left
