use Rattle.std.proofs.Common.{◌≡◌, false, None, length}
use Rattle.wc_turns.specs.Sockets.{ServesSocket}
use Rattle.wc_turns.proofs.sockets.serve_ws.Given as goal

-- the messages so far are served
abbrev pub invariant-loop-then : goal.invariant-loop-then
invariant-loop-then l = record {
  going : l.core.quits ≡ false;
  serves : ServesSocket l.link.0 None l.fn.socket l.socket l.fn.core l.core l.fn.tail l.tail l.fn.ran l.ran;
}

abbrev pub decreases-loop-then : goal.decreases-loop-then
decreases-loop-then l = length l.socket.input
