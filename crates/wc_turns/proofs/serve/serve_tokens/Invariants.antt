use Rattle.std.proofs.Common.{◌≡◌, false, true, take}
use Rattle.wc_turns.specs.Sources.{ServesNamed, HasDecided, ReadsGuests}
use Rattle.wc_turns.specs.Turns.{faults_of}
use Rattle.wc_turns.proofs.serve.serve_tokens.Given as goal

abbrev pub invariant-loop-place : goal.invariant-loop-place
invariant-loop-place g l = record {
  serves : ServesNamed (take l.place l.tokens) (faults_of l.listened) l.fn.headless l.headless (g.S.Sockets.seen l.fn.sockets) (g.S.Sockets.seen l.sockets);
  decides : l.decided ≡ true → HasDecided l.fn.headless l.headless (g.S.Sockets.seen l.fn.sockets) (g.S.Sockets.seen l.sockets);
  once : ReadsGuests false l.decided l.fn.headless l.headless (g.S.Sockets.seen l.fn.sockets) (g.S.Sockets.seen l.sockets);
}
