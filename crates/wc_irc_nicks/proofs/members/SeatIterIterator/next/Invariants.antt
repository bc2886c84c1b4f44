use Rattle.std.proofs.Common.{◌≡◌, length}
use Rattle.wc_irc_nicks.specs.Kept.{filled}
use Rattle.wc_irc_nicks.proofs.members.SeatIterIterator.next.Given as goal

abbrev pub invariant-loop-self : goal.invariant-loop-self
invariant-loop-self l = filled l.self.places.now ≡ filled l.fn.self.places.now

abbrev pub decreases-loop-self : goal.decreases-loop-self
decreases-loop-self l = length l.self.places.now
