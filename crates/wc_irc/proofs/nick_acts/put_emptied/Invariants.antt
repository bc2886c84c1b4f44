use Rattle.std.proofs.Common.{◌≡◌, ◌++◌}
use Rattle.wc_irc_nicks.specs.KeptSeen.{seats_left}
use Rattle.wc_irc.specs.NickActs.{emptied}
use Rattle.wc_irc.proofs.nick_acts.put_emptied.Given as goal

abbrev pub invariant-loop-seat : goal.invariant-loop-seat
invariant-loop-seat l = l.acts ++ emptied l.buffer (seats_left l.seat-iterator) ≡ l.fn.acts ++ emptied l.buffer l.nicks.seats
