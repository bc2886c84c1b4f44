-- The nicks of a channel, as the code lends them.
use Rattle.std.specs.Prelude.{List}
use Rattle.wc_irc_nicks.specs.declared.members.SeatIter.{SeatIter}
use Rattle.wc_irc_texts.specs.declared.seat.Seat.{Seat}
use Rattle.wc_irc_nicks.specs.Kept.{filled}

-- the nicks that an iterator has still to give
abbrev pub seats_left : SeatIter → List Seat
seats_left it = filled it.places.now
