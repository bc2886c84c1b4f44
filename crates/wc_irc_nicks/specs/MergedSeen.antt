-- A nick that was found, as the code lends it.
use Rattle.wc_irc_nicks.specs.declared.overlay.FoundNick.{FoundNick}
use Rattle.wc_irc_texts.specs.declared.seat.Seat.{Seat}

abbrev pub seat_in : FoundNick → Seat
seat_in found = record { nick = found.nick.now; modes = found.modes }
