-- The nicks of a list with the changes over it.
use Rattle.std.specs.Prelude.{List}
use Rattle.wc_irc_nicks.specs.declared.overlay.Overlay.{Overlay}
use Rattle.wc_irc_texts.specs.declared.seat.Seat.{Seat}
use Rattle.wc_irc_nicks.specs.Merged.{merged}

abbrev pub seats_over : Overlay → List Seat
seats_over overlay = merged overlay.list.now.case_map overlay.changed.seats overlay.list.now.seats
