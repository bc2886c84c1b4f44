-- A list of nicks with changes over it.
use Rattle.std.specs.Prelude.{ℕ, List, [], ◌∷◌, ◌++◌, Option, Some, None, if◌then◌else◌}
use Rattle.wc_ircmsg.specs.declared.case_map.CaseMap.{CaseMap}
use Rattle.wc_irc_texts.specs.declared.seat.ModeSet.{ModeSet}
use Rattle.wc_irc_texts.specs.declared.seat.Seat.{Seat}
use Rattle.wc_irc_nicks.specs.Seats.{has_seat, with_modes}

-- a nick with the modes that it was given, where it was given some
abbrev pub over : Seat → Option Seat → Seat
over seat None = seat
over seat (Some changed) = record { nick = seat.nick; modes = changed.modes }

-- other modes of a nick that is there, and else the nick with them at the end
abbrev pub put_seat : CaseMap → List ℕ → ModeSet → List Seat → List Seat
put_seat case_map nick modes seats = if has_seat case_map nick seats
    then with_modes case_map nick modes seats else seats ++ record { nick = nick; modes = modes } ∷ []

-- each change in order
abbrev pub merged : CaseMap → List Seat → List Seat → List Seat
merged case_map [] seats = seats
merged case_map (seat ∷ changed) seats = merged case_map changed
    (put_seat case_map seat.nick seat.modes seats)
