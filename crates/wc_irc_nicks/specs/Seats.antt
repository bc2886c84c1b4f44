-- The nicks of one channel, in the order of their coming.
use Rattle.std.specs.Prelude.{◌≡◌, ℕ, Bool, false, not, List, [], ◌∷◌, map, filter, find, Option, is_some}
use Rattle.std.specs.Prelude.{if◌then◌else◌}
use Rattle.wc_ircmsg.specs.declared.case_map.CaseMap.{CaseMap}
use Rattle.wc_irc_texts.specs.declared.seat.Seat.{Seat}
use Rattle.wc_irc_texts.specs.declared.seat.ModeSet.{ModeSet}
use Rattle.wc_irc_texts.specs.Names.{is_same}

abbrev pub is_named : CaseMap → List ℕ → Seat → Bool
is_named case_map nick seat = is_same case_map nick seat.nick

abbrev pub seat_of : CaseMap → List ℕ → List Seat → Option Seat
seat_of case_map nick seats = find (is_named case_map nick) seats

abbrev pub has_seat : CaseMap → List ℕ → List Seat → Bool
has_seat case_map nick seats = is_some (seat_of case_map nick seats)

-- a nick gone, and the others closed up
abbrev pub without_seat : CaseMap → List ℕ → List Seat → List Seat
without_seat case_map nick seats = filter (λ s. not (is_named case_map nick s)) seats

-- other modes of a nick, which stays at its place
abbrev pub with_modes : CaseMap → List ℕ → ModeSet → List Seat → List Seat
with_modes case_map nick modes seats = map (λ (s : Seat). if is_named case_map nick s
    then record { nick = s.nick; modes = modes } else s) seats

-- another name of a nick, which stays at its place
abbrev pub with_name : CaseMap → List ℕ → List ℕ → List Seat → List Seat
with_name case_map old new seats = map (λ (s : Seat). if is_named case_map old s
    then record { nick = new; modes = s.modes } else s) seats

-- no two nicks are the same
abbrev pub AreApart : CaseMap → List Seat → Type 0
AreApart case_map [] = Unit {0}
AreApart case_map (seat ∷ seats) = (has_seat case_map seat.nick seats ≡ false)
    × AreApart case_map seats
