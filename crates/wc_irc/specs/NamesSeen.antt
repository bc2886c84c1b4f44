-- Names of a list, as the code keeps them until they come onto the list of a channel.
use Rattle.std.specs.Prelude.{◌≡◌, ◌≤◌, List, [], ◌∷◌, length, map}
use Rattle.wc_ircmsg.specs.declared.case_map.CaseMap.{CaseMap}
use Rattle.wc_irc.specs.declared.names_state.Comer.{Comer}
use Rattle.wc_irc_texts.specs.declared.seat.Seat.{Seat}

abbrev pub seat_of_comer : Comer → Seat
seat_of_comer comer = record { nick = comer.new.nick; modes = comer.modes }

abbrev pub seats_of_comers : List Comer → List Seat
seats_of_comers comers = map seat_of_comer comers

-- one that may come onto a list that goes by this case map
pub record MayCome (case_map : CaseMap) (comer : Comer) : Type 0 where
  pub map_is : comer.new.case_map ≡ case_map
  pub short : length comer.new.nick ≤ 64

abbrev pub AllMayCome : CaseMap → List Comer → Type 0
AllMayCome case_map [] = Unit {0}
AllMayCome case_map (comer ∷ comers) = MayCome case_map comer × AllMayCome case_map comers
