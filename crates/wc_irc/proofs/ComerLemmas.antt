-- Names of a list, one after another, as they come onto the list of a channel.
use Rattle.std.proofs.Common.{◌≡◌, ℕ, Bool, true, false, List, [], ◌∷◌, ◌++◌, refl, ap, sym, ◌∙◌, subst, append-nil}
use Rattle.wc_ircmsg.specs.declared.case_map.CaseMap.{CaseMap}
use Rattle.wc_ircmsg.specs.declared.prefixes.Prefixes.{Prefixes}
use Rattle.wc_irc.specs.declared.names_state.Comer.{Comer}
use Rattle.wc_irc_texts.specs.declared.seat.ModeSet.{ModeSet}
use Rattle.wc_irc_texts.specs.declared.seat.Seat.{Seat}
use Rattle.wc_irc_texts.specs.Listed.{listed_nick, listed_bits}
use Rattle.wc_irc_nicks.specs.Merged.{merged, put_seat}
use Rattle.wc_irc.specs.NameActs.{listed_seat}
use Rattle.wc_irc_texts.specs.Names.{is_nick}
use Rattle.wc_irc.specs.NamesSeen.{seat_of_comer, seats_of_comers, MayCome, AllMayCome}
use Rattle.wc_irc.proofs.ModeLemmas.{name_none, name_some}

pub may_more : (case_map : CaseMap) (comers : List Comer) (comer : Comer) → AllMayCome case_map comers → MayCome case_map comer → AllMayCome case_map (comers ++ comer ∷ [])
may_more case_map [] comer all one = (one, tt)
may_more case_map (first ∷ comers) comer all one = (all.0, may_more case_map comers comer all.1 one)

pub may_first : (case_map : CaseMap) (left rest : List Comer) (comer : Comer) → left ≡ comer ∷ rest → AllMayCome case_map left → MayCome case_map comer × AllMayCome case_map rest
may_first case_map left rest comer first all = subst (AllMayCome case_map) first all

seats_append : (comers : List Comer) (comer : Comer) → seats_of_comers (comers ++ comer ∷ []) ≡ seats_of_comers comers ++ seat_of_comer comer ∷ []
seats_append [] comer = refl
seats_append (first ∷ comers) comer = ap (λ (l : List Seat). seat_of_comer first ∷ l) (seats_append comers comer)

-- a name that is no nick
pub comers_none : (prefixes : Prefixes) (has_hosts : Bool) (comers : List Comer) (name nick : List ℕ) → nick ≡ listed_nick prefixes has_hosts name → is_nick prefixes nick ≡ false → seats_of_comers comers ≡ seats_of_comers comers ++ listed_seat prefixes has_hosts name
comers_none prefixes has_hosts comers name nick is none = sym (append-nil (seats_of_comers comers)) ∙ ap (λ (l : List Seat). seats_of_comers comers ++ l) (name_none prefixes has_hosts name nick is none)

-- and one that is
pub comers_some : (prefixes : Prefixes) (has_hosts : Bool) (before after : List Comer) (comer : Comer) (name nick : List ℕ) (modes : ModeSet) → nick ≡ listed_nick prefixes has_hosts name → modes.0 ≡ listed_bits prefixes name → is_nick prefixes nick ≡ true
    → comer.new.nick ≡ nick → comer.modes ≡ modes → after ≡ before ++ comer ∷ [] → seats_of_comers after ≡ seats_of_comers before ++ listed_seat prefixes has_hosts name
comers_some prefixes has_hosts before after comer name nick modes is bits one nick_is modes_is made =
    ap seats_of_comers made ∙ seats_append before comer
    ∙ (λ i. seats_of_comers before ++ record { nick = nick_is i; modes = modes_is i } ∷ [])
    ∙ ap (λ (l : List Seat). seats_of_comers before ++ l) (name_some prefixes has_hosts name nick modes is bits one)

-- one more nick of several
pub comers_put : (was is : CaseMap) (left rest : List Comer) (comer : Comer) (seats later all : List Seat) → was ≡ is → left ≡ comer ∷ rest → later ≡ put_seat was comer.new.nick comer.modes seats
    → merged is (seats_of_comers left) seats ≡ all → merged is (seats_of_comers rest) later ≡ all
comers_put was is left rest comer seats later all same first made before =
    ap (merged is (seats_of_comers rest)) (made ∙ ap (λ (m : CaseMap). put_seat m comer.new.nick comer.modes seats) same)
    ∙ ap (λ (l : List Comer). merged is (seats_of_comers l) seats) (sym first) ∙ before
