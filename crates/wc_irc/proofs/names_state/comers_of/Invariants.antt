use Rattle.std.proofs.Common.{◌≡◌, ◌++◌}
use Rattle.wc_text.specs.Words.{words_of, words_left}
use Rattle.wc_irc.specs.NameActs.{listed_seats}
use Rattle.wc_irc.specs.NamesSeen.{seats_of_comers, AllMayCome}
use Rattle.wc_irc.proofs.names_state.comers_of.Given as goal

abbrev pub invariant-loop-name : goal.invariant-loop-name
invariant-loop-name l = record {
  may : AllMayCome l.case_map l.comers.items;
  same : seats_of_comers l.comers.items ++ listed_seats l.prefixes l.has_hosts (words_left l.name-iterator) ≡ listed_seats l.prefixes l.has_hosts (words_of l.names);
}
