use Rattle.std.proofs.Common.{◌≡◌, ◌≤◌, length}
use Rattle.std.specs.Vec.Iter.{into_iter_items}
use Rattle.wc_irc_nicks.specs.Merged.{merged}
use Rattle.wc_irc.specs.NamesSeen.{seats_of_comers, AllMayCome}
use Rattle.wc_irc.proofs.names_state.put_all.Given as goal

abbrev pub invariant-loop-comer : goal.invariant-loop-comer
invariant-loop-comer l = record {
  case_map : l.list.case_map ≡ l.fn.list.case_map;
  may : AllMayCome l.fn.list.case_map (into_iter_items l.comer-iterator);
  room : length (into_iter_items l.comer-iterator) ≤ l.list.room;
  same : merged l.fn.list.case_map (seats_of_comers (into_iter_items l.comer-iterator)) l.list.seats ≡ merged l.fn.list.case_map (seats_of_comers l.fn.comers.items) l.fn.list.seats;
}
