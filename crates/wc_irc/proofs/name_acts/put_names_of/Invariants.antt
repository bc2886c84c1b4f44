use Rattle.std.proofs.Common.{◌≡◌, ◌++◌}
use Rattle.wc_text.specs.Words.{words_of, words_left}
use Rattle.wc_irc.specs.NameActs.{listed_seats, placed_all}
use Rattle.wc_irc_nicks.specs.OverlaySeen.{seats_over}
use Rattle.wc_irc.proofs.name_acts.put_names_of.Given as goal

abbrev pub invariant-loop-name : goal.invariant-loop-name
invariant-loop-name l = record {
  list : l.overlay.list.now ≡ l.list;
  same : l.acts ++ placed_all l.groups.prefixes.now l.groups.buffer.now l.list.case_map (listed_seats l.groups.prefixes.now l.has_hosts (words_left l.name-iterator)) (seats_over l.overlay)
      ≡ l.fn.acts ++ placed_all l.groups.prefixes.now l.groups.buffer.now l.list.case_map (listed_seats l.groups.prefixes.now l.has_hosts (words_of l.names)) l.list.seats;
}
