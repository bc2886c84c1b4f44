use Rattle.std.proofs.Common.{◌≡◌, drop}
use Rattle.wc_irc.specs.ModeActs.{with_changes}
use Rattle.wc_irc_texts.specs.ModesSeen.{changes_in}
use Rattle.wc_irc.proofs.names_state.take_changes.Given as goal

abbrev pub invariant-loop-change : goal.invariant-loop-change
invariant-loop-change l = record {
  case_map : l.list.case_map ≡ l.fn.list.case_map;
  same : with_changes l.prefixes l.fn.list.case_map (changes_in (drop l.change-index l.changes)) l.list.seats ≡ with_changes l.prefixes l.fn.list.case_map (changes_in l.changes) l.fn.list.seats;
}
