use Rattle.std.proofs.Common.{◌≡◌, ◌++◌, drop}
use Rattle.wc_irc.specs.ModeActs.{changes_acts}
use Rattle.wc_irc_texts.specs.ModesSeen.{changes_in}
use Rattle.wc_irc_nicks.specs.OverlaySeen.{seats_over}
use Rattle.wc_irc.proofs.mode_acts.put_changes.Given as goal

abbrev pub invariant-loop-change : goal.invariant-loop-change
invariant-loop-change l = record {
  list : l.overlay.list.now ≡ l.list;
  same : l.acts ++ changes_acts l.groups.prefixes.now l.groups.buffer.now l.list.case_map (changes_in (drop l.change-index l.changes)) (seats_over l.overlay)
      ≡ l.fn.acts ++ changes_acts l.groups.prefixes.now l.groups.buffer.now l.list.case_map (changes_in l.changes) l.list.seats;
}
