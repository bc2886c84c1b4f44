use Rattle.std.proofs.Common.{◌≡◌, ◌≤◌, ◌-◌, slice_index_or, []}
use Rattle.wc_irc_texts.specs.Pieces.{pieces_left, length_left}
use Rattle.wc_irc_texts.specs.Modes.{mode_list}
use Rattle.wc_irc_texts.proofs.modes.mode_list.Given as goal

abbrev pub invariant-loop-left : goal.invariant-loop-left
invariant-loop-left l = record {
  within : l.skipped ≤ l.number;
  same : slice_index_or (pieces_left l.left) (l.number - l.skipped) [] ≡ mode_list l.number l.value;
}

abbrev pub decreases-loop-left : goal.decreases-loop-left
decreases-loop-left l = length_left l.left
