use Rattle.std.proofs.Common.{filter}
use Rattle.wc_lines.specs.LinesLeft.{lines_left}
use Rattle.wc_model.specs.Parts.{is_flipped}
use Rattle.wc_events.proofs.LinesTold.{IsAmid}
use Rattle.wc_events.proofs.line_items.room_after_flipped.Given as goal

abbrev pub invariant-loop-line : goal.invariant-loop-line
invariant-loop-line l = IsAmid l.buffer l.keys l.fn.whole l.left (filter (is_flipped l.flips) l.lines.lines) (filter (is_flipped l.flips) (lines_left l.line-iterator))
