use Rattle.std.proofs.Common.{filter}
use Rattle.wc_lines.specs.LinesLeft.{lines_left}
use Rattle.wc_model.specs.Parts.{is_flipped}
use Rattle.wc_events.proofs.LinesTold.{PutsAmid}
use Rattle.wc_events.proofs.line_items.put_flipped.Given as goal

abbrev pub invariant-loop-line : goal.invariant-loop-line
invariant-loop-line l = PutsAmid l.buffer l.keys l.fn.out l.out (filter (is_flipped l.flips) l.lines.lines) (filter (is_flipped l.flips) (lines_left l.line-iterator))
