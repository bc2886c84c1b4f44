use Rattle.std.proofs.Common.{◌≡◌, map}
use Rattle.wc_lines.specs.LinesLeft.{lines_left}
use Rattle.wc_hdata.specs.Lists.{held_by}
use Rattle.wc_hdata.specs.Starts.{named_in}
use Rattle.wc_hdata.proofs.starts.line_in.Given as goal

abbrev pub invariant-loop-line : goal.invariant-loop-line
invariant-loop-line l = named_in l.element l.pointer (map (held_by l.buffer) l.lines.lines) ≡ named_in l.element l.pointer (map (held_by l.buffer) (lines_left l.line-iterator))
