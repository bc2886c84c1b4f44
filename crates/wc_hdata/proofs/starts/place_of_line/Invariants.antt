use Rattle.std.proofs.Common.{◌≡◌, ◌+◌, map, length}
use Rattle.wc_lines.specs.LinesLeft.{lines_left}
use Rattle.wc_hdata.specs.Lists.{held_by}
use Rattle.wc_hdata.specs.Starts.{place_of_line}
use Rattle.wc_hdata.proofs.starts.place_of_line.Given as goal

abbrev pub invariant-loop-line : goal.invariant-loop-line
invariant-loop-line l = record {
  place : place_of_line l.pointer (map (held_by l.fn.buffer) l.lines.lines) ≡ l.at + place_of_line l.pointer (map (held_by l.fn.buffer) (lines_left l.line-iterator));
  count : l.at + length (lines_left l.line-iterator) ≡ length l.lines.lines;
}
