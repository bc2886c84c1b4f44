use Rattle.std.proofs.Common.{◌≡◌, ◌++◌, map}
use Rattle.wc_lines.specs.LinesLeft.{lines_left}
use Rattle.wc_hdata.specs.Lists.{held_by}
use Rattle.wc_hdata.specs.Reached.{held_lines}
use Rattle.wc_hdata.proofs.lists.push_each.Given as goal

abbrev pub invariant-loop-line : goal.invariant-loop-line
invariant-loop-line l = held_lines l.lines.items ++ map (held_by l.buffer) (lines_left l.line-iterator) ≡ held_lines l.fn.lines.items ++ map (held_by l.buffer) l.own.lines
