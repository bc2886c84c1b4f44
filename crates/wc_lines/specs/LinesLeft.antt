-- The lines that an iterator has still to give.
use Rattle.std.specs.Prelude.{List}
use Rattle.std.specs.VecDeque.Iter.{deque_iter_rest}
use Rattle.wc_lines.specs.declared.line.Line.{Line}
use Rattle.wc_lines.specs.declared.lines.LineIter.{LineIter}

abbrev pub lines_left : LineIter → List Line
lines_left it = deque_iter_rest it.lines
