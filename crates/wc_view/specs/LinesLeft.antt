-- The lines that an iterator has still to give.
use Rattle.std.specs.Prelude.{List, [], Option, Some, None}
use Rattle.std.specs.VecDeque.Iter.{deque_iter_rest}
use Rattle.std.specs.declared.collections.vec_deque.Iter.{Iter}
use Rattle.wc_view.specs.declared.mirror_buffer.MirrorLine.{MirrorLine}
use Rattle.wc_view.specs.declared.mirror_line.MirrorLineIter.{MirrorLineIter}

abbrev pub lines_in : Option (Iter MirrorLine) → List MirrorLine
lines_in None = []
lines_in (Some lines) = deque_iter_rest lines

abbrev pub mirror_lines_left : MirrorLineIter → List MirrorLine
mirror_lines_left it = lines_in it.lines
