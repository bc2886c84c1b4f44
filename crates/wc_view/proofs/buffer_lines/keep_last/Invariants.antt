use Rattle.std.proofs.Common.{◌≡◌}
use Rattle.std.specs.VecDeque.{deque_len}
use Rattle.wc_lines.specs.Ring.{last_of}
use Rattle.wc_view.proofs.buffer_lines.keep_last.Given as goal

abbrev pub invariant-loop-lines : goal.invariant-loop-lines
invariant-loop-lines l = last_of l.limit l.lines.items ≡ last_of l.limit l.initial.lines.items

abbrev pub decreases-loop-lines : goal.decreases-loop-lines
decreases-loop-lines l = deque_len l.lines
