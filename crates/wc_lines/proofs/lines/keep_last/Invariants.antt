use Rattle.std.proofs.Common.{◌≡◌}
use Rattle.std.specs.VecDeque.{deque_len, deque_capacity}
use Rattle.wc_lines.specs.Ring.{last_of}
use Rattle.wc_lines.proofs.lines.keep_last.Given as goal

-- the lines that are to be left are there, in the room that there was
abbrev pub invariant-loop-lines : goal.invariant-loop-lines
invariant-loop-lines l = (last_of l.limit l.lines.items ≡ last_of l.limit l.initial.lines.items) × (deque_capacity l.lines ≡ deque_capacity l.initial.lines)

abbrev pub decreases-loop-lines : goal.decreases-loop-lines
decreases-loop-lines l = deque_len l.lines
