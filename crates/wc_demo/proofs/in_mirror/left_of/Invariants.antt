use Rattle.std.proofs.Common.{◌≡◌, ◌+◌, length}
use Rattle.wc_view.specs.LinesLeft.{mirror_lines_left}
use Rattle.wc_demo.proofs.in_mirror.left_of.Given as goal

-- the lines so far, and those that are left
abbrev pub invariant-loop-line : goal.invariant-loop-line
invariant-loop-line l = l.count + length (mirror_lines_left l.line-iterator) ≡ length (mirror_lines_left l.fn.lines)
