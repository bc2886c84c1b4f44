use Rattle.std.proofs.Common.{◌≡◌, ◌++◌, take, drop}
use Rattle.wc_view.specs.Parts.{with_line_flag}
use Rattle.wc_view.proofs.buffer_lines.flag_lines.Given as goal

abbrev pub invariant-loop-line : goal.invariant-loop-line
invariant-loop-line l = l.lines ≡ with_line_flag l.flag (take l.line-index l.initial.lines) ++ drop l.line-index l.initial.lines
