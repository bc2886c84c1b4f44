use Rattle.std.proofs.Common.{◌≡◌, ◌++◌}
use Rattle.wc_lines.specs.Flags.{flag_at}
use Rattle.wc_lines.specs.LinesLeft.{lines_left}
use Rattle.wc_world.specs.Flips.{differing_handles}
use Rattle.wc_world.proofs.flags.push_differing.Given as goal

abbrev pub invariant-loop-line : goal.invariant-loop-line
invariant-loop-line l = l.contents ++ differing_handles (flag_at l.flags) (lines_left l.line-iterator) ≡ l.fn.contents ++ differing_handles (flag_at l.flags) l.lines.lines
