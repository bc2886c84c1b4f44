use Rattle.std.proofs.Common.{◌≡◌, ◌++◌, map, take, drop}
use Rattle.wc_lines.specs.Flags.{flag_at, with_own_flag}
use Rattle.wc_lines.proofs.lines.set_flags.Given as goal

-- the lines up to here have their flags, and the others are as they were
abbrev pub invariant-loop-line : goal.invariant-loop-line
invariant-loop-line l = l.lines ≡ map (with_own_flag (flag_at l.flags)) (take l.line-index l.initial.lines) ++ drop l.line-index l.initial.lines
