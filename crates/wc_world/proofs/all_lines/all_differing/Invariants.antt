use Rattle.std.proofs.Common.{◌≡◌, ◌++◌, drop}
use Rattle.wc_lines.specs.Flags.{flag_at}
use Rattle.wc_world.specs.Flips.{all_differing}
use Rattle.wc_world.specs.Near.{numbers}
use Rattle.wc_world.proofs.all_lines.all_differing.Given as goal

abbrev pub invariant-loop-h : goal.invariant-loop-h
invariant-loop-h l = l.contents ++ all_differing (flag_at l.flags) l.held (numbers (drop l.h-index l.buffers)) ≡ all_differing (flag_at l.flags) l.held (numbers l.buffers)
