use Rattle.std.proofs.Common.{◌≡◌, ◌++◌, take}
use Rattle.wc_world.proofs.all_lines.push_all.Given as goal

abbrev pub invariant-loop-h : goal.invariant-loop-h
invariant-loop-h l = l.all ≡ l.fn.all ++ take l.h-index l.group
