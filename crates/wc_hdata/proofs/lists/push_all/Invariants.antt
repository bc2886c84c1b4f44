use Rattle.std.proofs.Common.{◌≡◌, ◌++◌, drop}
use Rattle.std.specs.List.{AllByRecursion}
use Rattle.wc_hdata.specs.Kept.{IsHeld, IsThere}
use Rattle.wc_hdata.specs.Lists.{lines_of_all}
use Rattle.wc_hdata.specs.Reached.{held_lines}
use Rattle.wc_hdata.proofs.lists.push_all.Given as goal

abbrev pub invariant-loop-buffer : goal.invariant-loop-buffer
invariant-loop-buffer l = record {
  lines : held_lines l.lines.items ++ lines_of_all l.world (drop l.buffer-index l.buffers) ≡ held_lines l.fn.lines.items ++ lines_of_all l.world l.buffers;
  there : AllByRecursion (IsThere l.world.groups) (drop l.buffer-index l.buffers);
  held : AllByRecursion (IsHeld l.world) (held_lines l.lines.items);
}
