use Rattle.std.proofs.Common.{take, length, ◌++◌}
use Rattle.std.specs.List.{flat_map}
use Rattle.wc_objects.specs.Spelling.{Puts, with_count, variable_bytes, be32}
use Rattle.wc_objects.proofs.write.put_lists.Given as goal

abbrev pub invariant-loop-list : goal.invariant-loop-list
invariant-loop-list l = Puts l.fn.out l.out (be32 (length l.lists) ++ flat_map (with_count variable_bytes) (take l.list-index l.lists))
