use Rattle.std.proofs.Common.{take, length, ◌++◌}
use Rattle.std.specs.List.{flat_map}
use Rattle.wc_objects.specs.Spelling.{Puts, simple_bytes, be32}
use Rattle.wc_objects.proofs.write.put_values.Given as goal

abbrev pub invariant-loop-value : goal.invariant-loop-value
invariant-loop-value l = Puts l.fn.out l.out (be32 (length l.values) ++ flat_map simple_bytes (take l.value-index l.values))
