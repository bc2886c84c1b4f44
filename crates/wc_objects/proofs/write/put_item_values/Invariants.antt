use Rattle.std.proofs.Common.{take}
use Rattle.std.specs.List.{flat_map}
use Rattle.wc_objects.specs.Spelling.{Puts, value_bytes}
use Rattle.wc_objects.proofs.write.put_item_values.Given as goal

abbrev pub invariant-loop-value : goal.invariant-loop-value
invariant-loop-value l = Puts l.fn.out l.out (flat_map value_bytes (take l.value-index l.values))
