use Rattle.std.proofs.Common.{take, length, ◌++◌}
use Rattle.std.specs.List.{flat_map}
use Rattle.wc_objects.specs.Spelling.{Puts, item_bytes, be32}
use Rattle.wc_objects.proofs.write.put_items.Given as goal

abbrev pub invariant-loop-item : goal.invariant-loop-item
invariant-loop-item l = Puts l.fn.out l.out (be32 (length l.items) ++ flat_map item_bytes (take l.item-index l.items))
