use Rattle.std.proofs.Common.{◌≡◌, ◌+◌, length, take}
use Rattle.std.specs.List.{flat_map}
use Rattle.wc_objects.specs.Spelling.{value_bytes}
use Rattle.wc_objects.proofs.size.room_after_item_values.Given as goal

abbrev pub invariant-loop-value : goal.invariant-loop-value
invariant-loop-value l = l.left + length (flat_map value_bytes (take l.value-index l.values)) ≡ l.room
