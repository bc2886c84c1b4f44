use Rattle.std.proofs.Common.{◌≡◌, ◌+◌, length, take}
use Rattle.std.specs.List.{flat_map}
use Rattle.wc_objects.specs.Spelling.{item_bytes}
use Rattle.wc_objects.proofs.size.room_after_items.Given as goal

abbrev pub invariant-loop-item : goal.invariant-loop-item
invariant-loop-item l = l.left + length (flat_map item_bytes (take l.item-index l.items)) ≡ l.room
