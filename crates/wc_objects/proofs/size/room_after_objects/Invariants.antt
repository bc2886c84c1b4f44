use Rattle.std.proofs.Common.{◌≡◌, ◌+◌, length, take}
use Rattle.std.specs.List.{flat_map}
use Rattle.wc_objects.specs.Spelling.{object_bytes}
use Rattle.wc_objects.proofs.size.room_after_objects.Given as goal

abbrev pub invariant-loop-object : goal.invariant-loop-object
invariant-loop-object l = l.left + length (flat_map object_bytes (take l.object-index l.objects)) ≡ l.room
