use Rattle.std.proofs.Common.{◌≡◌, ◌+◌, length, take}
use Rattle.std.specs.List.{flat_map}
use Rattle.wc_objects.specs.Spelling.{with_count, variable_bytes}
use Rattle.wc_objects.proofs.size.room_after_lists.Given as goal

abbrev pub invariant-loop-list : goal.invariant-loop-list
invariant-loop-list l = l.left + length (flat_map (with_count variable_bytes) (take l.list-index l.lists)) + 4 ≡ l.room
