use Rattle.std.proofs.Common.{◌≡◌, ◌+◌, length, take}
use Rattle.std.specs.List.{flat_map}
use Rattle.wc_hdata.specs.Reached.{place_of}
use Rattle.wc_hdata.specs.WalkBytes.{key_bytes}
use Rattle.wc_hdata.proofs.item_bytes.room_after_each.Given as goal

abbrev pub invariant-loop-key : goal.invariant-loop-key
invariant-loop-key l = l.left + length (flat_map (key_bytes l.lists.world (place_of l.place)) (take l.key-index l.keys)) ≡ l.room
