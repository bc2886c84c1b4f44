use Rattle.std.proofs.Common.{◌≤◌, ◌-◌, length, map, take}
use Rattle.wc_nicklist.specs.Order.{key_at, address_of}
use Rattle.wc_nicklist.specs.Stored.{entry_row, AllBefore}
use Rattle.wc_nicklist.proofs.leaf.place.Given as goal

-- the rows so far are before the address
abbrev pub invariant-loop-at : goal.invariant-loop-at
invariant-loop-at l = record {
  within : l.at ≤ length l.entries;
  left : AllBefore (take l.at (map (entry_row l.store) l.entries)) (address_of l.address.path.now (key_at l.address.is_group l.address.name.now));
}

abbrev pub decreases-loop-at : goal.decreases-loop-at
decreases-loop-at l = length l.entries - l.at
