use Rattle.std.proofs.Common.{◌≡◌, ◌++◌, take, drop}
use Rattle.wc_hooks.specs.Ranks.{put_by}
use Rattle.wc_hooks.specs.Slots.{slot_rank}
use Rattle.wc_hooks.proofs.slots.place_of.Given as goal

abbrev pub invariant-loop-at : goal.invariant-loop-at
invariant-loop-at l = put_by slot_rank l.slot l.slots ≡ take l.at l.slots ++ put_by slot_rank l.slot (drop l.at l.slots)
