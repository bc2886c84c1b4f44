use Rattle.std.proofs.Common.{◌≡◌, ◌+◌, length, take}
use Rattle.std.specs.List.{flat_map}
use Rattle.wc_events.specs.NickBytes.{key_bytes}
use Rattle.wc_events.proofs.nick_bytes.room_after_values.Given as goal

abbrev pub invariant-loop-key : goal.invariant-loop-key
invariant-loop-key l = l.left + length (flat_map (key_bytes l.nick) (take l.key-index l.keys)) ≡ l.room
