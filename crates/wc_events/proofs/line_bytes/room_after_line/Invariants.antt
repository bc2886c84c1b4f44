use Rattle.std.proofs.Common.{◌≡◌, ◌+◌, length, take}
use Rattle.std.specs.List.{flat_map}
use Rattle.wc_events.specs.ValueBytes.{line_bytes}
use Rattle.wc_events.proofs.line_bytes.room_after_line.Given as goal

abbrev pub invariant-loop-key : goal.invariant-loop-key
invariant-loop-key l = l.left + length (flat_map (line_bytes l.buffer l.line) (take l.key-index l.keys)) ≡ l.room
