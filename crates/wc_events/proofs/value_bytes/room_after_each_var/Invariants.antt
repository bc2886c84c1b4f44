use Rattle.std.proofs.Common.{◌≡◌, ◌+◌, length}
use Rattle.std.specs.List.{flat_map}
use Rattle.wc_events.specs.ValueBytes.{var_bytes}
use Rattle.wc_events.proofs.value_bytes.room_after_each_var.Given as goal

abbrev pub invariant-loop-name : goal.invariant-loop-name
invariant-loop-name l = l.left + length (flat_map var_bytes l.vars) ≡ l.room + length (flat_map var_bytes l.name-iterator)
