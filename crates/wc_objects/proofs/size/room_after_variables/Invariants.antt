use Rattle.std.proofs.Common.{◌≡◌, ◌+◌, length, take}
use Rattle.std.specs.List.{flat_map}
use Rattle.wc_objects.specs.Spelling.{variable_bytes}
use Rattle.wc_objects.proofs.size.room_after_variables.Given as goal

abbrev pub invariant-loop-variable : goal.invariant-loop-variable
invariant-loop-variable l = l.left + length (flat_map variable_bytes (take l.variable-index l.variables)) + 4 ≡ l.room
