use Rattle.std.proofs.Common.{take, length, ◌++◌}
use Rattle.std.specs.List.{flat_map}
use Rattle.wc_objects.specs.Spelling.{Puts, variable_bytes, be32}
use Rattle.wc_objects.proofs.write.put_variables.Given as goal

abbrev pub invariant-loop-variable : goal.invariant-loop-variable
invariant-loop-variable l = Puts l.fn.out l.out (be32 (length l.variables) ++ flat_map variable_bytes (take l.variable-index l.variables))
