use Rattle.std.proofs.Common.{◌≡◌, ◌≤◌, ◌+◌, ◌++◌, length}
use Rattle.std.specs.List.{flat_map}
use Rattle.wc_events.specs.ValueBytes.{var_bytes}
use Rattle.wc_events.proofs.value_bytes.put_each_var.Given as goal

abbrev pub invariant-loop-name : goal.invariant-loop-name
invariant-loop-name l =
    (l.out.items ++ flat_map var_bytes l.name-iterator ≡ l.fn.out.items ++ flat_map var_bytes l.vars) ×
    (l.out.spare + length (flat_map var_bytes l.vars) ≡ l.fn.out.spare + length (flat_map var_bytes l.name-iterator)) ×
    (length (flat_map var_bytes l.name-iterator) ≤ length (flat_map var_bytes l.vars))
