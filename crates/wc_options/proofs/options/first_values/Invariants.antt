use Rattle.std.proofs.Common.{◌≡◌, map, take}
use Rattle.wc_options.specs.Kept.{unset_at_first}
use Rattle.wc_options.specs.Table.{globals}
use Rattle.wc_options.proofs.options.first_values.Given as goal

abbrev pub invariant-loop : goal.invariant-loop
invariant-loop l = l.set.items ≡ map unset_at_first (take l.counter globals)
