use Rattle.std.proofs.Common.{◌≡◌, map, take}
use Rattle.wc_options.specs.Table.{OptionRow, globals}
use Rattle.wc_options.proofs.options.first_defaults.Given as goal

abbrev pub invariant-loop-place : goal.invariant-loop-place
invariant-loop-place l = l.defaults.items ≡ map (λ (row : OptionRow). row.default) (take l.place globals)
