use Rattle.std.proofs.Common.{◌≡◌, ◌≤◌, length}
use Rattle.wc_options.specs.Number.{decimal_from}
use Rattle.wc_options.proofs.number.digits_in.Given as goal

abbrev pub invariant-loop-rest : goal.invariant-loop-rest
invariant-loop-rest l =
    (decimal_from l.value l.rest ≡ decimal_from 0 l.text) × (l.value ≤ l.highest)

abbrev pub decreases-loop-rest : goal.decreases-loop-rest
decreases-loop-rest l = length l.rest
