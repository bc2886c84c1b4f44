use Rattle.std.proofs.Common.{◌≡◌, length}
use Rattle.wc_filters.specs.Patterns.{from_tab}
use Rattle.wc_filters.proofs.search.from_tab.Given as goal

abbrev pub invariant-loop-rest : goal.invariant-loop-rest
invariant-loop-rest l = from_tab l.rest ≡ from_tab l.text

abbrev pub decreases-loop-rest : goal.decreases-loop-rest
decreases-loop-rest l = length l.rest
