use Rattle.std.proofs.Common.{◌≡◌, drop}
use Rattle.wc_view.specs.Each.{each, following}
use Rattle.wc_view.specs.Values.{pair_in}
use Rattle.wc_view.proofs.values.each_pair.Given as goal

-- the pairs so far and those that are left
abbrev pub invariant-loop-pair : goal.invariant-loop-pair
invariant-loop-pair l = (following l.found (each pair_in (drop l.pair-index l.pair-items)) ≡ each pair_in l.pairs) × (l.pair-items ≡ l.pairs)
