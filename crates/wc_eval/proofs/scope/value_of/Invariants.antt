use Rattle.std.proofs.Common.{◌≡◌, drop}
use Rattle.wc_eval.specs.Names.{value_of}
use Rattle.wc_eval.proofs.scope.value_of.Given as goal

abbrev pub invariant-loop-pair : goal.invariant-loop-pair
invariant-loop-pair l = value_of l.name (drop l.pair-index l.pairs) ≡ value_of l.name l.pairs
