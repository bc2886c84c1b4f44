use Rattle.std.proofs.Common.{◌≡◌, ◌++◌, drop}
use Rattle.wc_hdata.specs.Keys.{without_own}
use Rattle.wc_hdata.proofs.keys.without_own.Given as goal

abbrev pub invariant-loop-key : goal.invariant-loop-key
invariant-loop-key l = l.usual ++ without_own (drop l.key-index l.keys) ≡ without_own l.keys
