use Rattle.std.proofs.Common.{◌≡◌, ◌++◌, length}
use Rattle.wc_relaycmd.specs.Lists.{pairs_of}
use Rattle.wc_relaycmd.proofs.lists.pairs.Given as goal

abbrev pub invariant-loop-pairs : goal.invariant-loop-pairs
invariant-loop-pairs l = l.pairs ++ pairs_of l.rest ≡ pairs_of l.list

abbrev pub decreases-loop-pairs : goal.decreases-loop-pairs
decreases-loop-pairs l = length l.rest
