use Rattle.std.proofs.Common.{◌≡◌, length}
use Rattle.wc_view.specs.BufferFold.{are_once}
use Rattle.wc_view.proofs.told.are_once.Given as goal

abbrev pub invariant-loop-rest : goal.invariant-loop-rest
invariant-loop-rest l = are_once l.rest ≡ are_once l.rows

abbrev pub decreases-loop-rest : goal.decreases-loop-rest
decreases-loop-rest l = length l.rest
