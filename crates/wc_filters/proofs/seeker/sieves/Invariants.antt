use Rattle.std.proofs.Common.{◌≡◌, ◌++◌, length}
use Rattle.wc_filters.specs.Finders.{concerning}
use Rattle.wc_filters.proofs.seeker.sieves.Given as goal

-- those up to here that concern the buffer are ready
abbrev pub invariant-loop-rest : goal.invariant-loop-rest
invariant-loop-rest l = l.sieves.items ++ concerning l.full_name l.rest ≡ concerning l.full_name l.rows

abbrev pub decreases-loop-rest : goal.decreases-loop-rest
decreases-loop-rest l = length l.rest
