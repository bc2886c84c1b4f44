use Rattle.std.proofs.Common.{◌≡◌, length}
use Rattle.wc_filters.specs.Hides.{hides}
use Rattle.wc_filters.specs.Parts.{tags_in}
use Rattle.wc_filters.proofs.filters.hides.Given as goal

-- the filters up to here hide nothing
abbrev pub invariant-loop-rest : goal.invariant-loop-rest
invariant-loop-rest l =
    hides l.rest l.full_name (tags_in l.line.tags) l.line.prefix.now l.line.message.now
    ≡ hides l.rows l.full_name (tags_in l.line.tags) l.line.prefix.now l.line.message.now

abbrev pub decreases-loop-rest : goal.decreases-loop-rest
decreases-loop-rest l = length l.rest
