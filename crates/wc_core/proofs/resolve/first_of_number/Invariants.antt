use Rattle.std.proofs.Common.{◌≡◌}
use Rattle.wc_core.specs.Resolved.{first_of_number}
use Rattle.wc_core.proofs.ResolvedWords.{at_place}
use Rattle.wc_core.proofs.resolve.first_of_number.Given as goal

abbrev pub invariant-loop-group : goal.invariant-loop-group
invariant-loop-group l = first_of_number l.buffers l.number ≡ at_place l.group-iterator l.left
