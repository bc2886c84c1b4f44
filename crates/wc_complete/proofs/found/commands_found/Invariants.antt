use Rattle.std.proofs.Common.{◌≡◌, take}
use Rattle.std.specs.Prelude.{filter}
use Rattle.wc_complete.specs.Candidates.{begins_as, slashed, all_slashed}
use Rattle.wc_complete.proofs.found.commands_found.Given as goal

-- those of the commands so far
abbrev pub invariant-loop-name : goal.invariant-loop-name
invariant-loop-name l = l.found.items ≡ filter (begins_as (slashed l.base)) (all_slashed (take l.name-index l.commands))
