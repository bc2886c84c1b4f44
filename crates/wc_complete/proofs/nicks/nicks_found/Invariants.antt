use Rattle.std.proofs.Common.{◌≡◌, ◌++◌}
use Rattle.std.specs.Prelude.{filter}
use Rattle.wc_complete.specs.Candidates.{begins_as}
use Rattle.wc_complete.specs.NickNames.{nick_names}
use Rattle.wc_complete.proofs.nicks.nicks_found.Given as goal

-- those of the rows so far, and those of the rows that are left
abbrev pub invariant-loop-row : goal.invariant-loop-row
invariant-loop-row l = l.found.items ++ filter (begins_as l.base) (nick_names l.row-iterator) ≡ filter (begins_as l.base) (nick_names l.nicks.rows)
