use Rattle.std.proofs.Common.{◌≡◌, ◌++◌, map, take, drop}
use Rattle.wc_scripted.specs.Rows.{refilled}
use Rattle.wc_scripted.proofs.rows.refill.Given as goal

abbrev pub invariant-loop-row : goal.invariant-loop-row
invariant-loop-row l = l.rows ≡ map refilled (take l.row-index l.initial.rows) ++ drop l.row-index l.initial.rows
