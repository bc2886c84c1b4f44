use Rattle.std.proofs.Common.{◌≡◌, ◌++◌, map, take, drop}
use Rattle.wc_triggers.specs.Kept.{with_flag}
use Rattle.wc_triggers.proofs.triggers.enable.Given as goal

-- the triggers up to here are switched, and the others are as they were
abbrev pub invariant-loop-row : goal.invariant-loop-row
invariant-loop-row l = l.rows ≡ map (with_flag l.name l.on) (take l.row-index l.initial.rows) ++ drop l.row-index l.initial.rows
