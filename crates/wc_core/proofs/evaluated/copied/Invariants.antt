use Rattle.std.proofs.Common.{◌≡◌, ◌++◌}
use Rattle.wc_core.proofs.evaluated.copied.Given as goal

-- the variables so far, and those that are left
abbrev pub invariant-loop-name : goal.invariant-loop-name
invariant-loop-name l = l.locals ++ l.name-iterator ≡ l.vars
