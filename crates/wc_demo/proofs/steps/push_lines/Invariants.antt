use Rattle.std.proofs.Common.{◌≡◌, ◌++◌}
use Rattle.wc_demo.specs.Script.{steps_to}
use Rattle.wc_demo.proofs.steps.push_lines.Given as goal

-- the lines so far
abbrev pub invariant-loop-place : goal.invariant-loop-place
invariant-loop-place l = l.steps ≡ l.initial.steps ++ steps_to l.place
