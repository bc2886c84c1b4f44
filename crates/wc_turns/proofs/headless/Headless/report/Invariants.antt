use Rattle.std.proofs.Common.{take}
use Rattle.wc_turns.specs.Steps.{ReportsSources}
use Rattle.wc_turns.proofs.headless.Headless.report.Given as goal

-- the first sources are kept
abbrev pub invariant-loop-place : goal.invariant-loop-place
invariant-loop-place l = ReportsSources l.fn.self l.self (take l.place l.ready.tokens)
