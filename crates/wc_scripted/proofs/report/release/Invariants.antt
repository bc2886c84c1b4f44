use Rattle.std.proofs.Common.{take}
use Rattle.wc_scripted.specs.Rows.{Noted}
use Rattle.wc_scripted.proofs.report.release.Given as goal

abbrev pub invariant-loop-step : goal.invariant-loop-step
invariant-loop-step l = Noted l.fn.rows l.rows l.fn.arriving l.arriving (take l.step-index l.steps)
