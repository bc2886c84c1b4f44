use Rattle.std.proofs.Common.{◌≡◌, fold}
use Rattle.wc_view.specs.Runs.{nothing_open, with_row}
use Rattle.wc_view.proofs.told.runs.Given as goal

abbrev pub invariant-loop-row : goal.invariant-loop-row
invariant-loop-row l = l.last ≡ fold with_row nothing_open l.yielded
