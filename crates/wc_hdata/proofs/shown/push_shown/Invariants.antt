use Rattle.std.specs.List.{AllByRecursion}
use Rattle.wc_hdata.specs.Shown.{IsShown}
use Rattle.wc_hdata.proofs.shown.push_shown.Given as goal

abbrev pub invariant-loop-buffer : goal.invariant-loop-buffer
invariant-loop-buffer l = AllByRecursion (IsShown l.buffers) l.shown.items
