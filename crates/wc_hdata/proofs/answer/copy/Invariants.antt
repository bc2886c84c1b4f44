use Rattle.std.proofs.Common.{◌≡◌, ◌++◌, drop}
use Rattle.wc_hdata.proofs.answer.copy.Given as goal

abbrev pub invariant-loop-pointer : goal.invariant-loop-pointer
invariant-loop-pointer l = l.copy ++ drop l.pointer-index l.pointers ≡ l.pointers
