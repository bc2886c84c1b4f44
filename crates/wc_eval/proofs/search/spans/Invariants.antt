use Rattle.std.proofs.Common.{◌≡◌, take}
use Rattle.wc_eval.proofs.search.spans.Given as goal

abbrev pub invariant-loop-n : goal.invariant-loop-n
invariant-loop-n l = l.spans ≡ take l.n l.locations.spans.items
