use Rattle.std.proofs.Common.{◌≡◌, take, None}
use Rattle.std.specs.FinMap.{find}
use Rattle.std.specs.Ordering.{nat_cmp}
use Rattle.wc_view.proofs.buffer_nicks.place_of.Given as goal

abbrev pub invariant-loop-i : goal.invariant-loop-i
invariant-loop-i l = find nat_cmp l.buffer (take l.i l.entries) ≡ None
