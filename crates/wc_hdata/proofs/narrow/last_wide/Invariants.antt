use Rattle.std.proofs.Common.{◌≡◌, ◌<◌, true, drop, length}
use Rattle.wc_hdata.specs.Narrow.{others_give_one}
use Rattle.wc_hdata.proofs.narrow.last_wide.Given as goal

abbrev pub invariant-loop-last : goal.invariant-loop-last
invariant-loop-last l = record {
  inside : l.last < length l.steps;
  narrow : others_give_one (drop l.last l.steps) ≡ true;
}

abbrev pub decreases-loop-last : goal.decreases-loop-last
decreases-loop-last l = l.last
