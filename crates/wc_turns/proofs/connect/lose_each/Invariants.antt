use Rattle.std.proofs.Common.{◌≡◌, false, take}
use Rattle.wc_turns.specs.Steps.{LosesEach}
use Rattle.wc_turns.proofs.connect.lose_each.Given as goal

-- the first links are lost
abbrev pub invariant-loop-link : goal.invariant-loop-link
invariant-loop-link l = record {
  going : l.core.quits ≡ false;
  loses : LosesEach (take l.link-index l.links) l.fn.core l.core;
}
