use Rattle.std.proofs.Common.{◌≡◌, false, length}
use Rattle.wc_turns.proofs.FeedLemmas.{Fed}
use Rattle.wc_turns.proofs.feed.feed.Given as goal

-- the lines so far are served
abbrev pub invariant-loop-line : goal.invariant-loop-line
invariant-loop-line l = record {
  going : l.core.quits ≡ false;
  idle : l.ran ≡ 0 → (l.fn.ran ≡ 0) × (l.core ≡ l.fn.core);
  fed : Fed l.fn.core l.core l.link.0 l.fn.tail l.tail l.fn.ran l.ran l.bytes l.rest;
}

abbrev pub decreases-loop-line : goal.decreases-loop-line
decreases-loop-line l = length l.rest
