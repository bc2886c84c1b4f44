use Rattle.std.proofs.Common.{◌≡◌, ◌+◌, ◌≤◌, ◌++◌, take, drop, vec_len}
use Rattle.std.specs.Prelude.{vec_capacity}
use Rattle.wc_nicklist.proofs.leaf.move_half.Given as goal

-- what was moved came after the first half, before what is still to move
abbrev pub invariant-loop-lower : goal.invariant-loop-lower
invariant-loop-lower l = record {
  rows : l.fn.lower.items ≡ take 32 l.lower.items ++ (l.upper.items ++ drop 32 l.lower.items);
  total : vec_len l.lower + vec_len l.upper ≡ 64;
  half : 32 ≤ vec_len l.lower;
  roomy : 64 ≤ vec_capacity l.upper;
  upper_capacity : vec_capacity l.upper ≡ vec_capacity l.fn.upper;
  lower_capacity : vec_capacity l.lower ≡ vec_capacity l.fn.lower;
}

abbrev pub decreases-loop-lower : goal.decreases-loop-lower
decreases-loop-lower l = vec_len l.lower
