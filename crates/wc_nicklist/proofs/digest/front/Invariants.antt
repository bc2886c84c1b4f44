use Rattle.std.proofs.Common.{◌≡◌}
use Rattle.wc_nicklist.specs.Digest.{front, bytes_compared}
use Rattle.wc_nicklist.proofs.digest.front.Given as goal

-- the bytes so far
abbrev pub invariant-loop-i : goal.invariant-loop-i
invariant-loop-i l = l.front ≡ front l.i (bytes_compared l.keeps_case l.bytes)
