use Rattle.std.proofs.Common.{◌≡◌, ℕ, ◌≤◌, ◌<◌, length, get_or, bit_xor}
use Rattle.wc_relaycmd.proofs.pads.xor_into.Given as goal

abbrev pub invariant-bytes : goal.invariant-bytes
invariant-bytes g l =
    ((k : ℕ) → k < l.i → get_or l.total k 0 ≡ bit_xor (get_or l.fn.total k 0) (get_or l.other k 0))
    × ((k : ℕ) → l.i ≤ k → get_or l.total k 0 ≡ get_or l.fn.total k 0)
    × (length l.total ≡ length l.fn.total)
