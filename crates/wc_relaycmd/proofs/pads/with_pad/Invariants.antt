use Rattle.std.proofs.Common.{◌≡◌, ℕ, ◌<◌, length, get_or, bit_xor}
use Rattle.wc_relaycmd.proofs.pads.with_pad.Given as goal

abbrev pub invariant-bytes : goal.invariant-bytes
invariant-bytes g l = (length l.out ≡ length l.block) × ((k : ℕ) → k < l.i → get_or l.out k 0 ≡ bit_xor (get_or l.block k 0) l.pad)
