-- Modes as the bits of a number.
use Rattle.std.specs.Prelude.{◌≡◌, ℕ, ◌<◌, ◌^◌, Bool, ◌==◌, nat_lt, Option, Some, None}
use Rattle.std.specs.Prelude.{if◌then◌else◌, bit_or, bit_and}
use Rattle.std.specs.Int.{bit_at, bit_not, trailing_zeros, w64}

-- the first bit that is set
pub record IsHighest (bits place : ℕ) : Type 0 where
  pub within : place < 64
  pub here : bit_at bits place ≡ 1
  pub first : (other : ℕ) → other < place → bit_at bits other ≡ 0

-- the place of the highest mode
unfoldable pub highest : ℕ → Option ℕ
highest bits = if bits == 0 then None else Some (trailing_zeros w64 bits)

-- these with the mode of a place, and without it
unfoldable pub bits_with : ℕ → ℕ → ℕ
bits_with place bits = bit_or bits (2 ^ place)

unfoldable pub bits_without : ℕ → ℕ → ℕ
bits_without place bits = bit_and bits (bit_not w64 (2 ^ place))

-- where a place has a bit
unfoldable pub bits_changed : Bool → ℕ → ℕ → ℕ
bits_changed adds place bits = if nat_lt place 64
    then (if adds then bits_with place bits else bits_without place bits) else bits
