-- The text of a pointer: lower-case hex with no zero in front and at most 16 digits, where null is
-- one zero.
use Rattle.std.specs.Prelude.{ℕ, ◌+◌, ◌-◌, Bool, not, ◌&&◌, ◌||◌, ◌==◌, nat_lt, nat_le, Option}
use Rattle.std.specs.Prelude.{Some, None, List, [], ◌∷◌, map, length, if◌then◌else◌, slice_index}
use Rattle.std.specs.List.{list_all}
use Rattle.std.specs.Int.Digits.{digits_of, number_from_digits}

abbrev pub glyph : ℕ → ℕ
glyph d = if nat_lt d 10 then 48 + d else 87 + d

unfoldable pub hex : ℕ → List ℕ
hex n = if n == 0 then 48 ∷ [] else map glyph (digits_of 16 n)

abbrev pub is_hex : ℕ → Bool
is_hex c = (nat_le 48 c && nat_le c 57) || (nat_le 97 c && nat_le c 102)

abbrev pub digit : ℕ → ℕ
digit c = if nat_lt c 58 then c - 48 else c - 87

-- the number that the whole text spells
unfoldable pub hex_number : List ℕ → Option ℕ
hex_number cs =
    if list_all is_hex cs && nat_lt 0 (length cs) && nat_le (length cs) 16
    && (not (slice_index cs 0 == 48) || (length cs == 1))
    then Some (number_from_digits 16 (map digit cs)) else None
