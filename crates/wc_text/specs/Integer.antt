-- Whole numbers in decimal.
use Rattle.std.specs.Prelude.{ℕ, ◌^◌, Bool, ◌&&◌, nat_lt, nat_le, ◌==◌, List, [], ◌∷◌, length}
use Rattle.std.specs.Prelude.{Option, Some, None, if◌then◌else◌, ℤ, pos, neg_ℤ}
use Rattle.std.specs.List.{list_all}
use Rattle.std.specs.Char.{is_ascii_digit}
use Rattle.std.specs.Str.Parse.{digits_value}

-- one digit or more, and nothing else
abbrev pub is_numeral : List ℕ → Bool
is_numeral bytes = nat_lt 0 (length bytes) && list_all is_ascii_digit bytes

-- the number that digits write, where there are some and the number is not above `most`
abbrev pub magnitude_of : ℕ → List ℕ → Option ℕ
magnitude_of most bytes =
    if is_numeral bytes && nat_le (digits_value 10 bytes) most
    then Some (digits_value 10 bytes) else None

abbrev pub positive_of : List ℕ → Option ℤ
positive_of bytes = if is_numeral bytes && nat_lt (digits_value 10 bytes) (2 ^ 63)
    then Some (pos (digits_value 10 bytes)) else None

abbrev pub negative_of : List ℕ → Option ℤ
negative_of bytes = if is_numeral bytes && nat_le (digits_value 10 bytes) (2 ^ 63)
    then Some (neg_ℤ (pos (digits_value 10 bytes))) else None

-- the number of 64 bits that an optional `-` and digits write
unfoldable pub integer_of : List ℕ → Option ℤ
integer_of [] = None
integer_of (b ∷ bytes) = if b == 45 then negative_of bytes else positive_of (b ∷ bytes)
