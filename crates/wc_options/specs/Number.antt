-- Decimal numbers with no sign and no leading zero.
use Rattle.std.specs.Prelude.{ℕ, ◌+◌, ◌-◌, ◌*◌, ◌==◌, ◌&&◌, nat_le, List, [], ◌∷◌, Option}
use Rattle.std.specs.Prelude.{Some, None, if◌then◌else◌}

-- the number that the digits write after the number n, or none where a byte is no digit
abbrev pub decimal_from : ℕ → List ℕ → Option ℕ
decimal_from n [] = Some n
decimal_from n (byte ∷ bytes) = if nat_le 48 byte && nat_le byte 57
    then decimal_from (n * 10 + (byte - 48)) bytes else None

-- the number that a text writes: one digit, or more of which the first is not 0
abbrev pub number_of : List ℕ → Option ℕ
number_of [] = None
number_of (byte ∷ []) = decimal_from 0 (byte ∷ [])
number_of (byte ∷ other ∷ bytes) = if byte == 48 then None
    else decimal_from 0 (byte ∷ other ∷ bytes)

-- a number, where it is from the lowest to the highest
abbrev pub within : ℕ → ℕ → Option ℕ → Option ℕ
within lowest highest None = None
within lowest highest (Some n) = if nat_le lowest n && nat_le n highest then Some n else None

-- the number from the lowest to the highest that a text writes
unfoldable pub number_in : ℕ → ℕ → List ℕ → Option ℕ
number_in lowest highest text = within lowest highest (number_of text)
