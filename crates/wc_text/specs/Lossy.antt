-- The text that is made of any bytes.
use Rattle.std.specs.Prelude.{ℕ, zero, suc, ◌-◌, Bool, true, false, ◌&&◌, ◌==◌, List, [], ◌∷◌}
use Rattle.std.specs.Prelude.{◌++◌, if◌then◌else◌}
use Rattle.std.specs.Int.{is_in_range}
use Rattle.std.specs.Str.Lossy.{second_byte_min, second_byte_max, replacement_bytes}

-- whether n bytes that continue a character are at the front
abbrev pub continues : ℕ → List ℕ → Bool
continues zero bytes = true
continues (suc n) [] = false
continues (suc n) (b ∷ bytes) = is_in_range 0x80 0xBF b && continues n bytes

-- whether after the first byte `x` of a character are a second that goes with it and n further ones
abbrev pub ends_char : ℕ → ℕ → List ℕ → Bool
ends_char x n [] = false
ends_char x n (y ∷ bytes) = is_in_range (second_byte_min x) (second_byte_max x) y
    && continues n bytes

-- how many bytes at the front are one well-formed character, 0 where none is (Unicode, table 3-7)
abbrev pub char_len : List ℕ → ℕ
char_len [] = 0
char_len (x ∷ bytes) =
    if is_in_range 0x00 0x7F x then 1
    else (if is_in_range 0xC2 0xDF x && ends_char x 0 bytes then 2
    else (if is_in_range 0xE0 0xEF x && ends_char x 1 bytes then 3
    else (if is_in_range 0xF0 0xF4 x && ends_char x 2 bytes then 4 else 0)))

-- what is made of the bytes where the first n belong to a character that is kept
abbrev pub lossy_after : ℕ → List ℕ → List ℕ
lossy_after n [] = []
lossy_after (suc n) (b ∷ bytes) = b ∷ lossy_after n bytes
lossy_after zero (b ∷ bytes) =
    if char_len (b ∷ bytes) == 0 then replacement_bytes ++ lossy_after 0 bytes
    else b ∷ lossy_after (char_len (b ∷ bytes) - 1) bytes

-- from the left: each well-formed character, and U+FFFD for each other byte
unfoldable pub lossy_of : List ℕ → List ℕ
lossy_of bytes = lossy_after 0 bytes
