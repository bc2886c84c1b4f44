-- Texts up to a byte that ends them, in which a backslash may take that byte.
use Rattle.std.specs.Prelude.{ℕ, Bool, ◌&&◌, ◌||◌, ◌==◌, List, [], ◌∷◌, Option, Some, None}
use Rattle.std.specs.Prelude.{if◌then◌else◌}

-- the byte that ends a text, and with `both` the backslash
abbrev pub is_marked : ℕ → Bool → ℕ → Bool
is_marked stop both byte = byte == stop || (both && byte == 92)

abbrev pub with_byte : ℕ → List ℕ × Option (List ℕ) → List ℕ × Option (List ℕ)
with_byte byte read = (byte ∷ read.0, read.1)

-- what is written up to the first byte `stop` that no backslash takes, and what comes after it,
-- where there is one: a backslash before a marked byte is not meant itself
unfoldable pub unslashed : ℕ → Bool → List ℕ → List ℕ × Option (List ℕ)
unslashed stop both [] = ([], None)
unslashed stop both (b ∷ []) = if b == stop then ([], Some []) else (b ∷ [], None)
unslashed stop both (b ∷ c ∷ text) =
    if b == stop then ([], Some (c ∷ text))
    else if b == 92 && is_marked stop both c then with_byte c (unslashed stop both text)
    else with_byte b (unslashed stop both (c ∷ text))

-- the byte that is meant at the front of a text, and what comes after it
abbrev pub first_meant : ℕ → Bool → ℕ → List ℕ → ℕ × List ℕ
first_meant stop both b [] = (b, [])
first_meant stop both b (c ∷ text) =
    if b == 92 && is_marked stop both c then (c, text) else (b, c ∷ text)
