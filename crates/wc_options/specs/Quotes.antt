-- Values in quotes, which have a backslash before each quote and each backslash of the value.
use Rattle.std.specs.Prelude.{ℕ, Bool, ◌==◌, ◌||◌, List, [], ◌∷◌, ◌++◌, Option, Some}
use Rattle.std.specs.Prelude.{None, option_map, ◌<◌, length, ⊤, if◌then◌else◌}
use Rattle.std.specs.List.{flat_map}
use Rattle.wc_options.specs.declared.quotes.Mark.{Mark}
use Rattle.wc_options.specs.declared.quotes.Mark.TheVariants.{Closing, Byte, Stray}

-- a quote or a backslash
abbrev pub is_marked : ℕ → Bool
is_marked byte = byte == 34 || byte == 92

-- ---- writing

-- what is written between quotes for a byte, and for a value
abbrev pub escaped_byte : ℕ → List ℕ
escaped_byte byte = if is_marked byte then 92 ∷ byte ∷ [] else byte ∷ []

abbrev pub escaped : List ℕ → List ℕ
escaped value = flat_map escaped_byte value

-- a value in quotes
unfoldable pub quoted : List ℕ → List ℕ
quoted value = 34 ∷ (escaped value ++ 34 ∷ [])

-- ---- reading

-- the value that is written after a first quote, up to the quote that ends it: none where nothing
-- ends it, where more comes after that quote, or where a backslash is before any other byte
unfoldable pub unescaped : List ℕ → Option (List ℕ)
unescaped [] = None
unescaped (byte ∷ []) = if byte == 34 then Some [] else None
unescaped (byte ∷ other ∷ bytes) =
    if byte == 34 then None
    else if byte == 92 then
    (if is_marked other then option_map (λ value. other ∷ value) (unescaped bytes) else None)
    else option_map (λ value. byte ∷ value) (unescaped (other ∷ bytes))

-- the value that is written in quotes
unfoldable pub unquoted : List ℕ → Option (List ℕ)
unquoted [] = None
unquoted (byte ∷ bytes) = if byte == 34 then unescaped bytes else None

-- the same from a quote or a backslash on
abbrev pub after_mark : Mark → Option (List ℕ)
after_mark Closing = Some []
after_mark (Byte byte rest) = option_map (λ value. byte ∷ value) (unescaped rest.now)
after_mark Stray = None

-- what comes after a byte of the value is shorter than a text of this length
abbrev pub LeavesBelow : ℕ → Mark → Type 0
LeavesBelow n Closing = ⊤
LeavesBelow n (Byte byte rest) = length rest.now < n
LeavesBelow n Stray = ⊤
