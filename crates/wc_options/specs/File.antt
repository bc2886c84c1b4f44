-- The lines of a file, and the parting of a line into a name and a value.
use Rattle.std.specs.Prelude.{ℕ, ◌==◌, bytes_eq, List, [], ◌∷◌, Option, Some, None, option_map}
use Rattle.std.specs.Prelude.{codes, take, drop, if◌then◌else◌}

-- a byte in front of the first line
abbrev pub onto_first : ℕ → List (List ℕ) → List (List ℕ)
onto_first byte [] = (byte ∷ []) ∷ []
onto_first byte (line ∷ lines) = (byte ∷ line) ∷ lines

-- the lines, each ended by LF, which the last one may lack
unfoldable pub lines_of : List ℕ → List (List ℕ)
lines_of [] = []
lines_of (byte ∷ bytes) = if byte == 10 then [] ∷ lines_of bytes
    else onto_first byte (lines_of bytes)

-- what parts a name from its value
abbrev pub equals_sign : List ℕ
equals_sign = codes " = "

-- a line's name and value, parted at the first ` = `
unfoldable pub parted : List ℕ → Option (List ℕ × List ℕ)
parted [] = None
parted (byte ∷ bytes) =
    if bytes_eq (take 3 (byte ∷ bytes)) equals_sign then Some ([], drop 3 (byte ∷ bytes))
    else option_map (λ parts. (byte ∷ parts.0, parts.1)) (parted bytes)
