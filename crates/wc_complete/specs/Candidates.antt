-- What may be put for a word.
use Rattle.std.specs.Prelude.{ℕ, Bool, true, false, ◌&&◌, ◌==◌, List, [], ◌∷◌, map}
use Rattle.std.specs.Char.{to_ascii_lowercase}

-- whether the text begins with these bytes, ASCII case ignored
abbrev pub begins_as : List ℕ → List ℕ → Bool
begins_as [] text = true
begins_as (b ∷ base) [] = false
begins_as (b ∷ base) (c ∷ text) =
    (to_ascii_lowercase b == to_ascii_lowercase c) && begins_as base text

abbrev pub slashed : List ℕ → List ℕ
slashed name = 47 ∷ name

abbrev pub all_slashed : List (List ℕ) → List (List ℕ)
all_slashed names = map slashed names
