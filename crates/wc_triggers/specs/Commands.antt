-- The commands of a trigger.
use Rattle.std.specs.Prelude.{ℕ, ◌&&◌, ◌==◌, List, [], ◌∷◌, filter, map, Option, Some, None}
use Rattle.std.specs.Prelude.{if◌then◌else◌}
use Rattle.std.specs.List.{onto_first}
use Rattle.wc_text.specs.Splits.{past}
use Rattle.wc_text.specs.Words.{is_filled}

-- the parts of a text between the semicolons that no backslash takes, in which `\;` is read as `;`
unfoldable pub pieces_of : List ℕ → List (List ℕ)
pieces_of [] = [] ∷ []
pieces_of (b ∷ []) = if b == 59 then [] ∷ [] ∷ [] else (b ∷ []) ∷ []
pieces_of (b ∷ c ∷ text) =
    if b == 59 then [] ∷ pieces_of (c ∷ text)
    else if b == 92 && c == 59 then onto_first c (pieces_of text)
    else onto_first b (pieces_of (c ∷ text))

abbrev pub filled_of : List (List ℕ) → List (List ℕ)
filled_of pieces = filter is_filled (map (past 32) pieces)

-- the parts without the blanks at their fronts, of which an empty one is no command
abbrev pub commands_of : List ℕ → List (List ℕ)
commands_of text = filled_of (pieces_of text)

-- ---- for the walk along the parts

abbrev pub pieces_left : Option (List ℕ) → List (List ℕ)
pieces_left None = []
pieces_left (Some text) = pieces_of text
