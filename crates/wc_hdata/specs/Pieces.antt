-- The pieces of a text between two bytes.
use Rattle.std.specs.Prelude.{ℕ, List, [], Option, Some, None, ◌==◌}
use Rattle.std.specs.List.{slice_split}

-- the pieces between each c, where there is a text
abbrev pub pieces_at : ℕ → Option (List ℕ) → List (List ℕ)
pieces_at c None = []
pieces_at c (Some text) = slice_split (λ b. b == c) text
