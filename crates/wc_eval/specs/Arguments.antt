-- The arguments of a form, and what is kept of the names that it may use.
use Rattle.std.specs.Prelude.{ℕ, zero, suc, List, [], ◌∷◌, map, Option, Some, None, option_map}
use Rattle.std.specs.Borrow.{Bor}
use Rattle.wc_eval.specs.Pieces.{Piece, text_of, split_at, pieces_of}

-- a text and those after it, if they are there
abbrev pub arguments_by : (List ℕ → Option (List (List ℕ))) → Option (List Piece × List Piece) →
    Option (List (List ℕ))
arguments_by others None = None
arguments_by others (Some parts) =
    option_map (λ texts. text_of parts.0 ∷ texts) (others (text_of parts.1))

-- so many texts with a comma after each outside forms, and one that takes the rest
abbrev pub arguments_of : ℕ → List ℕ → Option (List (List ℕ))
arguments_of zero text = Some (text ∷ [])
arguments_of (suc n) text = arguments_by (arguments_of n) (split_at 44 (pieces_of text))

-- texts that are lent
abbrev pub lent_texts : List (Bor (List ℕ)) → List (List ℕ)
lent_texts texts = map (λ (t : Bor (List ℕ)). t.now) texts
