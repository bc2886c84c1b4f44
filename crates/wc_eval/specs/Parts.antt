-- How a condition is parted, outside forms and groups.
use Rattle.std.specs.Prelude.{ℕ, Bool, true, false, ◌&&◌, List, [], ◌∷◌, ◌++◌, map, Option, Some}
use Rattle.std.specs.Prelude.{None, if◌then◌else◌}
use Rattle.wc_eval.specs.declared.comparison.Comparison.{Comparison}
use Rattle.wc_eval.specs.Pieces.{Piece, Byte, Form, Group, piece_text, text_of, is_byte, blocks_of}
use Rattle.wc_eval.specs.Comparisons.{sign_at}

-- ---- `||` and `&&`

abbrev pub onto_part : Piece → List (List Piece) → List (List Piece)
onto_part p [] = (p ∷ []) ∷ []
onto_part p (part ∷ parts) = (p ∷ part) ∷ parts

abbrev pub begins_with_byte : ℕ → List Piece → Bool
begins_with_byte c [] = false
begins_with_byte c (p ∷ ps) = is_byte c p

-- The parts between each two such bytes that are one after the other, from the left, where the
-- next piece is the second of two or is not.
abbrev pub parts_at : ℕ → Bool → List Piece → List (List Piece)
parts_at c second [] = [] ∷ []
parts_at c true (p ∷ ps) = parts_at c false ps
parts_at c false (p ∷ ps) = if is_byte c p && begins_with_byte c ps then [] ∷ parts_at c true ps
    else onto_part p (parts_at c false ps)

unfoldable pub parts_of : ℕ → List ℕ → List (List ℕ)
parts_of c text = map text_of (parts_at c false (blocks_of text))

-- ---- groups

-- the condition in a group that is all of a text, if it is one
abbrev pub group_by : List Piece → Option (List ℕ)
group_by [] = None
group_by (Byte b ∷ ps) = None
group_by (Form text ∷ ps) = None
group_by (Group text ∷ []) = Some text
group_by (Group text ∷ p ∷ ps) = None

unfoldable pub whole_group : List ℕ → Option (List ℕ)
whole_group text = group_by (blocks_of text)

-- ---- comparisons

-- a comparison, with what is on its left and on its right
pub record Comparing : Type 0 where
  pub left : List ℕ
  pub comparison : Comparison
  pub right : List ℕ

abbrev pub comparing_or : List ℕ → Option (Comparison × List ℕ) → Option Comparing → Option Comparing
comparing_or left None otherwise = otherwise
comparing_or left (Some found) otherwise =
    Some (record { left = left; comparison = found.0; right = found.1 })

-- the leftmost sign of a comparison among pieces after a text that was passed
abbrev pub comparing_from : List ℕ → List Piece → Option Comparing
comparing_from left [] = None
comparing_from left (p ∷ ps) = comparing_or left (sign_at (text_of (p ∷ ps)))
    (comparing_from (left ++ piece_text p) ps)

unfoldable pub comparing_in : List ℕ → Option Comparing
comparing_in text = comparing_from [] (blocks_of text)
