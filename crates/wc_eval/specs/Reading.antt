-- How the parts of a condition are found along its pieces.
use Rattle.std.specs.Prelude.{◌≡◌, ℕ, suc, false, List, [], ◌∷◌, map, length, Option, Some, None}
use Rattle.std.specs.Prelude.{if◌then◌else◌, is_some}
use Rattle.std.specs.Borrow.{Bor}
use Rattle.wc_eval.specs.declared.parts.Parts.{Parts}
use Rattle.wc_eval.specs.declared.parts.Sides.{Sides}
use Rattle.wc_eval.specs.declared.pieces.Walk.{Walk}
use Rattle.wc_eval.specs.Pieces.{Piece, text_of, is_byte, with_groups}
use Rattle.wc_eval.specs.Walks.{left_of}
use Rattle.wc_eval.specs.Comparisons.{sign_at}
use Rattle.wc_eval.specs.Parts.{parts_at, Comparing}

-- the pieces of a walk, where groups are pieces
abbrev pub blocks_left : Walk → List Piece
blocks_left walk = with_groups (left_of walk)

abbrev pub past_first : ℕ → List Piece → Option (List Piece)
past_first c [] = None
past_first c (p ∷ ps) = if is_byte c p then Some ps else None

-- the pieces after a piece and another, if both are this byte
abbrev pub past_pair : ℕ → Piece → List Piece → Option (List Piece)
past_pair c p ps = if is_byte c p then past_first c ps else None

abbrev pub or_later : {A : Type 0} → Option A → Option A → Option A
or_later None later = later
or_later (Some x) later = Some x

-- the pieces after the first two such bytes
abbrev pub past_two : ℕ → List Piece → Option (List Piece)
past_two c [] = None
past_two c (p ∷ ps) = or_later (past_pair c p ps) (past_two c ps)

-- the texts of the parts among the pieces that are left, if a part is
abbrev pub texts_by : ℕ → Option Walk → List (List ℕ)
texts_by c None = []
texts_by c (Some walk) = map text_of (parts_at c false (blocks_left walk))

-- those that are still to come
abbrev pub texts_left : Parts → List (List ℕ)
texts_left parts = texts_by parts.byte parts.left

-- the first of the texts, and those after it
abbrev pub TakesPart : List (List ℕ) → Option (Bor (List ℕ) × Parts) → Type 0
TakesPart texts None = texts ≡ []
TakesPart texts (Some step) = texts ≡ step.0.now ∷ texts_left step.1

-- how much is to come
abbrev pub size_by : Option Walk → ℕ
size_by None = 0
size_by (Some walk) = suc (length walk.rest.now)

abbrev pub size_of : Parts → ℕ
size_of parts = size_by parts.left

-- the text from the first sign of a comparison on
abbrev pub from_sign : List Piece → Option (List ℕ)
from_sign [] = None
from_sign (p ∷ ps) = if is_some (sign_at (text_of (p ∷ ps))) then Some (text_of (p ∷ ps))
    else from_sign ps

abbrev pub IsComparing : Option Comparing → Option Sides → Type 0
IsComparing None None = Unit {0}
IsComparing None (Some sides) = ⊥
IsComparing (Some found) None = ⊥
IsComparing (Some found) (Some sides) = (sides.left.now ≡ found.left)
    × (sides.comparison ≡ found.comparison) × (sides.right.now ≡ found.right)
