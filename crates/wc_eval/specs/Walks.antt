-- A walk along the pieces of a text.
use Rattle.std.specs.Prelude.{◌≡◌, ℕ, ◌+◌, ◌-◌, Bool, true, false, ◌&&◌, ◌==◌, List, []}
use Rattle.std.specs.Prelude.{◌∷◌, ◌++◌, Option, Some, None, if◌then◌else◌}
use Rattle.std.specs.Borrow.{Bor}
use Rattle.wc_text.specs.Splits.{begins_with}
use Rattle.wc_eval.specs.Pieces.{Piece, Byte, Form, Group, text_of, is_byte, bytes_of}
use Rattle.wc_eval.specs.Pieces.{pieces_of, with_groups}
use Rattle.wc_eval.specs.declared.pieces.Piece.{Piece as Lent}
use Rattle.wc_eval.specs.declared.pieces.Walk.{Walk}
use Rattle.wc_eval.specs.declared.pieces.Piece.TheVariants as lent

-- ---- along bytes

-- a `$` and a `{`
abbrev pub begins_form : ℕ → List ℕ → Bool
begins_form b text = (b == 36) && begins_with 123 text

-- what comes after the `}` of so many open forms and one more
abbrev pub after_form : ℕ → List ℕ → Option (List ℕ)
after_form n [] = None
after_form n (b ∷ text) = if begins_form b text then after_form (n + 1) text else (
    if b == 125 then (if n == 0 then Some text else after_form (n - 1) text)
    else after_form n text)

-- what comes after a `${` at the front
abbrev pub inside_form : List ℕ → Option (List ℕ)
inside_form [] = None
inside_form (b ∷ []) = None
inside_form (b ∷ c ∷ text) = if (b == 36) && (c == 123) then Some text else None

-- ---- along pieces

-- a piece that is lent
abbrev pub meant : Lent → Piece
meant (lent.Byte b) = Byte b
meant (lent.Form text) = Form text.now
meant (lent.Group text) = Group text.now

-- the pieces that are still to come, where they are bytes alone or there may be forms
abbrev pub pieces_left : Bool → List ℕ → List Piece
pieces_left true text = bytes_of text
pieces_left false text = pieces_of text

-- those of a walk
abbrev pub left_of : Walk → List Piece
left_of walk = pieces_left walk.has_bytes_alone walk.rest.now

-- the first of the pieces, and a walk along the others
abbrev pub Steps : List Piece → Option (Lent × Walk) → Type 0
Steps ps None = ps ≡ []
Steps ps (Some step) = ps ≡ meant step.0 ∷ left_of step.1

-- the same where groups are pieces
abbrev pub StepsByBlocks : List Piece → Option (Lent × Walk) → Type 0
StepsByBlocks ps None = with_groups ps ≡ []
StepsByBlocks ps (Some step) = with_groups ps ≡ meant step.0 ∷ with_groups (left_of step.1)

-- the pieces after the `)` of so many open groups and one more
abbrev pub after_group : ℕ → List Piece → Option (List Piece)
after_group n [] = None
after_group n (p ∷ ps) = if is_byte 40 p then after_group (n + 1) ps else (
    if is_byte 41 p then (if n == 0 then Some ps else after_group (n - 1) ps)
    else after_group n ps)

-- ---- to a form, and to a byte

-- the text from the first `${` on
abbrev pub from_form : List ℕ → List ℕ
from_form [] = []
from_form (b ∷ text) = if begins_form b text then b ∷ text else from_form text

-- bytes up to the first form, and the form with what comes after it
abbrev pub CutsToForm : List ℕ → List ℕ → Option (Bor (List ℕ) × Bor (List ℕ)) → Type 0
CutsToForm text front None = (front ≡ text) × (pieces_of text ≡ bytes_of text)
CutsToForm text front (Some parts) =
    pieces_of text ≡ bytes_of front ++ Form parts.0.now ∷ pieces_of parts.1.now

-- the pieces after the first such byte
abbrev pub past_byte : ℕ → List Piece → Option (List Piece)
past_byte c [] = None
past_byte c (p ∷ ps) = if is_byte c p then Some ps else past_byte c ps

-- two rows of pieces as they are written
abbrev pub texts_of : List Piece × List Piece → List ℕ × List ℕ
texts_of parts = (text_of parts.0, text_of parts.1)
