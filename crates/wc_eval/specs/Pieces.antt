-- What a text is made of: bytes, forms `${..}`, and in a condition groups `(..)`.
use Rattle.std.specs.Prelude.{ℕ, ◌+◌, ◌-◌, max, Bool, false, ◌&&◌, ◌==◌}
use Rattle.std.specs.Prelude.{List, [], ◌∷◌, ◌++◌, if◌then◌else◌}
use Rattle.std.specs.Prelude.{Option, Some, None, option_map}

pub data Piece : Type 0 where
  Byte : ℕ → Piece
  -- what is between `${` and its `}`
  Form : List ℕ → Piece
  -- what is between `(` and its `)`
  Group : List ℕ → Piece

-- how a piece is written
abbrev pub piece_text : Piece → List ℕ
piece_text (Byte b) = b ∷ []
piece_text (Form text) = 36 ∷ 123 ∷ (text ++ 125 ∷ [])
piece_text (Group text) = 40 ∷ (text ++ 41 ∷ [])

abbrev pub text_of : List Piece → List ℕ
text_of [] = []
text_of (p ∷ ps) = piece_text p ++ text_of ps

abbrev pub is_byte : ℕ → Piece → Bool
is_byte c (Byte b) = b == c
is_byte c (Form text) = false
is_byte c (Group text) = false

-- ---- where pieces are cut

-- the pieces before the first such byte and those after it, where there is one
abbrev pub split_at : ℕ → List Piece → Option (List Piece × List Piece)
split_at c [] = None
split_at c (p ∷ ps) = if is_byte c p then Some ([], ps)
    else option_map (λ (parts : List Piece × List Piece). (p ∷ parts.0, parts.1)) (split_at c ps)

-- the pieces before the first such byte, and those after it, which are none where there is none
abbrev pub or_all : List Piece → Option (List Piece × List Piece) → List Piece × List Piece
or_all ps None = (ps, [])
or_all ps (Some parts) = parts

-- ---- forms

-- The pieces from a `${` on, where those after it are known: a form up to the first `}` among them,
-- or the two bytes where there is none.
abbrev pub form_or_bytes : List Piece → Option (List Piece × List Piece) → List Piece
form_or_bytes ps None = Byte 36 ∷ Byte 123 ∷ ps
form_or_bytes ps (Some parts) = Form (text_of parts.0) ∷ parts.1

-- a byte before the pieces of what comes after it
abbrev pub byte_before : ℕ → List Piece → List Piece
byte_before b [] = Byte b ∷ []
byte_before b (p ∷ ps) = if (b == 36) && is_byte 123 p then form_or_bytes ps (split_at 125 ps)
    else Byte b ∷ p ∷ ps

-- each `${` with its `}` is one piece
abbrev pub with_forms : List ℕ → List Piece
with_forms [] = []
with_forms (b ∷ text) = byte_before b (with_forms text)

-- whether a `${` without its `}` is there
abbrev pub is_open : Piece → List Piece → Bool
is_open p [] = false
is_open p (q ∷ ps) = is_byte 36 p && is_byte 123 q

abbrev pub bytes_of : List ℕ → List Piece
bytes_of [] = []
bytes_of (b ∷ text) = Byte b ∷ bytes_of text

-- from the first `${` without its `}` on a text stays as it is
abbrev pub with_loose_end : List Piece → List Piece
with_loose_end [] = []
with_loose_end (p ∷ ps) = if is_open p ps then bytes_of (text_of (p ∷ ps))
    else p ∷ with_loose_end ps

-- the pieces of a text
unfoldable pub pieces_of : List ℕ → List Piece
pieces_of text = with_loose_end (with_forms text)

-- ---- groups

abbrev pub group_or_byte : List Piece → Option (List Piece × List Piece) → List Piece
group_or_byte ps None = Byte 40 ∷ ps
group_or_byte ps (Some parts) = Group (text_of parts.0) ∷ parts.1

-- each parenthesis with its partner is one piece, and one without is a byte
abbrev pub with_groups : List Piece → List Piece
with_groups [] = []
with_groups (p ∷ ps) = if is_byte 40 p
    then group_or_byte (with_groups ps) (split_at 41 (with_groups ps))
    else p ∷ with_groups ps

-- the pieces of a condition
unfoldable pub blocks_of : List ℕ → List Piece
blocks_of text = with_groups (pieces_of text)

-- how many parentheses are open after a piece, with a partner or without, where so many were
abbrev pub open_after : Piece → ℕ → ℕ
open_after p count = if is_byte 40 p then count + 1 else (if is_byte 41 p then count - 1 else count)

-- the most that are open at one place
abbrev pub most_open_from : ℕ → List Piece → ℕ
most_open_from count [] = count
most_open_from count (p ∷ ps) = max count (most_open_from (open_after p count) ps)

unfoldable pub most_open : List ℕ → ℕ
most_open text = most_open_from 0 (pieces_of text)
