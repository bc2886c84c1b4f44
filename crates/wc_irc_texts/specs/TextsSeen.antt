-- The parts of texts that the code goes through.
use Rattle.std.specs.Prelude.{ℕ, Bool, ◌||◌, ◌==◌, List, [], ◌∷◌, drop, if◌then◌else◌}
use Rattle.wc_irc_texts.specs.Texts.{is_format, is_inner, colour_len}

-- whether a byte begins formatting
abbrev pub begins_format : ℕ → Bool
begins_format b = (b == 3) || is_format b

-- the bytes before the first that begins formatting, and those from it on
abbrev pub before_format : List ℕ → List ℕ
before_format [] = []
before_format (b ∷ text) = if begins_format b then [] else b ∷ before_format text

abbrev pub from_format : List ℕ → List ℕ
from_format [] = []
from_format (b ∷ text) = if begins_format b then b ∷ text else from_format text

-- the text without the formatting at its front
abbrev pub past_format : List ℕ → List ℕ
past_format [] = []
past_format (b ∷ text) = if b == 3 then drop (colour_len text) text else (
    if is_format b then text else b ∷ text)

-- the bytes at the front that are inside a character, and those after them
abbrev pub front_inner : List ℕ → List ℕ
front_inner [] = []
front_inner (b ∷ text) = if is_inner b then b ∷ front_inner text else []

abbrev pub past_inner : List ℕ → List ℕ
past_inner [] = []
past_inner (b ∷ text) = if is_inner b then past_inner text else b ∷ text

-- the first character, and what comes after it
abbrev pub first_char : List ℕ → List ℕ
first_char [] = []
first_char (b ∷ text) = b ∷ front_inner text

abbrev pub after_char : List ℕ → List ℕ
after_char [] = []
after_char (b ∷ text) = past_inner text
