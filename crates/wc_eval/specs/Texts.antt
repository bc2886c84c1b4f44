-- Words on texts that the other files share.
use Rattle.std.specs.Prelude.{ℕ, Bool, true, false, not, ◌||◌, ◌==◌, List, [], ◌∷◌}
use Rattle.std.specs.Prelude.{if◌then◌else◌, bytes_eq, length, take, map, reverse}
use Rattle.std.specs.Str.{chars, encode_utf8_all}
use Rattle.std.specs.Char.{to_ascii_lowercase, to_ascii_uppercase}

-- a space or a tab
abbrev pub is_blank : ℕ → Bool
is_blank b = (b == 32) || (b == 9)

-- the text without the blanks at its front
abbrev pub past_margin : List ℕ → List ℕ
past_margin [] = []
past_margin (b ∷ text) = if is_blank b then past_margin text else b ∷ text

-- a byte and a text, or nothing where the byte is a blank and the text is empty
abbrev pub before_margin : ℕ → List ℕ → List ℕ
before_margin b [] = if is_blank b then [] else b ∷ []
before_margin b (c ∷ text) = b ∷ c ∷ text

-- the text without the blanks at its end
abbrev pub without_tail : List ℕ → List ℕ
without_tail [] = []
without_tail (b ∷ text) = before_margin b (without_tail text)

-- the text without the blanks at both ends
unfoldable pub without_blanks : List ℕ → List ℕ
without_blanks text = without_tail (past_margin text)

-- a text is true where it is not empty and not `0`
abbrev pub is_true : List ℕ → Bool
is_true [] = false
is_true (b ∷ text) = not (bytes_eq (b ∷ text) (48 ∷ []))

-- how the value of a condition is written
abbrev pub digit_of : Bool → List ℕ
digit_of true = 49 ∷ []
digit_of false = 48 ∷ []

-- ---- characters

abbrev pub character_count : List ℕ → ℕ
character_count text = length (chars text)

-- the first so many characters
abbrev pub first_characters : ℕ → List ℕ → List ℕ
first_characters n text = encode_utf8_all (take n (chars text))

-- the characters from the last to the first
unfoldable pub reverse_text : List ℕ → List ℕ
reverse_text text = encode_utf8_all (reverse (chars text))

-- letters of ASCII alone
abbrev pub lower_case : List ℕ → List ℕ
lower_case text = map to_ascii_lowercase text

abbrev pub upper_case : List ℕ → List ℕ
upper_case text = map to_ascii_uppercase text
