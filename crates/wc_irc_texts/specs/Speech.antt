-- Whether what is said calls a user by name.
use Rattle.std.specs.Prelude.{ℕ, Bool, true, false, not, ◌&&◌, ◌||◌, ◌==◌, List, [], ◌∷◌}
use Rattle.std.specs.Prelude.{Option, Some, None}
use Rattle.std.specs.Char.{is_ascii_alphanumeric}
use Rattle.wc_text.specs.Mask.{after_front}

-- a letter or digit of ASCII, `_` or `-`
abbrev pub is_word_byte : ℕ → Bool
is_word_byte b = is_ascii_alphanumeric b || ((b == 95) || (b == 45))

-- whether a word may end before this text
abbrev pub ends_word : Option (List ℕ) → Bool
ends_word None = false
ends_word (Some []) = true
ends_word (Some (b ∷ text)) = not (is_word_byte b)

-- whether the text begins with the nick, ASCII case ignored, and no byte of a word comes after it
abbrev pub nick_first : List ℕ → List ℕ → Bool
nick_first nick text = ends_word (after_front true nick text)

-- whether the nick is somewhere in the text with no byte of a word beside it, where `bare` tells
-- that none is before the text
abbrev pub calls_from : Bool → List ℕ → List ℕ → Bool
calls_from bare nick [] = false
calls_from bare nick (b ∷ text) = (bare && nick_first nick (b ∷ text))
    || calls_from (not (is_word_byte b)) nick text

unfoldable pub calls_nick : List ℕ → List ℕ → Bool
calls_nick nick text = calls_from true nick text
