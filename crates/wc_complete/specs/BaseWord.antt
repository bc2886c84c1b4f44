-- The word that ends at a position of a text.
use Rattle.std.specs.Prelude.{ℕ, ◌-◌, ℤ, pos, negsuc, Bool, not, ◌&&◌, ◌==◌, List, [], ◌∷◌, length}
use Rattle.std.specs.Prelude.{take, if◌then◌else◌}
use Rattle.std.specs.List.{list_any, count_by}
use Rattle.std.specs.Int.{is_in_range}

-- in UTF-8 a character begins at each byte but those from 80 to BF
abbrev pub begins_char : ℕ → Bool
begins_char byte = not (is_in_range 0x80 0xBF byte)

abbrev pub char_count : List ℕ → ℕ
char_count text = count_by begins_char text

abbrev pub starts : ℕ → ℕ
starts byte = if begins_char byte then 1 else 0

-- the text without its first so many characters
abbrev pub after_chars : ℕ → List ℕ → List ℕ
after_chars count [] = []
after_chars count (byte ∷ text) = if begins_char byte && count == 0 then byte ∷ text
    else after_chars (count - starts byte) text

-- its first so many characters
abbrev pub front_chars : ℕ → List ℕ → List ℕ
front_chars count [] = []
front_chars count (byte ∷ text) = if begins_char byte && count == 0 then []
    else byte ∷ front_chars (count - starts byte) text

-- the text before a position: a negative one is the end
abbrev pub front_at : ℤ → List ℕ → List ℕ
front_at (pos count) text = front_chars count text
front_at (negsuc n) text = text

abbrev pub is_blank : ℕ → Bool
is_blank byte = byte == 32

-- what comes after the last blank
abbrev pub last_word : List ℕ → List ℕ
last_word [] = []
last_word (byte ∷ text) = if list_any is_blank (byte ∷ text) then last_word text else byte ∷ text

-- what comes before that
abbrev pub before_word : List ℕ → List ℕ
before_word text = take (length text - length (last_word text)) text
