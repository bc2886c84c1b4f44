-- Texts as they are printed and sent.
use Rattle.std.specs.Prelude.{ℕ, suc, zero, Bool, false, not, ◌&&◌, ◌||◌, ◌==◌, List, []}
use Rattle.std.specs.Prelude.{◌∷◌, ◌++◌, filter, codes, nat_le, nat_lt}
use Rattle.std.specs.Prelude.{if◌then◌else◌}
use Rattle.std.specs.Char.{is_ascii_digit}
use Rattle.std.specs.List.{onto_first}
use Rattle.wc_ircmsg.specs.Written.{ends_lines}

-- ---- characters

-- a byte inside a character of UTF-8
abbrev pub is_inner : ℕ → Bool
is_inner b = nat_le 128 b && nat_lt b 192

abbrev pub begins_inside : List ℕ → Bool
begins_inside [] = false
begins_inside (b ∷ text) = is_inner b

-- The characters of a text, each as its bytes: one begins with each byte that is not inside one.
unfoldable pub char_texts : List ℕ → List (List ℕ)
char_texts [] = []
char_texts (b ∷ text) = if begins_inside text then onto_first b (char_texts text)
    else (b ∷ []) ∷ char_texts text

-- ---- lines

-- texts with a blank between each two
abbrev pub spaced : List (List ℕ) → List ℕ
spaced [] = []
spaced (text ∷ []) = text
spaced (text ∷ next ∷ texts) = text ++ 32 ∷ spaced (next ∷ texts)

-- a text without CR, LF and NUL
abbrev pub in_one_line : List ℕ → List ℕ
in_one_line text = filter (λ b. not (ends_lines b)) text

-- a reply between clients without the bytes 01 that stand around it
abbrev pub unquoted : List ℕ → List ℕ
unquoted text = filter (λ b. not (b == 1)) text

-- ---- formatting bytes

-- bold, a colour in hexadecimal, reset, monospace, reverse, italic, strike and underline, and the
-- bytes 19 to 1C, which are colours to relay clients, of which a terminal obeys 1B
abbrev pub is_format : ℕ → Bool
is_format b = (b == 2) || ((b == 4) || ((b == 15) || ((b == 17) || ((b == 22)
    || ((nat_le 25 b && nat_le b 29) || (b == 31))))))

abbrev pub is_digit_first : List ℕ → Bool
is_digit_first [] = false
is_digit_first (b ∷ text) = is_ascii_digit b

-- how many digits are at the front, of which two count at most
abbrev pub front_digits : List ℕ → ℕ
front_digits [] = 0
front_digits (b ∷ text) = if is_ascii_digit b then (if is_digit_first text then 2 else 1) else 0

-- how many bytes the second colour has with its comma, which is one only before a digit
abbrev pub second_colour : List ℕ → ℕ
second_colour [] = 0
second_colour (b ∷ text) = if (b == 44) && is_digit_first text then suc (front_digits text) else 0

-- the same after a digit, which another may follow
abbrev pub after_digit : List ℕ → ℕ
after_digit [] = 0
after_digit (b ∷ text) = if is_ascii_digit b then suc (second_colour text)
    else second_colour (b ∷ text)

-- how many bytes after a colour's 03 belong to it: up to two digits, and after them a comma and up
-- to two more
abbrev pub colour_len : List ℕ → ℕ
colour_len [] = 0
colour_len (b ∷ text) = if is_ascii_digit b then suc (after_digit text) else 0

-- the text where the first n bytes belong to a colour that was begun
abbrev pub plain_after : ℕ → List ℕ → List ℕ
plain_after n [] = []
plain_after (suc n) (b ∷ text) = plain_after n text
plain_after zero (b ∷ text) =
    if b == 3 then plain_after (colour_len text) text else (
    if is_format b then plain_after 0 text else b ∷ plain_after 0 text)

-- a text without its formatting bytes
unfoldable pub plain : List ℕ → List ℕ
plain text = plain_after 0 text

-- ---- pieces of lines

-- ` (R)`, or nothing without a reason
abbrev pub reason_text : List ℕ → List ℕ
reason_text [] = []
reason_text (b ∷ reason) = codes " (" ++ (b ∷ reason) ++ codes ")"

-- `N (U@H)`
abbrev pub source_text : List ℕ → List ℕ → List ℕ → List ℕ
source_text nick user host = nick ++ codes " (" ++ user ++ 64 ∷ host ++ codes ")"
