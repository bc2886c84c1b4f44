-- The value of a server's token PREFIX.
use Rattle.std.specs.Prelude.{◌≡◌, ℕ, Bool, true, not, ◌&&◌, ◌==◌, nat_eq, List, [], ◌∷◌}
use Rattle.std.specs.Prelude.{◌++◌, length, IsTrue, Option, None, option_map, if◌then◌else◌}
use Rattle.std.specs.List.{list_any}
use Rattle.std.specs.Str.{IsUtf8, is_utf8, chars}
use Rattle.wc_ircmsg.specs.declared.prefixes.Prefixes.{Prefixes}
use Rattle.wc_ircmsg.specs.Commands.{is_name}
use Rattle.wc_text.specs.Splits.{before, text_after}

-- nothing is twice in the list
abbrev pub each_once : {A : Type 0} → (A → A → Bool) → List A → Bool
each_once equal [] = true
each_once equal (x ∷ xs) = not (list_any (λ y. equal y x) xs) && each_once equal xs

-- A value is `(`, one or more letters, `)` and as many characters, no letter and no character
-- twice.
pub record SpellsPrefixes (value : List ℕ) (prefixes : Prefixes) : Type 0 where
  pub spelled : value ≡ 40 ∷ (prefixes.modes ++ 41 ∷ prefixes.chars)
  pub letters : IsTrue (is_name prefixes.modes)
  pub modes_once : IsTrue (each_once nat_eq prefixes.modes)
  pub utf8 : IsUtf8 prefixes.chars
  pub as_many : length (chars prefixes.chars) ≡ length prefixes.modes
  pub chars_once : IsTrue (each_once nat_eq (chars prefixes.chars))

-- ---- the tests of its parts
-- what is between `(` and the first `)`, and after that
abbrev pub parts_of : List ℕ → Option (List ℕ × List ℕ)
parts_of [] = None
parts_of (b ∷ value) = if b == 40 then option_map (λ text. (before 41 value, text))
    (text_after 41 value) else None

abbrev pub are_modes : List ℕ → Bool
are_modes modes = is_name modes && each_once nat_eq modes

-- so many characters, each of them once
abbrev pub are_chars : ℕ → List ℕ → Bool
are_chars count text = is_utf8 text
    && ((length (chars text) == count) && each_once nat_eq (chars text))
