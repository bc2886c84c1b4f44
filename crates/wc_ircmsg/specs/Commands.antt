-- The commands of messages.
use Rattle.std.specs.Prelude.{ℕ, Bool, true, false, ◌&&◌, ◌||◌, ◌==◌, List, [], ◌∷◌, length}
use Rattle.std.specs.List.{list_all}
use Rattle.std.specs.Char.{is_ascii_alphabetic, is_ascii_digit}

abbrev pub is_filled : List ℕ → Bool
is_filled [] = false
is_filled (b ∷ word) = true

-- one letter or more
abbrev pub is_name : List ℕ → Bool
is_name word = is_filled word && list_all is_ascii_alphabetic word

-- three digits
abbrev pub is_numeric : List ℕ → Bool
is_numeric word = (length word == 3) && list_all is_ascii_digit word

-- a command is letters alone, or three digits
abbrev pub is_command : List ℕ → Bool
is_command word = is_name word || is_numeric word
