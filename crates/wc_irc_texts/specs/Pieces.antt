-- What commas part.
use Rattle.std.specs.Prelude.{ℕ, ◌==◌, ◌||◌, Bool, true, not, List, [], Option, Some, None, length, suc}
use Rattle.std.specs.Borrow.{Bor}
use Rattle.std.specs.List.{slice_split, list_all}
use Rattle.wc_ircmsg.specs.Written.{ends_lines}

-- the texts that commas part, of which some may be empty
abbrev pub pieces : List ℕ → List (List ℕ)
pieces text = slice_split (λ b. b == 44) text

-- those of what is left of a text, where something is
abbrev pub pieces_left : Option (Bor (List ℕ)) → List (List ℕ)
pieces_left None = []
pieces_left (Some text) = pieces text.now

-- how long it is, with one for the comma in front
abbrev pub length_left : Option (Bor (List ℕ)) → ℕ
length_left None = 0
length_left (Some text) = suc (length text.now)

-- a text without blanks, CR, LF and NUL
abbrev pub is_bare : List ℕ → Bool
is_bare text = list_all (λ b. not ((b == 32) || ends_lines b)) text

abbrev pub is_bare_left : Option (Bor (List ℕ)) → Bool
is_bare_left None = true
is_bare_left (Some text) = is_bare text.now
