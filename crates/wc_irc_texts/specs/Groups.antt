-- The groups of a channel's nicks: one for each mode of PREFIX in order, and one for the others.
use Rattle.std.specs.Prelude.{ℕ, ◌+◌, ◌/◌, ◌%◌, List, [], ◌∷◌, ◌++◌, codes, slice_index_or}
use Rattle.std.specs.Prelude.{Option, Some, None}
use Rattle.std.specs.List.{slice_get}
use Rattle.wc_ircmsg.specs.declared.prefixes.Prefixes.{Prefixes}
use Rattle.wc_irc_texts.specs.Texts.{char_texts}

abbrev pub digit : ℕ → ℕ
digit n = 48 + n % 10

abbrev pub three_digits : ℕ → List ℕ
three_digits n = digit (n / 100) ∷ digit (n / 10) ∷ digit n ∷ []

-- the group of a mode: its place in three digits, a bar and its letter
abbrev pub group_name : ℕ → ℕ → List ℕ
group_name place letter = three_digits place ++ 124 ∷ letter ∷ []

-- that of the nicks without a mode
abbrev pub last_group : List ℕ
last_group = codes "999|..."

abbrev pub groups_from : ℕ → List ℕ → List (List ℕ)
groups_from place [] = last_group ∷ []
groups_from place (letter ∷ modes) = group_name place letter ∷ groups_from (place + 1) modes

abbrev pub group_names : Prefixes → List (List ℕ)
group_names prefixes = groups_from 0 prefixes.modes

abbrev pub group_by : ℕ → Option ℕ → List ℕ
group_by place None = last_group
group_by place (Some letter) = group_name place letter

-- the group of the nicks whose highest mode is at this place of PREFIX
abbrev pub group_at : Prefixes → Option ℕ → List ℕ
group_at prefixes None = last_group
group_at prefixes (Some place) = group_by place (slice_get prefixes.modes place)

-- the character that shows that mode, or a space
abbrev pub sign_at : Prefixes → Option ℕ → List ℕ
sign_at prefixes None = codes " "
sign_at prefixes (Some place) = slice_index_or (char_texts prefixes.chars) place (codes " ")
