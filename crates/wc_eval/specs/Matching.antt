-- What a pattern finds in a text: a function of two texts, with case ignored. A text that is no
-- pattern finds nothing.
use Rattle.std.specs.Prelude.{ℕ, suc, zero, ◌+◌, Bool, true, List, [], ◌∷◌, length, map}
use Rattle.std.specs.Prelude.{Option, Some, None, is_some, option_map}
use Rattle.std.specs.Str.{chars}
use Rattle.regex.specs.Patterns.{Re, Match, Config, find_str, find_all_str, default_config, span}
use Rattle.regex.specs.Writes.{group_of}
use Rattle.regex_syntax.specs.Grammar.{Names, read}
use Rattle.regex_syntax.specs.Brackets.{Nested}

-- the options with which each pattern is built
abbrev pub folding_config : Config
folding_config = record default_config {
  flags = record default_config.flags { case_insensitive = true };
}

-- what the grammar reads in the text of a pattern
unfoldable pub tree_of : List ℕ → Option Re
tree_of pattern = option_map (λ (found, _). found.value) (read folding_config (chars pattern))

-- ---- where a tree is found

abbrev pub first_by : Option Re → List ℕ → Option (ℕ × ℕ)
first_by None text = None
first_by (Some re) text = option_map span (find_str re text 0)

abbrev pub spans_by : Option Re → List ℕ → List (ℕ × ℕ)
spans_by None text = []
spans_by (Some re) text = map span (find_all_str re text)

-- what so many groups of a match span, from the one of this number on
abbrev pub groups_from : Match → ℕ → ℕ → List (Option (ℕ × ℕ))
groups_from m n zero = []
groups_from m n (suc more) = group_of m n ∷ groups_from m (n + 1) more

-- the match and each of its groups, where the pattern has so many, itself among them
abbrev pub groups_in : ℕ → Match → List (Option (ℕ × ℕ))
groups_in zero m = []
groups_in (suc more) m = Some (span m) ∷ groups_from m 1 more

abbrev pub groups_by : Option (Nested Re × Names) → List ℕ → List (List (Option (ℕ × ℕ)))
groups_by None text = []
groups_by (Some found) text = map (groups_in (length found.1)) (find_all_str found.0.value text)

-- ---- what a pattern finds

-- the span of the first match in the text
unfoldable pub first_in : List ℕ → List ℕ → Option (ℕ × ℕ)
first_in pattern = first_by (tree_of pattern)

-- whether the text has a match
abbrev pub is_found : List ℕ → List ℕ → Bool
is_found pattern text = is_some (first_in pattern text)

-- the spans of all matches, from the left
unfoldable pub spans_in : List ℕ → List ℕ → List (ℕ × ℕ)
spans_in pattern = spans_by (tree_of pattern)

-- for each match, from the left, what it spans and what each of its groups spans
unfoldable pub all_groups_in : List ℕ → List ℕ → List (List (Option (ℕ × ℕ)))
all_groups_in pattern = groups_by (read folding_config (chars pattern))
