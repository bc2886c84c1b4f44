-- Lists that commas join.
use Rattle.std.specs.Prelude.{ℕ, ◌&&◌, List, [], ◌∷◌, reverse, find, if◌then◌else◌, ◌==◌}
use Rattle.std.specs.Prelude.{Option, Some, None, option_map}
use Rattle.std.specs.List.{slice_split, onto_first, filter_map}
use Rattle.std.specs.Str.{bytes_eq}
use Rattle.wc_text.specs.declared.names.Pair.{Pair}
use Rattle.wc_text.specs.Splits.{before, text_after, past}

-- the pieces of a text between commas
abbrev pub pieces_of : List ℕ → List (List ℕ)
pieces_of text = slice_split (λ b. b == 44) text

-- the items of a list, which commas part; a comma after a `\` is one of its item's bytes, and that
-- `\` is none
abbrev pub items_of : List ℕ → List (List ℕ)
items_of [] = [] ∷ []
items_of (b ∷ []) = if b == 44 then [] ∷ [] ∷ [] else (b ∷ []) ∷ []
items_of (b ∷ c ∷ text) =
    if b == 92 && c == 44 then onto_first c (items_of text) else (
    if b == 44 then [] ∷ items_of (c ∷ text) else onto_first b (items_of (c ∷ text)))

-- the pair that an item writes: a name, without the blanks at its front, and the value after the
-- `=`; an item without a `=` writes none
abbrev pub pair_in : List ℕ → Option Pair
pair_in item = option_map (λ value. record { name = past 32 (before 61 item); value = value })
    (text_after 61 item)

-- the pairs of a list of `name=value`
unfoldable pub pairs_of : List ℕ → List Pair
pairs_of text = filter_map pair_in (items_of text)

-- the value of the last pair of that name
unfoldable pub last_value : List ℕ → List Pair → Option (List ℕ)
last_value name pairs = option_map (λ (pair : Pair). pair.value)
    (find (λ (pair : Pair). bytes_eq pair.name name) (reverse pairs))

-- a first item, and the items of what comes after the comma that ends it
abbrev pub items_after : List ℕ → Option (List ℕ) → List (List ℕ)
items_after item None = item ∷ []
items_after item (Some rest) = item ∷ items_of rest
