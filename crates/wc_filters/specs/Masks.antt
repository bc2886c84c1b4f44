-- The masks of a filter: of buffers, and of tags.
use Rattle.std.specs.Prelude.{ℕ, Bool, true, false, not, ◌&&◌, ◌||◌, ◌==◌, List, [], ◌∷◌, codes}
use Rattle.std.specs.Prelude.{if◌then◌else◌}
use Rattle.std.specs.List.{slice_split, list_any, list_all}
use Rattle.std.specs.Str.{bytes_eq}
use Rattle.wc_text.specs.Mask.{matches_of}

-- the parts of a list between commas
abbrev pub items_of : List ℕ → List (List ℕ)
items_of text = slice_split (λ b. b == 44) text

-- the parts of an item between plus signs
abbrev pub masks_of : List ℕ → List (List ℕ)
masks_of item = slice_split (λ b. b == 43) item

-- ---- buffers, with case kept

-- a mask with a leading `!`
abbrev pub is_exclusion : List ℕ → Bool
is_exclusion [] = false
is_exclusion (b ∷ mask) = b == 33

abbrev pub wants : List ℕ → List ℕ → Bool
wants mask name = not (is_exclusion mask) && matches_of false mask name

abbrev pub excludes : List ℕ → List ℕ → Bool
excludes [] name = false
excludes (b ∷ mask) name = b == 33 && matches_of false mask name

-- some mask without `!` matches
abbrev pub is_chosen : List ℕ → List ℕ → Bool
is_chosen masks name = list_any (λ mask. wants mask name) (items_of masks)

-- there is no mask without `!`
abbrev pub only_excludes : List ℕ → Bool
only_excludes masks = list_all (λ mask. is_exclusion mask) (items_of masks)

abbrev pub is_wanted : List ℕ → List ℕ → Bool
is_wanted masks name = is_chosen masks name || only_excludes masks

-- some mask with `!` matches
abbrev pub is_excluded : List ℕ → List ℕ → Bool
is_excluded masks name = list_any (λ mask. excludes mask name) (items_of masks)

unfoldable pub buffers_match : List ℕ → List ℕ → Bool
buffers_match masks name = is_wanted masks name && not (is_excluded masks name)

-- ---- tags, with case ignored

-- some tag matches the mask
abbrev pub has_tag : List ℕ → List (List ℕ) → Bool
has_tag mask tags = list_any (λ tag. matches_of true mask tag) tags

-- some tag matches; with a leading `!`, none does
abbrev pub mask_holds : List ℕ → List (List ℕ) → Bool
mask_holds [] tags = has_tag [] tags
mask_holds (b ∷ mask) tags = if b == 33 then not (has_tag mask tags) else has_tag (b ∷ mask) tags

abbrev pub masks_hold : List ℕ → List (List ℕ) → Bool
masks_hold item tags = list_all (λ mask. mask_holds mask tags) (masks_of item)

-- each mask holds; `*` always
abbrev pub item_holds : List ℕ → List (List ℕ) → Bool
item_holds item tags = bytes_eq item (codes "*") || masks_hold item tags

unfoldable pub tags_match : List ℕ → List (List ℕ) → Bool
tags_match items tags = list_any (λ item. item_holds item tags) (items_of items)
