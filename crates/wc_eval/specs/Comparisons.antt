-- Comparisons of two texts: their signs, and what they say.
use Rattle.std.specs.Prelude.{ℕ, Bool, true, false, not, ◌&&◌, ◌==◌, List, [], ◌∷◌, codes}
use Rattle.std.specs.Prelude.{Option, Some, None, ℤ, if◌then◌else◌}
use Rattle.std.specs.declared.cmp.Ordering.{Ordering}
use Rattle.std.specs.Ordering.{int_cmp, is_eq, is_ne, is_lt, is_le, is_gt, is_ge}
use Rattle.wc_text.specs.Integer.{integer_of}
use Rattle.wc_text.specs.Mask.{matches_of}
use Rattle.wc_text.specs.Order.{byte_order}
use Rattle.wc_eval.specs.declared.comparison.Comparison.{Comparison}
use Rattle.wc_eval.specs.declared.comparison.Comparison.TheVariants as sign
use Rattle.wc_eval.specs.Matching.{is_found}
use Rattle.wc_eval.specs.Verdicts.{Oracle}

-- ---- their signs

-- what comes after a word, where the text begins with it
abbrev pub after_word : List ℕ → List ℕ → Option (List ℕ)
after_word [] text = Some text
after_word (c ∷ word) [] = None
after_word (c ∷ word) (b ∷ text) = if b == c then after_word word text else None

-- each sign before those that are a front of it
abbrev pub signs : List (List ℕ × Comparison)
signs = (codes "==*", sign.Masked) ∷ (codes "!!*", sign.NotMasked)
    ∷ (codes "==", sign.Equal) ∷ (codes "!=", sign.NotEqual)
    ∷ (codes "<=", sign.AtMost) ∷ (codes ">=", sign.AtLeast)
    ∷ (codes "=~", sign.Found) ∷ (codes "!~", sign.NotFound)
    ∷ (codes "=*", sign.MaskedInAnyCase) ∷ (codes "!*", sign.NotMaskedInAnyCase)
    ∷ (codes "<", sign.Less) ∷ (codes ">", sign.More) ∷ []

abbrev pub sign_or : Comparison → Option (List ℕ) → Option (Comparison × List ℕ) →
    Option (Comparison × List ℕ)
sign_or s None otherwise = otherwise
sign_or s (Some rest) otherwise = Some (s, rest)

abbrev pub sign_among : List (List ℕ × Comparison) → List ℕ → Option (Comparison × List ℕ)
sign_among [] text = None
sign_among (s ∷ ss) text = sign_or s.1 (after_word s.0 text) (sign_among ss text)

-- the comparison whose sign is at the front of a text, and what comes after the sign
unfoldable pub sign_at : List ℕ → Option (Comparison × List ℕ)
sign_at text = sign_among signs text

-- ---- what they say

-- two whole numbers of 64 bits as numbers, others as texts byte by byte
abbrev pub order_by : Option ℤ → Option ℤ → List ℕ → List ℕ → Ordering
order_by (Some x) (Some y) a b = int_cmp x y
order_by (Some x) None a b = byte_order a b
order_by None y a b = byte_order a b

abbrev pub order_of : List ℕ → List ℕ → Ordering
order_of a b = order_by (integer_of a) (integer_of b) a b

-- a text that is no pattern finds nothing
abbrev pub finds : Oracle → List ℕ → List ℕ → Bool
finds oracle text pattern = oracle pattern && is_found pattern text

abbrev pub holds_by : Oracle → Comparison → List ℕ → List ℕ → Bool
holds_by oracle sign.Equal a b = is_eq (order_of a b)
holds_by oracle sign.NotEqual a b = is_ne (order_of a b)
holds_by oracle sign.Less a b = is_lt (order_of a b)
holds_by oracle sign.AtMost a b = is_le (order_of a b)
holds_by oracle sign.More a b = is_gt (order_of a b)
holds_by oracle sign.AtLeast a b = is_ge (order_of a b)
holds_by oracle sign.Found a b = finds oracle a b
holds_by oracle sign.NotFound a b = not (finds oracle a b)
holds_by oracle sign.Masked a b = matches_of false b a
holds_by oracle sign.NotMasked a b = not (matches_of false b a)
holds_by oracle sign.MaskedInAnyCase a b = matches_of true b a
holds_by oracle sign.NotMaskedInAnyCase a b = not (matches_of true b a)

-- whether the sides are texts, in which parentheses stay
abbrev pub has_text_sides : Comparison → Bool
has_text_sides sign.Equal = false
has_text_sides sign.NotEqual = false
has_text_sides sign.Less = false
has_text_sides sign.AtMost = false
has_text_sides sign.More = false
has_text_sides sign.AtLeast = false
has_text_sides other = true

-- whether the right side is a pattern
abbrev pub is_by_pattern : Comparison → Bool
is_by_pattern sign.Found = true
is_by_pattern sign.NotFound = true
is_by_pattern other = false
