-- The signs at the front of what is left of an expression or a condition.
use Rattle.std.specs.Prelude.{ℕ, List, [], ◌∷◌, ◌==◌, ◌&&◌, if◌then◌else◌}
use Rattle.std.specs.Prelude.{drop, Option, Some, None}
use Rattle.wc_text.specs.Splits.{begins_with}
use Rattle.wc_eval.specs.declared.operator.Operator.{Operator}
use Rattle.wc_eval.specs.declared.operator.Operator.TheVariants.{Add, Subtract, Multiply, Divide}
use Rattle.wc_eval.specs.declared.operator.Operator.TheVariants.{Remainder}
use Rattle.wc_eval.specs.declared.comparison.Comparison.{Comparison}
use Rattle.wc_eval.specs.declared.comparison.Comparison.TheVariants as comparison

abbrev pub sum_sign : List ℕ → Option (Operator × List ℕ)
sum_sign [] = None
sum_sign (b ∷ text) = if b == 43 then Some (Add, text) else (
    if b == 45 then Some (Subtract, text) else None)

abbrev pub product_sign : List ℕ → Option (Operator × List ℕ)
product_sign [] = None
product_sign (b ∷ text) = if b == 42 then Some (Multiply, text) else (
    if (b == 47) && begins_with 47 text then Some (Divide, drop 1 text) else (
    if b == 37 then Some (Remainder, text) else None))

-- what comes after such a byte, where it is at the front
abbrev pub after_byte : ℕ → List ℕ → Option (List ℕ)
after_byte c [] = None
after_byte c (b ∷ text) = if b == c then Some text else None

-- ---- the signs of comparisons, by their first byte

-- what follows a `=`
abbrev pub equals_sign : List ℕ → Option (Comparison × List ℕ)
equals_sign [] = None
equals_sign (b ∷ text) = if b == 61 then (if begins_with 42 text
    then Some (comparison.Masked, drop 1 text) else Some (comparison.Equal, text)) else (
    if b == 126 then Some (comparison.Found, text) else (
    if b == 42 then Some (comparison.MaskedInAnyCase, text) else None))

-- what follows a `!`
abbrev pub bang_sign : List ℕ → Option (Comparison × List ℕ)
bang_sign [] = None
bang_sign (b ∷ text) = if (b == 33) && begins_with 42 text
    then Some (comparison.NotMasked, drop 1 text) else (
    if b == 61 then Some (comparison.NotEqual, text) else (
    if b == 126 then Some (comparison.NotFound, text) else (
    if b == 42 then Some (comparison.NotMaskedInAnyCase, text) else None)))

-- what follows a `<` or a `>`, where these are the comparisons with `=` after it and without
abbrev pub order_sign : Comparison → Comparison → List ℕ → Option (Comparison × List ℕ)
order_sign with_equals without text = if begins_with 61 text
    then Some (with_equals, drop 1 text) else Some (without, text)

abbrev pub first_sign : List ℕ → Option (Comparison × List ℕ)
first_sign [] = None
first_sign (b ∷ text) = if b == 61 then equals_sign text else (
    if b == 33 then bang_sign text else (
    if b == 60 then order_sign comparison.AtMost comparison.Less text else (
    if b == 62 then order_sign comparison.AtLeast comparison.More text else None)))
