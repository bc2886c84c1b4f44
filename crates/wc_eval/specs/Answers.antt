-- What an expression is worth, computed from the left: numbers are joined as soon as what comes
-- next binds no tighter.
use Rattle.std.specs.Prelude.{ℕ, zero, suc, ◌+◌, nat_lt, List, [], ◌∷◌, length, if◌then◌else◌}
use Rattle.std.specs.Prelude.{◌==◌, Option, Some, None, option_and_then, option_map, ℤ, neg_ℤ}
use Rattle.wc_text.specs.Integer.{positive_of}
use Rattle.wc_eval.specs.declared.operator.Operator.{Operator}
use Rattle.wc_eval.specs.declared.operator.Operator.TheVariants.{Subtract}
use Rattle.wc_eval.specs.Sums.{rank_of, whole, result_of}
use Rattle.wc_eval.specs.Tokens.{Token, Digits, Sign, Opens, Closes, Half, tokens_of}

-- What waits for a number at one depth of parentheses: a sum and a product on the left, each with
-- the operator after it, and how many times the number is to be negated.
pub record Level : Type 0 where
  pub sum : Option (ℤ × Operator)
  pub product : Option (ℤ × Operator)
  pub negations : ℕ

abbrev pub bare_level : Level
bare_level = record { sum = None; product = None; negations = 0 }

-- how far it is: the levels that are open around this one, from the inside
pub record Point : Type 0 where
  pub level : Level
  pub outer : List Level
  -- the product up to here, or none where a number is wanted
  pub value : Option ℤ

abbrev pub start_point : Point
start_point = record { level = bare_level; outer = []; value = None }

-- ---- numbers joined

abbrev pub negation_of : ℕ → ℤ → Option ℤ
negation_of zero x = Some x
negation_of (suc n) x = option_and_then (negation_of n) (whole (neg_ℤ x))

abbrev pub value_after : Option (ℤ × Operator) → ℤ → Option ℤ
value_after None x = Some x
value_after (Some left) x = result_of left.1 left.0 x

-- the product with a number as its next one
abbrev pub product_with : Level → ℤ → Option ℤ
product_with level x = option_and_then (value_after level.product) (negation_of level.negations x)

-- the sum with a product as its next one
abbrev pub sum_with : Level → ℤ → Option ℤ
sum_with level x = value_after level.sum x

abbrev pub has : Level → List Level → ℤ → Point
has level outer x = record { level = level; outer = outer; value = Some x }

abbrev pub wants : Level → List Level → Point
wants level outer = record { level = level; outer = outer; value = None }

-- ---- one token more

abbrev pub with_number : Level → List Level → ℤ → Option Point
with_number level outer x = option_map (has level outer) (product_with level x)

-- a number is wanted
abbrev pub before_number : Level → List Level → Token → Option Point
before_number level outer (Digits digits) =
    option_and_then (with_number level outer) (positive_of digits)
before_number level outer (Sign Subtract) =
    Some (wants (record level { negations = level.negations + 1 }) outer)
before_number level outer (Sign operator) = None
before_number level outer Opens = if nat_lt (length outer) 32
    then Some (wants bare_level (level ∷ outer))
    else None
before_number level outer Closes = None
before_number level outer Half = None

-- an operator after a product
abbrev pub with_sign : Level → ℤ → Operator → Option Level
with_sign level x operator = if rank_of operator == 1
    then Some (record { sum = level.sum; product = Some (x, operator); negations = 0 })
    else option_map (λ y. record { sum = Some (y, operator); product = None; negations = 0 })
    (sum_with level x)

-- a closing parenthesis after a sum
abbrev pub after_closing : List Level → ℤ → Option Point
after_closing [] x = None
after_closing (level ∷ outer) x = with_number level outer x

-- a number was read
abbrev pub after_number : Level → List Level → ℤ → Token → Option Point
after_number level outer x (Digits digits) = None
after_number level outer x (Sign operator) =
    option_map (λ next. wants next outer) (with_sign level x operator)
after_number level outer x Opens = None
after_number level outer x Closes = option_and_then (after_closing outer) (sum_with level x)
after_number level outer x Half = None

abbrev pub step_by : Level → List Level → Option ℤ → Token → Option Point
step_by level outer None token = before_number level outer token
step_by level outer (Some x) token = after_number level outer x token

abbrev pub step : Point → Token → Option Point
step point token = step_by point.level point.outer point.value token

-- ---- the end

abbrev pub end_by : Level → List Level → Option ℤ → Option ℤ
end_by level outer None = None
end_by level [] (Some x) = sum_with level x
end_by level (o ∷ outer) (Some x) = None

-- what the tokens that are left come to
unfoldable pub run : Point → List Token → Option ℤ
run point [] = end_by point.level point.outer point.value
run point (token ∷ tokens) = option_and_then (λ next. run next tokens) (step point token)

-- the value of a text
unfoldable pub calc_of : List ℕ → Option ℤ
calc_of text = option_and_then (run start_point) (tokens_of text)
