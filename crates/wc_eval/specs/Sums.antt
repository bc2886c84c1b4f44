-- Expressions of whole numbers: how they are written, and what they are worth.
use Rattle.std.specs.Prelude.{◌≡◌, ℕ, zero, suc, ◌≤◌, ◌^◌}
use Rattle.std.specs.Prelude.{List, [], ◌∷◌, ◌++◌, IsTrue, Option, Some, None, option_and_then}
use Rattle.std.specs.Prelude.{if◌then◌else◌, ℤ, pos, negsuc, neg_ℤ, ◌+ℤ◌}
use Rattle.std.specs.Prelude.{◌-ℤ◌, ◌*ℤ◌, int_lt}
use Rattle.std.specs.Prelude.{int_div, int_rem}
use Rattle.std.specs.List.{list_all}
use Rattle.wc_text.specs.Integer.{positive_of}
use Rattle.wc_eval.specs.Texts.{is_blank}
use Rattle.wc_eval.specs.declared.operator.Operator.{Operator}
use Rattle.wc_eval.specs.declared.operator.Operator.TheVariants.{Add, Subtract, Multiply, Divide}
use Rattle.wc_eval.specs.declared.operator.Operator.TheVariants.{Remainder}

-- an expression
pub data Sum : Type 0 where
  -- digits
  Literal : List ℕ → Sum
  Negative : Sum → Sum
  -- one in parentheses
  Enclosed : Sum → Sum
  Joined : Operator → Sum → Sum → Sum

-- ---- how it is written

abbrev pub sign_of : Operator → List ℕ
sign_of Add = 43 ∷ []
sign_of Subtract = 45 ∷ []
sign_of Multiply = 42 ∷ []
sign_of Divide = 47 ∷ 47 ∷ []
sign_of Remainder = 37 ∷ []

-- 0 for what binds loosest
abbrev pub rank_of : Operator → ℕ
rank_of Add = 0
rank_of Subtract = 0
rank_of Multiply = 1
rank_of Divide = 1
rank_of Remainder = 1

-- blanks alone, or nothing
abbrev pub AreBlanks : List ℕ → Type 0
AreBlanks text = IsTrue (list_all is_blank text)

-- A text writes an expression that binds at least as tight as the rank says: 0 a sum, 1 a product,
-- 2 a number, a negative one or one in parentheses. Operators of one rank go from the left: what is
-- right of one binds tighter. Blanks may be around each number, sign and parenthesis.
abbrev pub Writes : ℕ → Sum → List ℕ → Type 0
Writes rank (Literal digits) text = (margin tail : List ℕ) × AreBlanks margin × AreBlanks tail
    × (text ≡ margin ++ (digits ++ tail))
Writes rank (Negative a) text = (margin body : List ℕ) × AreBlanks margin
    × (text ≡ margin ++ 45 ∷ body) × Writes 2 a body
Writes rank (Enclosed a) text = (margin body tail : List ℕ) × AreBlanks margin × AreBlanks tail
    × (text ≡ margin ++ 40 ∷ (body ++ 41 ∷ tail)) × Writes 0 a body
Writes rank (Joined operator a b) text = (left right : List ℕ) × (rank ≤ rank_of operator)
    × (text ≡ left ++ (sign_of operator ++ right)) × Writes (rank_of operator) a left
    × Writes (suc (rank_of operator)) b right

-- ---- what it is worth

-- a number that fits 64 bits
abbrev pub whole : ℤ → Option ℤ
whole z = if int_lt z (neg_ℤ (pos (2 ^ 63))) then None
    else (if int_lt z (pos (2 ^ 63)) then Some z else None)

abbrev pub unless_zero : ℤ → Option ℤ → Option ℤ
unless_zero (pos zero) value = None
unless_zero (pos (suc n)) value = value
unless_zero (negsuc n) value = value

-- `//` is cut towards zero, and `%` has the sign of the left
abbrev pub result_of : Operator → ℤ → ℤ → Option ℤ
result_of Add x y = whole (x +ℤ y)
result_of Subtract x y = whole (x -ℤ y)
result_of Multiply x y = whole (x *ℤ y)
result_of Divide x y = unless_zero y (whole (int_div x y))
result_of Remainder x y = unless_zero y (whole (int_rem x y))

-- The value of an expression in which so many parentheses may be open at one place. It has none
-- where a divisor is zero, a number does not fit 64 bits at some step, or more are open.
abbrev pub worth : ℕ → Sum → Option ℤ
worth depth (Literal digits) = positive_of digits
worth depth (Negative a) = option_and_then (λ x. whole (neg_ℤ x)) (worth depth a)
worth zero (Enclosed a) = None
worth (suc depth) (Enclosed a) = worth depth a
worth depth (Joined operator a b) = option_and_then (λ x. option_and_then (λ y.
    result_of operator x y) (worth depth b)) (worth depth a)

-- a text is worth this number
pub record IsWorth (text : List ℕ) (value : ℤ) : Type 0 where
  pub sum : Sum
  pub written : Writes 0 sum text
  pub value_is : worth 32 sum ≡ Some value
