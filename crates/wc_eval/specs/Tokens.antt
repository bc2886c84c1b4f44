-- The tokens of an expression.
use Rattle.std.specs.Prelude.{ℕ, Bool, false, List, [], ◌∷◌, ◌==◌, if◌then◌else◌, Option, Some}
use Rattle.std.specs.Prelude.{None, option_map, option_and_then}
use Rattle.std.specs.Char.{is_ascii_digit}
use Rattle.wc_text.specs.Splits.{begins_with}
use Rattle.wc_eval.specs.Texts.{is_blank}
use Rattle.wc_eval.specs.declared.operator.Operator.{Operator}
use Rattle.wc_eval.specs.declared.operator.Operator.TheVariants.{Add, Subtract, Multiply, Divide}
use Rattle.wc_eval.specs.declared.operator.Operator.TheVariants.{Remainder}

pub data Token : Type 0 where
  -- a run of digits
  Digits : List ℕ → Token
  Sign : Operator → Token
  Opens : Token
  Closes : Token
  -- a `/` whose partner is before it
  Half : Token

-- a digit before tokens, the first of which it lengthens where no blank is between them
abbrev pub onto_digits : ℕ → Bool → List Token → List Token
onto_digits b adjacent [] = Digits (b ∷ []) ∷ []
onto_digits b adjacent (Digits digits ∷ tokens) = if adjacent then Digits (b ∷ digits) ∷ tokens
    else Digits (b ∷ []) ∷ Digits digits ∷ tokens
onto_digits b adjacent (token ∷ tokens) = Digits (b ∷ []) ∷ token ∷ tokens

-- A `/` before tokens: with a `/` right after it the two are one sign.
abbrev pub onto_half : Bool → List Token → List Token
onto_half adjacent [] = Half ∷ []
onto_half adjacent (Half ∷ tokens) = if adjacent then Sign Divide ∷ tokens else Half ∷ Half ∷ tokens
onto_half adjacent (token ∷ tokens) = Half ∷ token ∷ tokens

abbrev pub begins_with_digit : List ℕ → Bool
begins_with_digit [] = false
begins_with_digit (b ∷ text) = is_ascii_digit b

-- the token that one byte is, beside digits and `/`
abbrev pub single_sign : ℕ → Option Token
single_sign b = if b == 43 then Some (Sign Add) else (if b == 45 then Some (Sign Subtract) else (
    if b == 42 then Some (Sign Multiply) else (if b == 37 then Some (Sign Remainder) else (
    if b == 40 then Some Opens else (if b == 41 then Some Closes else None)))))

abbrev pub with_byte : ℕ → List ℕ → List Token → Option (List Token)
with_byte b text tokens = if is_blank b then Some tokens else (
    if is_ascii_digit b then Some (onto_digits b (begins_with_digit text) tokens) else (
    if b == 47 then Some (onto_half (begins_with 47 text) tokens) else
    option_map (λ token. token ∷ tokens) (single_sign b)))

-- the tokens of a text, if it has nothing else
unfoldable pub tokens_of : List ℕ → Option (List Token)
tokens_of [] = Some []
tokens_of (b ∷ text) = option_and_then (with_byte b text) (tokens_of text)
