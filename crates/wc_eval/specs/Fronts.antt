-- How the value of an expression goes on along its text, and what is at the front of it.
use Rattle.std.specs.Prelude.{◌≡◌, false, ℕ, zero, suc, ◌+◌, List, [], ◌∷◌, ◌++◌, length}
use Rattle.std.specs.Prelude.{if◌then◌else◌}
use Rattle.std.specs.Prelude.{◌==◌, ◌||◌, Option, Some, None, option_map, option_and_then, ℤ}
use Rattle.std.specs.Borrow.{Bor}
use Rattle.std.specs.Char.{is_ascii_digit}
use Rattle.wc_text.specs.Integer.{positive_of}
use Rattle.wc_eval.specs.Texts.{is_blank, past_margin}
use Rattle.wc_eval.specs.Sums.{Sum, Writes, worth}
use Rattle.wc_eval.specs.Signs.{sum_sign, product_sign}
use Rattle.wc_eval.specs.Answers.{Level, bare_level, Point, wants, has, with_number, run}
use Rattle.wc_eval.specs.Tokens.{tokens_of}

-- what is read at the front of a text: a number, and what comes after it
abbrev pub Read : Type 0
Read = Option (ℤ × Bor (List ℕ))

-- what a text comes to from a point on
abbrev pub run_on : Point → List ℕ → Option ℤ
run_on point text = option_and_then (run point) (tokens_of text)

-- the same where the point is there
abbrev pub run_from : Option Point → List ℕ → Option ℤ
run_from None text = None
run_from (Some point) text = run_on point text

abbrev pub or_none : (ℤ → List ℕ → Option ℤ) → Read → Option ℤ
or_none next None = None
or_none next (Some front) = next front.0 front.1.now

-- Wherever a number is wanted with so many levels around it, the text comes to what is left of it
-- after the number that was read, which stands for it.
abbrev pub NumberGoesOn : ℕ → List ℕ → Read → Type 0
NumberGoesOn depth text read = (level : Level) (outer : List Level) → length outer + depth ≡ 32 →
    level.negations ≡ 0 →
    run_on (wants level outer) text
    ≡ or_none (λ x rest. run_from (with_number level outer x) rest) read

abbrev pub ProductGoesOn : ℕ → List ℕ → Read → Type 0
ProductGoesOn depth text read = (level : Level) (outer : List Level) → length outer + depth ≡ 32 →
    level.negations ≡ 0 → level.product ≡ None →
    run_on (wants level outer) text ≡ or_none (λ x rest. run_on (has level outer x) rest) read

abbrev pub SumGoesOn : ℕ → List ℕ → Read → Type 0
SumGoesOn depth text read = (outer : List Level) → length outer + depth ≡ 32 →
    run_on (wants bare_level outer) text
    ≡ or_none (λ x rest. run_on (has bare_level outer x) rest) read

-- A sum in parentheses, of which the first is passed: the number stands in the level around it.
abbrev pub EnclosedGoesOn : ℕ → List ℕ → Read → Type 0
EnclosedGoesOn zero text read = read ≡ None
EnclosedGoesOn (suc depth) text read = (level : Level) (outer : List Level) →
    length outer + suc depth ≡ 32 → run_on (wants bare_level (level ∷ outer)) text
    ≡ or_none (λ x rest. run_from (with_number level outer x) rest) read

-- no blank and no `-` at the front
abbrev pub IsBody : List ℕ → Type 0
IsBody [] = Unit {0}
IsBody (b ∷ text) = ((b == 45) ≡ false) × (is_blank b ≡ false)

abbrev pub PlainGoesOn : ℕ → List ℕ → Read → Type 0
PlainGoesOn depth text read = (level : Level) (outer : List Level) → length outer + depth ≡ 32 →
    IsBody text → run_on (wants level outer) text
    ≡ or_none (λ x rest. run_from (with_number level outer x) rest) read

-- At the front of a text stands an expression that binds at least as tight as the rank says and is
-- worth the number, and this is left after it.
pub record IsFront (depth rank : ℕ) (text : List ℕ) (value : ℤ) (rest : List ℕ) : Type 0 where
  pub sum : Sum
  pub front : List ℕ
  pub parted : text ≡ front ++ rest
  pub written : Writes rank sum front
  pub value_is : worth depth sum ≡ Some value

-- ---- where a sum and a product end

-- no blank, and no sign that goes on with a product
abbrev pub EndsProduct : List ℕ → Type 0
EndsProduct text = (past_margin text ≡ text) × (product_sign text ≡ None)

-- no blank, and no sign that goes on with a sum
abbrev pub EndsSum : List ℕ → Type 0
EndsSum text = EndsProduct text × (sum_sign text ≡ None)

-- ---- parts of a number

-- the `-` at the front of a text, among blanks
abbrev pub negations_in : List ℕ → ℕ
negations_in [] = 0
negations_in (b ∷ text) = if b == 45 then suc (negations_in text) else (
    if is_blank b then negations_in text else 0)

abbrev pub past_negations : List ℕ → List ℕ
past_negations [] = []
past_negations (b ∷ text) = if (b == 45) || is_blank b then past_negations text else b ∷ text

abbrev pub digits_in : List ℕ → List ℕ
digits_in [] = []
digits_in (b ∷ text) = if is_ascii_digit b then b ∷ digits_in text else []

abbrev pub past_digits : List ℕ → List ℕ
past_digits [] = []
past_digits (b ∷ text) = if is_ascii_digit b then past_digits text else b ∷ text

abbrev pub literal_front : List ℕ → Option (ℤ × List ℕ)
literal_front text = option_map (λ x. (x, past_digits text)) (positive_of (digits_in text))
