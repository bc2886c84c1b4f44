-- The digits at the front of a text.
use Rattle.std.proofs.Common.{◌≡◌, ℕ, suc, ◌≤◌, ◌-◌, Bool, true, false, ◌==◌, List, [], ◌∷◌, length, take, drop, refl, ap, arith}
use Rattle.std.specs.Char.{is_ascii_digit}
use Rattle.std.proofs.lemmas.Bool.Decides.{nat_tests}
use Rattle.wc_text.specs.Integer.{positive_of, integer_of}
use Rattle.wc_eval.specs.Fronts.{digits_in, past_digits}

by_bool : (b : Bool) (P : Type 0) → (b ≡ true → P) → (b ≡ false → P) → P
by_bool true P t f = t refl
by_bool false P t f = f refl

long_past : (text : List ℕ) → length (past_digits text) ≤ length text
long_past [] = omega arith
long_past (b ∷ text) = let rest = long_past text in by_bool (is_ascii_digit b) _
    (λ t. rw t (omega (arith, rest)))
    (λ f. rw f (omega arith))

pub digits_taken : (text : List ℕ) → take (length text - length (past_digits text)) text ≡ digits_in text
digits_taken [] = refl
digits_taken (b ∷ text) = by_bool (is_ascii_digit b) _
    (λ t. let rest = long_past text in
    let more : suc (length text) - length (past_digits text) ≡ suc (length text - length (past_digits text)) = omega (arith, rest) in
    rw (t, more) (ap (λ l. b ∷ l) (digits_taken text)))
    (λ f. let none : suc (length text) - suc (length text) ≡ 0 = omega arith in rw (f, none) refl)

pub digits_dropped : (text : List ℕ) → drop (length text - length (past_digits text)) text ≡ past_digits text
digits_dropped [] = refl
digits_dropped (b ∷ text) = by_bool (is_ascii_digit b) _
    (λ t. let rest = long_past text in
    let more : suc (length text) - length (past_digits text) ≡ suc (length text - length (past_digits text)) = omega (arith, rest) in
    rw (t, more) (digits_dropped text))
    (λ f. let none : suc (length text) - suc (length text) ≡ 0 = omega arith in rw (f, none) refl)

pub digits_front : (text rest : List ℕ) → rest ≡ past_digits text → take (length text - length rest) text ≡ digits_in text
digits_front text rest is = rw is (digits_taken text)

pub digits_rest : (text rest : List ℕ) → rest ≡ past_digits text → drop (length text - length rest) text ≡ past_digits text
digits_rest text rest is = rw is (digits_dropped text)

digit_not_minus : (b : ℕ) → is_ascii_digit b ≡ true → (b == 45) ≡ false
digit_not_minus b digit = grind (arith, nat_tests)

-- digits are read as a number, as if there could be no `-`
pub integer_digits : (text : List ℕ) → integer_of (digits_in text) ≡ positive_of (digits_in text)
unfolding integer_of
integer_digits [] = refl
integer_digits (b ∷ text) = by_bool (is_ascii_digit b) _
    (λ t. rw (t, digit_not_minus b t) refl)
    (λ f. rw f refl)
