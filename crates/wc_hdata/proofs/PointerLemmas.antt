-- Numbers in hex, digit by digit.
use Rattle.std.proofs.Common.{◌≡◌, ℕ, ◌+◌, ◌^◌, ◌<◌, ◌≤◌, Bool, true, false, nat_lt, List, [], ◌∷◌, length, get_or, take, Some, None, refl, sym, arith, subst}
use Rattle.std.specs.List.{list_all}
use Rattle.std.specs.Char.{digit_value}
use Rattle.std.specs.Str.Parse.{digits_value, AllDigits}
use Rattle.std.proofs.Math.Nat.{pow-le-pow_right}
use Rattle.std.proofs.lemmas.List.{take_more, length-take}
use Rattle.std.proofs.lemmas.Bool.{lt-ltb, and_from}
use Rattle.std.proofs.lemmas.Bool.Decides.{nat_tests}
use Rattle.std.proofs.lemmas.List.Folds.{list_all_at}
use Rattle.std.proofs.lemmas.Int.Digits.{digits_value-lt, digits_push}
use Rattle.wc_hdata.specs.Answers.{hex_of}

abbrev pub is_hex : ℕ → Bool
is_hex c = nat_lt (digit_value c) 16

-- one more digit
pub hex_more : (ds : List ℕ) (i : ℕ) → i < length ds → AllDigits 16 (take i ds) → digit_value (get_or ds i 0) < 16 → AllDigits 16 (take (i + 1) ds)
hex_more ds i within so_far digit =
    subst (λ t. AllDigits 16 t) (sym (take_more ds i 0 within)) (digits_push 16 (take i ds) (get_or ds i 0) so_far digit)

-- there is room for one more of 16 digits
pub hex_room : (ds : List ℕ) (i : ℕ) → i < length ds → length ds ≤ 16 → AllDigits 16 (take i ds) → digits_value 16 (take i ds) < 2 ^ 60
hex_room ds i within short digits =
    let few : length (take i ds) ≤ 15 = omega (arith, length-take i ds) in
    let most : 16 ^ length (take i ds) ≤ 16 ^ 15 = pow-le-pow_right (omega arith) few in
    omega (arith, digits_value-lt 16 (take i ds) digits, most)

hex_digits : (ds : List ℕ) → AllDigits 16 ds → list_all (λ c. is_hex c) ds ≡ true
hex_digits [] digits = refl
hex_digits (d ∷ ds) digits = and_from (is_hex d) (list_all (λ c. is_hex c) ds) (lt-ltb (digit_value d) 16 digits.0) (hex_digits ds digits.1)

not_true : (b : Bool) → (b ≡ true → ⊥) → b ≡ false
not_true true never = absurd (never refl)
not_true false never = refl

-- where a byte is no digit, there is no number
pub no_hex : (ds : List ℕ) (i : ℕ) → i < length ds → (digit_value (get_or ds i 0) < 16 → ⊥) → hex_of ds ≡ None
no_hex ds i within never =
    let fails : is_hex (get_or ds i 0) ≡ false = not_true (is_hex (get_or ds i 0)) (λ t. never (grind (arith, nat_tests))) in
    let h : list_all (λ c. is_hex c) ds ≡ false = list_all_at (λ c. is_hex c) ds i 0 within fails in
    grind (arith, nat_tests)

pub hex_number_of : (ds : List ℕ) → 1 ≤ length ds → length ds ≤ 16 → AllDigits 16 ds → hex_of ds ≡ Some (digits_value 16 ds)
hex_number_of ds least most digits =
    let h : list_all (λ c. is_hex c) ds ≡ true = hex_digits ds digits in
    grind (arith, nat_tests)
