-- Numbers in hex, digit by digit.
use Rattle.std.proofs.Common.{◌≡◌, ℕ, zero, suc, ◌+◌, ◌*◌, ◌^◌, ◌<◌, ◌≤◌, Bool, true, false, ◌&&◌, nat_lt, List, [], ◌∷◌, ◌++◌, length, get_or, take, drop, Some, None, refl, sym, ap, ◌∙◌, arith}
use Rattle.std.specs.List.{list_all}
use Rattle.std.specs.Char.{digit_value}
use Rattle.std.specs.Str.Parse.{digits_value_after, digits_value}
use Rattle.std.proofs.lemmas.List.{take_more, take-append-drop}
use Rattle.std.proofs.lemmas.Bool.{and_left, and_right}
use Rattle.std.proofs.lemmas.Bool.Decides.{nat_tests}
use Rattle.wc_session.specs.Names.{hex_number}

abbrev pub is_digit : ℕ → Bool
is_digit c = nat_lt (digit_value c) 16

and_assoc : (x y z : Bool) → ((x && y) && z) ≡ (x && (y && z))
and_assoc true y z = refl
and_assoc false y z = refl

list_all-append : (p : ℕ → Bool) (xs ys : List ℕ) → list_all p (xs ++ ys) ≡ (list_all p xs && list_all p ys)
list_all-append p [] ys = refl
list_all-append p (x ∷ xs) ys = ap (λ t. p x && t) (list_all-append p xs ys) ∙ sym (and_assoc (p x) _ _)

-- one more byte passes
pub list_all_more : (p : ℕ → Bool) (xs : List ℕ) (i : ℕ) → i < length xs → list_all p (take i xs) ≡ true → p (get_or xs i 0) ≡ true → list_all p (take (i + 1) xs) ≡ true
list_all_more p xs i inside before here =
    ap (list_all p) (take_more xs i 0 inside) ∙ list_all-append p (take i xs) _ ∙ (λ k. before k && (here k && true))

-- one byte fails
list_all_fails : (p : ℕ → Bool) (xs : List ℕ) (i : ℕ) → i < length xs → p (get_or xs i 0) ≡ false → list_all p xs ≡ false
list_all_fails p [] i inside fails = absurd (omega arith)
list_all_fails p (x ∷ xs) zero inside fails = and_left _ _ fails
list_all_fails p (x ∷ xs) (suc i) inside fails = and_right _ _ (list_all_fails p xs i (omega arith) fails)

digits_value_after-ge : (ds : List ℕ) (n : ℕ) → n ≤ digits_value_after 16 n ds
digits_value_after-ge [] n = omega arith
digits_value_after-ge (d ∷ ds) n = omega (arith, digits_value_after-ge ds (n * 16 + digit_value d))

digits_value_after-append : (n : ℕ) (xs ys : List ℕ) → digits_value_after 16 n (xs ++ ys) ≡ digits_value_after 16 (digits_value_after 16 n xs) ys
digits_value_after-append n [] ys = refl
digits_value_after-append n (x ∷ xs) ys = digits_value_after-append (n * 16 + digit_value x) xs ys

-- more digits make no smaller number
digits_value-take-le : (i : ℕ) (ds : List ℕ) → digits_value 16 (take i ds) ≤ digits_value 16 ds
digits_value-take-le i ds =
    let whole = ap (digits_value 16) (sym (take-append-drop i ds)) ∙ digits_value_after-append 0 (take i ds) (drop i ds) in
    omega (arith, digits_value_after-ge (drop i ds) (digits_value 16 (take i ds)))

not_true : (b : Bool) → (b ≡ true → ⊥) → b ≡ false
not_true true never = absurd (never refl)
not_true false never = refl

pub not_digit : (c : ℕ) → (digit_value c < 16 → ⊥) → is_digit c ≡ false
not_digit c never = not_true (is_digit c) (λ t. never (grind (arith, nat_tests)))

pub digit_passes : (c : ℕ) → digit_value c < 16 → is_digit c ≡ true
digit_passes c h = grind (arith, nat_tests)

pub no_digits : (ds : List ℕ) → length ds ≡ 0 → None ≡ hex_number ds
unfolding hex_number
no_digits ds none = grind (arith, nat_tests)

-- where a byte is no digit, there is no number
pub no_number : (ds : List ℕ) (i : ℕ) → i < length ds → is_digit (get_or ds i 0) ≡ false → hex_number ds ≡ None
unfolding hex_number
no_number ds i inside fails =
    let h : list_all (λ c. is_digit c) ds ≡ false = list_all_fails is_digit ds i inside fails in
    grind (arith, nat_tests)

-- nor where the first digits are above the bound
pub too_large : (ds : List ℕ) (i : ℕ) → 2 ^ 64 ≤ digits_value 16 (take i ds) → hex_number ds ≡ None
unfolding hex_number
too_large ds i large =
    let h : 2 ^ 64 ≤ digits_value 16 ds = omega (arith, digits_value-take-le i ds) in
    grind (arith, nat_tests)

pub number : (ds : List ℕ) → 0 < length ds → list_all is_digit ds ≡ true → digits_value 16 ds < 2 ^ 64 → hex_number ds ≡ Some (digits_value 16 ds)
unfolding hex_number
number ds some digits within = grind (arith, nat_tests)
