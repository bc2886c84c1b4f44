-- Numbers in decimal, digit by digit.
use Rattle.std.proofs.Common.{◌≡◌, ℕ, zero, suc, ◌+◌, ◌*◌, ◌<◌, ◌≤◌, Bool, true, false, ◌&&◌, List, [], ◌∷◌, ◌++◌, length, get_or, take, drop, Some, None, refl, sym, ap, ◌∙◌, arith}
use Rattle.std.specs.List.{list_all}
use Rattle.std.specs.Char.{is_ascii_digit, digit_value}
use Rattle.std.specs.Str.Parse.{digits_value_after, digits_value}
use Rattle.std.proofs.lemmas.List.{take_more, take-append-drop}
use Rattle.std.proofs.lemmas.Bool.{and_left, and_right}
use Rattle.std.proofs.lemmas.Bool.Decides.{nat_tests}
use Rattle.wc_text.specs.Integer.{magnitude_of}

and_assoc : (x y z : Bool) → ((x && y) && z) ≡ (x && (y && z))
and_assoc true y z = refl
and_assoc false y z = refl

list_all-append : (p : ℕ → Bool) (xs ys : List ℕ) → list_all p (xs ++ ys) ≡ (list_all p xs && list_all p ys)
list_all-append p [] ys = refl
list_all-append p (x ∷ xs) ys = ap (λ t. p x && t) (list_all-append p xs ys) ∙ sym (and_assoc (p x) _ _)

-- one more byte passes
pub list_all_more : (p : ℕ → Bool) (xs : List ℕ) (i : ℕ) → i < length xs → list_all p (take i xs) ≡ true → p (get_or xs i 0) ≡ true → list_all p (take (i + 1) xs) ≡ true
list_all_more p xs i inside before here =
    ap (list_all p) (take_more xs i 0 inside) ∙ list_all-append p (take i xs) _ ∙ (λ k. before k && (here k && true))

-- one byte fails
pub list_all_fails : (p : ℕ → Bool) (xs : List ℕ) (i : ℕ) → i < length xs → p (get_or xs i 0) ≡ false → list_all p xs ≡ false
list_all_fails p [] i inside fails = absurd (omega arith)
list_all_fails p (x ∷ xs) zero inside fails = and_left _ _ fails
list_all_fails p (x ∷ xs) (suc i) inside fails = and_right _ _ (list_all_fails p xs i (omega arith) fails)

digits_value_after-ge : (ds : List ℕ) (n : ℕ) → n ≤ digits_value_after 10 n ds
digits_value_after-ge [] n = omega arith
digits_value_after-ge (d ∷ ds) n = omega (arith, digits_value_after-ge ds (n * 10 + digit_value d))

digits_value_after-append : (n : ℕ) (xs ys : List ℕ) → digits_value_after 10 n (xs ++ ys) ≡ digits_value_after 10 (digits_value_after 10 n xs) ys
digits_value_after-append n [] ys = refl
digits_value_after-append n (x ∷ xs) ys = digits_value_after-append (n * 10 + digit_value x) xs ys

-- more digits make no smaller number
pub digits_value-take-le : (i : ℕ) (ds : List ℕ) → digits_value 10 (take i ds) ≤ digits_value 10 ds
digits_value-take-le i ds =
    let whole = ap (digits_value 10) (sym (take-append-drop i ds)) ∙ digits_value_after-append 0 (take i ds) (drop i ds) in
    omega (arith, digits_value_after-ge (drop i ds) (digits_value 10 (take i ds)))

-- where a byte is no digit, there is no number
pub no_magnitude : (most : ℕ) (ds : List ℕ) (i : ℕ) → i < length ds → is_ascii_digit (get_or ds i 0) ≡ false → magnitude_of most ds ≡ None
no_magnitude most ds i inside fails =
    let h : list_all is_ascii_digit ds ≡ false = list_all_fails is_ascii_digit ds i inside fails in
    grind (arith, nat_tests)

-- nor where the first digits are above the bound
pub too_large : (most : ℕ) (ds : List ℕ) (i : ℕ) → most < digits_value 10 (take i ds) → magnitude_of most ds ≡ None
too_large most ds i large =
    let h : most < digits_value 10 ds = omega (arith, digits_value-take-le i ds) in
    grind (arith, nat_tests)

pub magnitude : (most : ℕ) (ds : List ℕ) → 0 < length ds → list_all is_ascii_digit ds ≡ true → digits_value 10 ds ≤ most → magnitude_of most ds ≡ Some (digits_value 10 ds)
magnitude most ds some digits within = grind (arith, nat_tests)
