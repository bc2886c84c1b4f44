-- The text of a number in decimal is read as that number, and only that text is.
use Rattle.std.proofs.Common.{◌≡◌, ℕ, zero, suc, ◌<◌, ◌≤◌, ◌^◌, Bool, true, false, ◌&&◌, eqb, List, [], ◌∷◌, get_or, Option, Some, None, Result, Ok, Err, refl, sym, ap, subst, ◌∙◌, arith}
use Rattle.std.specs.Prelude.{ℤ, pos, negsuc, IsUtf8}
use Rattle.std.specs.Int.{w64}
use mir.Val.{to_z, of_z}
use Rattle.std.proofs.lemmas.Int.{to_z-of_z}
use Rattle.std.specs.Int.RustNames.{FitsSigned}
use Rattle.std.specs.Fmt.{decimal, signed_decimal}
use Rattle.std.specs.Str.{bytes_eq}
use Rattle.std.specs.Str.Parse.{digits_value, signed_digits_value, ParsesSigned}
use Rattle.std.proofs.lemmas.Fmt.{decimal_is_IsNumeral, decimal_digit, first_decimal, parse-signed_decimal, IsAscii-signed}
use Rattle.std.proofs.lemmas.Bool.{and_parts, lt-ltb, ltb-true, ne_eqb}
use Rattle.std.proofs.lemmas.Slice.Eq.{bytes_eq-Decides}
use Rattle.std.proofs.lemmas.Str.{IsUtf8-from_ascii}
use Rattle.wc_objects.specs.Reading.{fits_i64, if_spelt, decimal_number}

fits_is : (z : ℤ) → FitsSigned w64 z → fits_i64 z ≡ true
fits_is (pos n) f = lt-ltb n (2 ^ 63) f.sfits
fits_is (negsuc n) f = lt-ltb n (2 ^ 63) f.sfits

is_fit : (z : ℤ) → fits_i64 z ≡ true → FitsSigned w64 z
is_fit (pos n) t = record { sfits = ltb-true n (2 ^ 63) t }
is_fit (negsuc n) t = record { sfits = ltb-true n (2 ^ 63) t }

abbrev done : (E : Type 0) → ℤ → Result ℤ E
done E z = Ok z

abbrev failed : (E : Type 0) → E → Result ℤ E
failed E error = Err error

-- a text begins with a digit
pub begins_digit : (n : ℕ) → n < 2 ^ 64 → 48 ≤ get_or (decimal n) 0 0
begins_digit zero h = let one : decimal 0 ≡ 48 ∷ [] = decimal_digit 0 (omega arith) in omega (arith, ap (λ (t : List ℕ). get_or t 0 0) one)
begins_digit (suc n) h = omega (arith, first_decimal (suc n) (omega arith) h)

value_unsigned : (text : List ℕ) (n : ℕ) → 48 ≤ get_or text 0 0 → digits_value 10 text ≡ n → signed_digits_value 10 text ≡ pos n
value_unsigned text n first value =
    let minus : eqb (get_or text 0 0) 45 ≡ false = ne_eqb (get_or text 0 0) 45 (λ e. omega arith) in
    let plus : eqb (get_or text 0 0) 43 ≡ false = ne_eqb (get_or text 0 0) 43 (λ e. omega arith) in
    rw (minus, plus, value) refl

decimal_value : (z : ℤ) → FitsSigned w64 z → signed_digits_value 10 (signed_decimal z) ≡ z
decimal_value (pos n) f = value_unsigned (decimal n) n (begins_digit n (omega (arith, f.sfits))) (decimal_is_IsNumeral n (omega (arith, f.sfits))).1
decimal_value (negsuc n) f = rw (decimal_is_IsNumeral (suc n) (omega (arith, f.sfits))).1 refl

is_spelt : (z : ℤ) (text : List ℕ) → FitsSigned w64 z → text ≡ signed_decimal z → if_spelt z text ≡ Some z
is_spelt z text f e = rw (fits_is z f, (bytes_eq-Decides (signed_decimal z) text).1 (sym e)) refl

pub decimal_again : (z : ℤ) (text : List ℕ) → FitsSigned w64 z → text ≡ signed_decimal z → decimal_number text ≡ Some z
unfolding decimal_number
decimal_again z text f e =
    let value : signed_digits_value 10 text ≡ z = ap (signed_digits_value 10) e ∙ decimal_value z f in
    ap (λ v. if_spelt v text) value ∙ is_spelt z text f e

spelt_only : (v z : ℤ) (text : List ℕ) → if_spelt v text ≡ Some z → (text ≡ signed_decimal z) × FitsSigned w64 z
spelt_only v z text e = by_test (fits_i64 v && bytes_eq (signed_decimal v) text) refl
  where
    by_test : (t : Bool) → (fits_i64 v && bytes_eq (signed_decimal v) text) ≡ t → (text ≡ signed_decimal z) × FitsSigned w64 z
    by_test true h =
        let p = and_parts (fits_i64 v) (bytes_eq (signed_decimal v) text) h in
        let same : v ≡ z = (let k = rw h at e in cc) in
        let spelling : signed_decimal v ≡ text = (bytes_eq-Decides (signed_decimal v) text).0 p.1 in
        (sym spelling ∙ ap signed_decimal same, subst (λ (y : ℤ). FitsSigned w64 y) same (is_fit v p.0))
    by_test false h = let k = rw h at e in absurd cc

pub decimal_only : (text : List ℕ) (z : ℤ) → decimal_number text ≡ Some z → (text ≡ signed_decimal z) × FitsSigned w64 z
unfolding decimal_number
decimal_only text z e = spelt_only (signed_digits_value 10 text) z text e

abbrev NoNumber : List ℕ → Type 0
NoNumber text = (z : ℤ) → FitsSigned w64 z → text ≡ signed_decimal z → ⊥

is_no_number : (text : List ℕ) → NoNumber text → None ≡ decimal_number text
is_no_number text no_number = by_option (decimal_number text) (λ z e. no_number z (decimal_only text z e).1 (decimal_only text z e).0)
  where
    by_option : (o : Option ℤ) → ((z : ℤ) → o ≡ Some z → ⊥) → None ≡ o
    by_option None h = refl
    by_option (Some z) h = absurd (h z refl)

pub not_text : (text : List ℕ) → (IsUtf8 text → ⊥) → None ≡ decimal_number text
not_text text other = is_no_number text (λ z f e. other (subst IsUtf8 (sym e) (IsUtf8-from_ascii (signed_decimal z) (IsAscii-signed z f.sfits))))

pub not_parsed : (E : Type 0) (text digits : List ℕ) (error : E) → digits ≡ text → ParsesSigned {E = E} w64 10 digits (Err error) → None ≡ decimal_number text
not_parsed E text digits error same parsed =
    is_no_number text (λ z f e. let r : failed E error ≡ done E z = parse-signed_decimal w64 z digits (Err error) f f.sfits (same ∙ e) parsed in absurd cc)

-- what is written is that of the number that was parsed, which a cast to bits and back leaves
pub not_spelt : (text digits written : List ℕ) (n : ℤ) → digits ≡ text → FitsSigned w64 (signed_digits_value 10 digits) → n ≡ signed_digits_value 10 digits → written ≡ signed_decimal (to_z w64 (of_z w64 n)) → false ≡ bytes_eq written text
    → None ≡ decimal_number text
not_spelt text digits written n same fits value formatted other =
    is_no_number text (λ z f e.
    let equal : n ≡ z = value ∙ ap (signed_digits_value 10) (same ∙ e) ∙ decimal_value z f in
    let whole : written ≡ text = formatted ∙ ap signed_decimal (to_z-of_z w64 n (subst (λ (y : ℤ). FitsSigned w64 y) (sym value) fits) ∙ equal) ∙ sym e in
    let tested : bytes_eq written text ≡ true = (bytes_eq-Decides written text).1 whole in
    absurd cc)

pub is_number : (text digits written : List ℕ) (n : ℤ) → FitsSigned w64 (signed_digits_value 10 digits) → n ≡ signed_digits_value 10 digits → written ≡ signed_decimal (to_z w64 (of_z w64 n)) → true ≡ bytes_eq written text
    → Some (to_z w64 (of_z w64 n)) ≡ decimal_number text
is_number text digits written n digits_fit value formatted tested =
    let fits = subst (λ (y : ℤ). FitsSigned w64 y) (sym value) digits_fit in
    let back = to_z-of_z w64 n fits in
    ap Some back ∙ sym (decimal_again n text fits (sym ((bytes_eq-Decides written text).0 (sym tested)) ∙ formatted ∙ ap signed_decimal back))
