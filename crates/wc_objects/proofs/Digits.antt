-- The digits of a pointer as they are written, from the last to the first.
use Rattle.std.proofs.Common.{◌≡◌, ℕ, ◌+◌, ◌-◌, ◌/◌, ◌%◌, ◌<◌, ◌≤◌, ◌^◌, List, ◌++◌, map, length, drop, set, refl, arith, append_assoc, append-nil}
use Rattle.std.specs.Int.Digits.{digits_of}
use Rattle.std.proofs.lemmas.Int.Digits.{digits_of_step, length-digits_of_step, length-digits_of-le}
use Rattle.std.proofs.lemmas.List.{drop-set, map-append, drop_all}
use Rattle.std.proofs.lemmas.Bool.{ne_eqb}
use Rattle.wc_objects.specs.Hex.{glyph, hex}

pub digits_fit : (n : ℕ) → n < 2 ^ 64 → length (digits_of 16 n) ≤ 16
digits_fit n h = length-digits_of-le 16 16 n (omega arith) h

pub length-step : (n : ℕ) → 0 < n → length (digits_of 16 n) ≡ length (digits_of 16 (n / 16)) + 1
length-step n h = length-digits_of_step 16 n (omega arith) h

-- one more digit is written in front
pub writes_digit : (n at : ℕ) (digits whole : List ℕ) → 0 < n → 0 < at → at ≤ length digits → map glyph (digits_of 16 n) ++ drop at digits ≡ whole
    → map glyph (digits_of 16 (n / 16)) ++ drop (at - 1) (set digits (at - 1) (glyph (n % 16))) ≡ whole
writes_digit n at digits whole positive room long so_far =
    let step = digits_of_step 16 n (omega arith) positive in
    let before : at - 1 < length digits = omega arith in
    let next : at - 1 + 1 ≡ at = omega arith in
    rw (drop-set digits (at - 1) (glyph (n % 16)) before, next)
    (rw (step, map-append, append_assoc) at so_far)

-- null is one zero
pub hex_null : (n : ℕ) (digits : List ℕ) → n ≡ 0 → length digits ≡ 16 → drop 15 (set digits 15 48) ≡ hex n
unfolding hex
hex_null n digits null long =
    let within : 15 < length digits = omega arith in
    rw (drop-set digits 15 48 within, drop_all 16 digits (omega arith), null) refl

pub hex_digits : (n left at : ℕ) (digits : List ℕ) → 0 < n → left ≡ 0 → map glyph (digits_of 16 left) ++ drop at digits ≡ map glyph (digits_of 16 n) → drop at digits ≡ hex n
unfolding hex
hex_digits n left at digits positive done written =
    rw (ne_eqb n 0 (λ e. omega arith)) (let all = rw done at written in all)

pub starts : (n : ℕ) (digits : List ℕ) → length digits ≡ 16 → map glyph (digits_of 16 n) ++ drop 16 digits ≡ map glyph (digits_of 16 n)
starts n digits long = rw (drop_all 16 digits (omega arith), append-nil) refl
