-- The number that few digits spell is small.
use Rattle.std.proofs.Common.{◌≡◌, ℕ, ◌+◌, ◌*◌, ◌<◌, ◌≤◌, ◌^◌, List, [], ◌∷◌, ◌++◌, map, length, take, drop, get_or, refl, sym, ap, ◌∙◌, arith, add-one}
use Rattle.std.specs.List.{list_all}
use Rattle.std.specs.Int.Digits.{number_from_digits, AllBelowBase}
use Rattle.std.proofs.Math.Nat.{pow-le-pow_right}
use Rattle.std.proofs.Math.Seq.{drop-cons}
use Rattle.std.proofs.lemmas.List.{take_more, map-append, length-take, length-map}
use Rattle.std.proofs.lemmas.Int.Digits.{number_lt, number_push}
use Rattle.std.proofs.Common.{Bool, true, ◌&&◌}
use Rattle.wc_objects.specs.Hex.{is_hex, digit}

pub few_digits : (ds : List ℕ) → AllBelowBase 16 ds → length ds ≤ 15 → number_from_digits 16 ds < 1152921504606846976
few_digits ds low short =
    let most : 16 ^ length ds ≤ 16 ^ 15 = pow-le-pow_right (omega arith) short in
    omega (arith, number_lt 16 ds low, most)

pub room : (text : List ℕ) (i number : ℕ) → i < length text → length text ≤ 16 → AllBelowBase 16 (map digit (take i text)) → number ≡ number_from_digits 16 (map digit (take i text)) → number < 1152921504606846976
room text i number within short low is =
    let long : length (map digit (take i text)) ≤ 15 = omega (arith, length-map (take i text) digit, length-take i text) in
    omega (arith, few_digits (map digit (take i text)) low long, is)

low_push : (ds : List ℕ) (d : ℕ) → AllBelowBase 16 ds → d < 16 → AllBelowBase 16 (ds ++ d ∷ [])
low_push [] d low small = (small, tt)
low_push (e ∷ ds) d low small = (low.0, low_push ds d low.1 small)

digits_more : (text : List ℕ) (i : ℕ) → i < length text → map digit (take (i + 1) text) ≡ map digit (take i text) ++ digit (get_or text i 0) ∷ []
digits_more text i within = ap (map digit) (take_more text i 0 within) ∙ map-append digit (take i text) (get_or text i 0 ∷ [])

pub low_more : (text : List ℕ) (i : ℕ) → i < length text → AllBelowBase 16 (map digit (take i text)) → digit (get_or text i 0) < 16 → AllBelowBase 16 (map digit (take (i + 1) text))
low_more text i within low small = rw (digits_more text i within) (low_push (map digit (take i text)) (digit (get_or text i 0)) low small)

pub number_more : (text : List ℕ) (i number : ℕ) → i < length text → number ≡ number_from_digits 16 (map digit (take i text)) → number * 16 + digit (get_or text i 0) ≡ number_from_digits 16 (map digit (take (i + 1) text))
number_more text i number within is =
    ap (λ n. n * 16 + digit (get_or text i 0)) is ∙ sym (ap (number_from_digits 16) (digits_more text i within) ∙ number_push 16 (map digit (take i text)) (digit (get_or text i 0)))

pub hex_more : (text : List ℕ) (i : ℕ) → i < length text → is_hex (get_or text i 0) ≡ true → list_all is_hex (drop i text) ≡ list_all is_hex (drop (i + 1) text)
hex_more text i within tested =
    let rest : drop i text ≡ get_or text i 0 ∷ drop (i + 1) text = rw (add-one, drop-cons text i 0 within) refl in
    ap (list_all is_hex) rest ∙ ap (λ (b : Bool). b && list_all is_hex (drop (i + 1) text)) tested
