-- What the first LF of a text parts.
use Rattle.std.proofs.Common.{◌≡◌, ◌≢◌, ℕ, zero, suc, ◌<◌, eqb, true, false, List, [], ◌∷◌, length, take, drop, slice_index, Option, Some, None, refl, ap, subst, arith}
use Rattle.std.proofs.lemmas.Bool.Decides.{nat_tests}
use Rattle.memchr.specs.Find.{IsFirstByte, is_byte}
use Rattle.wc_text.specs.Splits.{before, text_after}

-- where there is none, the text is one line
no-lf : (text : List ℕ) → ((k : ℕ) → k < length text → slice_index text k ≢ 10) → (before 10 text ≡ text) × (text_after 10 text ≡ None)
no-lf [] h = (refl, refl)
no-lf (b ∷ text) h =
    let first : eqb b 10 ≡ false = (let n : b ≢ 10 = h zero (omega arith) in grind (arith, nat_tests)) in
    let later = no-lf text (λ k l. h (suc k) (omega arith)) in
    rw first (ap (λ t. b ∷ t) later.0, later.1)

lf-at : (text : List ℕ) (n : ℕ) → n < length text → slice_index text n ≡ 10 → ((k : ℕ) → k < n → slice_index text k ≢ 10) → (take n text ≡ before 10 text) × (Some (drop 1 (drop n text)) ≡ text_after 10 text)
lf-at [] n l is none = absurd (omega arith)
lf-at (b ∷ text) zero l is none =
    let first : eqb b 10 ≡ true = (let n : b ≡ 10 = is in grind (arith, nat_tests)) in
    rw first (refl, refl)
lf-at (b ∷ text) (suc n) l is none =
    let first : eqb b 10 ≡ false = (let m : b ≢ 10 = none zero (omega arith) in grind (arith, nat_tests)) in
    let later = lf-at text n (omega arith) is (λ k m. none (suc k) (omega arith)) in
    rw first (ap (λ t. b ∷ t) later.0, later.1)

-- no byte was found
pub cut-none : (text : List ℕ) (found : Option ℕ) → IsFirstByte (is_byte 10) text found → found ≡ None → (before 10 text ≡ text) × (text_after 10 text ≡ None)
cut-none text found h none =
    let nowhere = subst (IsFirstByte (is_byte 10) text) none h in
    no-lf text (λ k l q. nowhere k (omega arith) l (grind (arith, nat_tests)))

-- the first one was found
pub cut-some : (text : List ℕ) (found : Option ℕ) (n : ℕ) → IsFirstByte (is_byte 10) text found → found ≡ Some n → (take n text ≡ before 10 text) × (Some (drop 1 (drop n text)) ≡ text_after 10 text)
cut-some text found n h some =
    let first = subst (IsFirstByte (is_byte 10) text) some h in
    lf-at text n first.0.high (let e = first.1 in grind (arith, nat_tests)) (λ k l q. first.0.before k (omega arith) l (grind (arith, nat_tests)))
