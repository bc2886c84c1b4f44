-- The bits in which two texts differ.
use Rattle.std.proofs.Common.{◌≡◌, ℕ, ◌≤◌, List, [], ◌∷◌, length, refl, ap, sym, ◌∙◌, arith, ◌⊎◌, ⊎_elim, nat_eq, true, eq-eqb}
use Rattle.std.proofs.lemmas.Bool.Decides.{Decides-eqb}
use Rattle.std.specs.Int.Bits.{bit_or, bit_xor, xor_self, xor_assoc, xor_zero_l, xor_zero_r, or_self}
use Rattle.std.proofs.lemmas.Nat.{le_or_l, le_or_r}

-- a number, with each bit set in which two bytes at one place differ
abbrev pub difference : ℕ → List ℕ → List ℕ → ℕ
difference d [] ys = d
difference d (x ∷ xs) [] = d
difference d (x ∷ xs) (y ∷ ys) = difference (bit_or d (bit_xor x y)) xs ys

pub difference_le : (d : ℕ) (xs ys : List ℕ) → d ≤ difference d xs ys
difference_le d [] ys = omega arith
difference_le d (x ∷ xs) [] = omega arith
difference_le d (x ∷ xs) (y ∷ ys) = omega (arith, difference_le (bit_or d (bit_xor x y)) xs ys, le_or_l d (bit_xor x y))

pub xor_none : (x y : ℕ) → bit_xor x y ≡ 0 → x ≡ y
xor_none x y e =
    sym (xor_zero_r x) ∙ ap (bit_xor x) (sym (xor_self y)) ∙ sym (xor_assoc x y y) ∙ ap (λ z. bit_xor z y) e ∙ xor_zero_l y

-- where nothing differs the texts are the same
pub same_from_difference : (d : ℕ) (xs ys : List ℕ) → length xs ≡ length ys → difference d xs ys ≡ 0 → xs ≡ ys
same_from_difference d [] [] l e = refl
same_from_difference d [] (y ∷ ys) l e = absurd (omega arith)
same_from_difference d (x ∷ xs) [] l e = absurd (omega arith)
same_from_difference d (x ∷ xs) (y ∷ ys) l e =
    let none : bit_xor x y ≡ 0 = omega (arith, difference_le (bit_or d (bit_xor x y)) xs ys, le_or_r d (bit_xor x y)) in
    let rest : length xs ≡ length ys = omega arith in
    let heads = xor_none x y none in
    let tails = same_from_difference (bit_or d (bit_xor x y)) xs ys rest e in
    cc

pub difference_same : (xs : List ℕ) → difference 0 xs xs ≡ 0
difference_same [] = refl
difference_same (x ∷ xs) = ap (λ d. difference (bit_or 0 d) xs xs) (xor_self x) ∙ ap (λ d. difference d xs xs) (or_self 0) ∙ difference_same xs

-- where one of the texts ends nothing more is looked at
pub difference_end : (d : ℕ) (xs ys : List ℕ) → (xs ≡ []) ⊎ (ys ≡ []) → difference d xs ys ≡ d
difference_end d [] ys over = refl
difference_end d (x ∷ xs) [] over = refl
difference_end d (x ∷ xs) (y ∷ ys) over = ⊎_elim (λ e. absurd (cc)) (λ e. absurd (cc)) over

-- the test that the comparison ends with
pub same_by_difference : (d : ℕ) (xs ys : List ℕ) → length xs ≡ length ys → d ≡ difference 0 xs ys → (nat_eq d 0 ≡ true → xs ≡ ys) × (xs ≡ ys → nat_eq d 0 ≡ true)
same_by_difference d xs ys l is = (
  λ test. same_from_difference 0 xs ys l (sym is ∙ (Decides-eqb d 0).0 test),
  λ same. eq-eqb d 0 (is ∙ ap (difference 0 xs) (sym same) ∙ difference_same xs),
)
