-- What cutting a text at a byte gives.
use Rattle.std.proofs.Common.{◌≡◌, ℕ, ◌+◌, ◌-◌, ◌≤◌, ◌<◌, List, [], ◌∷◌, ◌++◌, length, take, refl, ap, sym, ◌∙◌, arith, length-append, subst, Some}
use Rattle.std.proofs.lemmas.Bool.Decides.{nat_tests}
use Rattle.std.proofs.lemmas.List.{take_at}
use Rattle.wc_text.specs.Splits.{before, onward, text_after}

-- the two parts are the text
pub before-onward : (c : ℕ) (text : List ℕ) → before c text ++ onward c text ≡ text
before-onward c [] = refl
before-onward c (b ∷ text) = grind (arith, nat_tests, before-onward c text)

pub length-before-onward : (c : ℕ) (text : List ℕ) → length (before c text) + length (onward c text) ≡ length text
length-before-onward c text = sym (length-append (before c text) (onward c text)) ∙ ap length (before-onward c text)

pub length-onward : (c : ℕ) (text : List ℕ) → length (onward c text) ≤ length text
length-onward c text = omega (arith, length-before-onward c text)

-- the first part, by lengths
pub before_by_length : (c : ℕ) (text : List ℕ) → take (length text - length (onward c text)) text ≡ before c text
before_by_length c text =
    let n : length (before c text) ≡ length text - length (onward c text) = omega (arith, length-before-onward c text) in
    let P : List ℕ → Type 0 = λ t. take (length text - length (onward c text)) t ≡ before c text in
    subst P (before-onward c text) (take_at (before c text) (onward c text) _ n)

-- what comes after the first c is shorter than the text
pub length-text_after : (c : ℕ) (text rest : List ℕ) → text_after c text ≡ Some rest → length rest < length text
length-text_after c [] rest some = absurd (cc)
length-text_after c (b ∷ text) rest some = grind (arith, nat_tests, length-text_after c text rest)

pub ruleset cuts = (length-onward, before_by_length, length-before-onward, length-text_after)
