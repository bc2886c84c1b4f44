-- Names that are the same.
use Rattle.std.proofs.Common.{◌≡◌, ℕ, List, [], ◌∷◌, length, map, refl, sym, ◌∙◌, arith, eqb, Bool, true}
use Rattle.std.proofs.lemmas.Bool.{and_parts, and_from}
use Rattle.std.proofs.lemmas.Bool.Decides.{Decides-eqb}
use Rattle.std.specs.List.{list_all, zip}

-- lists as long as one another whose elements count as the same, pair by pair
abbrev alike : (ℕ → ℕ) → List ℕ → List ℕ → Bool
alike fold a b = list_all (λ p. eqb (fold p.0) (fold p.1)) (zip a b)

alike_folded : (fold : ℕ → ℕ) (a b : List ℕ) → length a ≡ length b → alike fold a b ≡ true → map fold a ≡ map fold b
alike_folded fold [] [] same is = refl
alike_folded fold [] (y ∷ b) same is = absurd (omega arith)
alike_folded fold (x ∷ a) [] same is = absurd (omega arith)
alike_folded fold (x ∷ a) (y ∷ b) same is =
    let both = and_parts (eqb (fold x) (fold y)) (alike fold a b) is in
    let head = (Decides-eqb (fold x) (fold y)).0 both.0 in
    let tail = alike_folded fold a b (omega arith) both.1 in
    λ i. head i ∷ tail i

folded_alike : (fold : ℕ → ℕ) (a b : List ℕ) → map fold a ≡ map fold b → alike fold a b ≡ true
folded_alike fold [] b same = refl
folded_alike fold (x ∷ a) [] same = refl
folded_alike fold (x ∷ a) (y ∷ b) same =
    let head : fold x ≡ fold y = cc in
    let tail : map fold a ≡ map fold b = cc in
    and_from (eqb (fold x) (fold y)) (alike fold a b) ((Decides-eqb (fold x) (fold y)).1 head) (folded_alike fold a b tail)

pub same_long : (fold : ℕ → ℕ) (a b : List ℕ) (result : Bool) → length a ≡ length b → result ≡ alike fold a b → (result ≡ true → map fold a ≡ map fold b) × (map fold a ≡ map fold b → result ≡ true)
same_long fold a b result same is = (λ yes. alike_folded fold a b same (sym is ∙ yes), λ folded. is ∙ folded_alike fold a b folded)
