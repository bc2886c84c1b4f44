-- Ids of one letter each.
use Rattle.std.proofs.Common.{◌≡◌, ℕ, List, [], ◌∷◌, codes, refl, sym, subst}
use Rattle.wc_view.specs.Ids.{AreIds}

pub letter_ids : (a b c : List ℕ) → a ≡ codes "b" → b ≡ codes "l" → c ≡ codes "n" → AreIds (a ∷ b ∷ c ∷ [])
letter_ids a b c p q r =
    let is : a ∷ b ∷ c ∷ [] ≡ codes "b" ∷ codes "l" ∷ codes "n" ∷ [] = λ j. p j ∷ q j ∷ r j ∷ [] in
    subst AreIds (sym is) (record { apart = ((refl, (refl, tt)), ((refl, tt), (tt, tt))); free = (refl, (refl, (refl, tt))) })
