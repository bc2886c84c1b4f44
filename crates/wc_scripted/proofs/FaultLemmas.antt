-- Laws of counts.
use Rattle.std.proofs.Common.{◌≡◌, ℕ, Bool, false, true, ◌⊎◌, IsTrue, inl, inr, refl, subst, sym}
use Rattle.std.proofs.lemmas.Bool.{false≢true}
use Rattle.wc_outside.specs.Faults.{Rose}
use Rattle.wc_scripted.specs.Rises.{RoseOnce, TellsOn}

-- a count that rose once at most, where it stayed if it had risen before
pub once_then : (a b d : ℕ) (t : Bool) → RoseOnce a b → (b ≡ a) ⊎ (t ≡ false) → (t ≡ false → d ≡ b) → RoseOnce b d → RoseOnce a d
once_then a b d t p (inl e) f q = subst (λ n. RoseOnce n d) e q
once_then a b d t p (inr e) f q = subst (λ n. RoseOnce a n) (sym (f e)) p

-- what told goes on telling over two steps, where the second counts nothing once it is silent
pub tells_then : (s t u : Bool) (a b d : ℕ) → TellsOn s t a b → (b ≡ a) ⊎ (t ≡ false) → (t ≡ false → d ≡ b) → TellsOn t u b d → TellsOn s u a d
tells_then s true u a b d first (inl e) silent next = λ told. subst (λ n. IsTrue u ⊎ Rose n d) e (next refl)
tells_then s true u a b d first (inr e) silent next = absurd (false≢true (sym e))
tells_then s false u a b d first stops silent next = λ told. elim (first told) [
  | inl p ↦ absurd (false≢true p)
  | inr r ↦ inr (subst (λ n. Rose a n) (sym (silent refl)) r)
]
