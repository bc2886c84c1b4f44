-- The signs of comparisons, by their first byte.
use Rattle.std.proofs.Common.{◌≡◌, ◌≢◌, None, ℕ, ◌==◌, List, [], ◌∷◌, refl, ap, sym, subst, ◌∙◌}
use Rattle.std.proofs.lemmas.Bool.{eqb-true, ne_eqb}
use Rattle.wc_eval.specs.Signs.{equals_sign, bang_sign, order_sign, first_sign}
use Rattle.wc_eval.specs.Comparisons.{sign_at}
use Rattle.wc_eval.specs.declared.comparison.Comparison.TheVariants.{AtMost, Less, AtLeast, More}
use Rattle.wc_eval.proofs.RunLemmas.{by_bool}

equals_is : (text : List ℕ) → sign_at (61 ∷ text) ≡ equals_sign text
unfolding sign_at
equals_is [] = refl
equals_is (b ∷ []) = by_bool (b == 61) _
    (λ t. rw t refl)
    (λ f. by_bool (b == 126) _ (λ t. rw (f, t) refl)
    (λ g. by_bool (b == 42) _ (λ t. rw (f, g, t) refl) (λ h. rw (f, g, h) refl)))
equals_is (b ∷ c ∷ text) = by_bool (b == 61) _
    (λ t. by_bool (c == 42) _ (λ s. rw (t, s) refl) (λ s. rw (t, s) refl))
    (λ f. by_bool (b == 126) _ (λ t. rw (f, t) refl)
    (λ g. by_bool (b == 42) _ (λ t. rw (f, g, t) refl) (λ h. rw (f, g, h) refl)))

bang_is : (text : List ℕ) → sign_at (33 ∷ text) ≡ bang_sign text
unfolding sign_at
bang_is [] = refl
bang_is (b ∷ []) = by_bool (b == 33) _
    (λ t. subst (λ x. sign_at (33 ∷ x ∷ []) ≡ bang_sign (x ∷ [])) (sym (eqb-true b 33 t)) refl)
    (λ f. by_bool (b == 61) _ (λ t. rw (f, t) refl)
    (λ g. by_bool (b == 126) _ (λ t. rw (f, g, t) refl)
    (λ h. by_bool (b == 42) _ (λ t. rw (f, g, h, t) refl) (λ i. rw (f, g, h, i) refl))))
bang_is (b ∷ c ∷ text) = by_bool (b == 33) _
    (λ t. subst (λ x. sign_at (33 ∷ x ∷ c ∷ text) ≡ bang_sign (x ∷ c ∷ text)) (sym (eqb-true b 33 t))
    (by_bool (c == 42) _ (λ s. rw s refl) (λ s. rw s refl)))
    (λ f. by_bool (b == 61) _ (λ t. rw (f, t) refl)
    (λ g. by_bool (b == 126) _ (λ t. rw (f, g, t) refl)
    (λ h. by_bool (b == 42) _ (λ t. rw (f, g, h, t) refl) (λ i. rw (f, g, h, i) refl))))

less_is : (text : List ℕ) → sign_at (60 ∷ text) ≡ order_sign AtMost Less text
unfolding sign_at
less_is [] = refl
less_is (b ∷ text) = by_bool (b == 61) _ (λ t. rw t refl) (λ f. rw f refl)

more_is : (text : List ℕ) → sign_at (62 ∷ text) ≡ order_sign AtLeast More text
unfolding sign_at
more_is [] = refl
more_is (b ∷ text) = by_bool (b == 61) _ (λ t. rw t refl) (λ f. rw f refl)

pub sign_is : (text : List ℕ) → sign_at text ≡ first_sign text
unfolding sign_at
sign_is [] = refl
sign_is (b ∷ text) = by_bool (b == 61) _
    (λ t. subst (λ c. sign_at (c ∷ text) ≡ first_sign (c ∷ text)) (sym (eqb-true b 61 t)) (equals_is text))
    (λ f. by_bool (b == 33) _
    (λ t. subst (λ c. sign_at (c ∷ text) ≡ first_sign (c ∷ text)) (sym (eqb-true b 33 t)) (bang_is text))
    (λ g. by_bool (b == 60) _
    (λ t. subst (λ c. sign_at (c ∷ text) ≡ first_sign (c ∷ text)) (sym (eqb-true b 60 t)) (less_is text))
    (λ h. by_bool (b == 62) _
    (λ t. subst (λ c. sign_at (c ∷ text) ≡ first_sign (c ∷ text)) (sym (eqb-true b 62 t)) (more_is text))
    (λ i. rw (f, g, h, i) refl))))

pub no_sign : (text : List ℕ) (b : ℕ) (rest : List ℕ) → text ≡ b ∷ rest → b ≢ 61 → b ≢ 33 → b ≢ 60 →
    b ≢ 62 → None ≡ sign_at text
no_sign text b rest is f g h i = sym (ap sign_at is ∙ sign_is (b ∷ rest) ∙ none)
  where
    none : first_sign (b ∷ rest) ≡ None
    none = rw (ne_eqb b 61 f, ne_eqb b 33 g, ne_eqb b 60 h, ne_eqb b 62 i) refl
