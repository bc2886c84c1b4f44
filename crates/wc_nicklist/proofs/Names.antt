-- Maps from names, by the bytes of the name.
use Rattle.std.proofs.Common.{◌≡◌, ℕ, Bool, true, false, cond, Option, None, List, [], ◌∷◌, ◌⊎◌, inl, inr, refl, sym, ◌∙◌, subst}
use Rattle.std.specs.Prelude.{bytes_eq}
use Rattle.std.specs.HashMap.{HashMap, UpdatesBy, get}
use Rattle.std.specs.Map.{lookup, IsKeyTest, AreApart, KeepsOthers}
use Rattle.std.specs.Cmp.Lexicographic.{bytes_decides, nat_list_eq_equiv}
use Rattle.std.specs.declared.alloc.Global.{Global}
use Rattle.std.specs.declared.vec.Vec.{Vec}
use Rattle.std.proofs.lemmas.Bool.{cond-true, cond-false}
use Rattle.wc_nicklist.specs.Index.{at_long}
use Rattle.wc_nicklist.proofs.OrderLaws.{by_bool}

apart : (bs cs ks : List ℕ) → bytes_eq bs cs ≡ false → bytes_eq bs ks ≡ true → bytes_eq cs ks ≡ false
apart bs cs ks n y = nat_list_eq_equiv.symm cs ks ∙ sym (nat_list_eq_equiv.congr bs ks cs y) ∙ n

others : {K X : Type 0} (eq : K → K → Bool) (test : K → Bool) (old new : List (K × X)) → KeepsOthers eq test old new → (other : K → Bool) → IsKeyTest eq other → AreApart test other → lookup other new ≡ lookup other old
unfolding KeepsOthers
others eq test old new h = h

-- what an update under a name leaves under any name
pub at_long-update : {X S : Type 0} (bs : List ℕ) (m n : HashMap (Vec ℕ Global) X S) (w : Option X) → UpdatesBy (λ x y. bytes_eq x.items y.items) (λ k. bytes_eq bs k.items) m n w → (q : List ℕ) → at_long n q ≡ cond (bytes_eq bs q) w (at_long m q)
at_long-update {X} {S} bs m n w h q = by_bool (bytes_eq bs q) _
    (λ y. subst (λ l. at_long n l ≡ w) ((bytes_decides bs q).0 y) h.1 ∙ sym (cond-true (bytes_eq bs q) w (at_long m q) y))
    (λ e. others (λ x y. bytes_eq x.items y.items) (λ k. bytes_eq bs k.items) m.entries n.entries h.3 (λ k. bytes_eq q k.items) (λ x y. nat_list_eq_equiv.congr q x.items y.items) (λ k. apart bs q k.items e) ∙ sym (cond-false (bytes_eq bs q) w (at_long m q) e))

-- no key has these bytes, or one does
some_key : {X : Type 0} (name : List ℕ) (es : List (Vec ℕ Global × X)) → (lookup (λ k. bytes_eq name k.items) es ≡ None) ⊎ ((k : Vec ℕ Global) × (name ≡ k.items))
some_key name [] = inl refl
some_key name (e ∷ es) = by_bool (bytes_eq name e.0.items) _
    (λ t. inr (e.0, (bytes_decides name e.0.items).0 t))
    (λ t. elim (some_key name es) [ inl n ↦ inl (rw t n) | inr k ↦ inr k ])

-- maps that have the same under each key have the same under each name
pub at_long-same : {X S : Type 0} (m n : HashMap (Vec ℕ Global) X S) → ((k : Vec ℕ Global) → get (λ x y. bytes_eq x.items y.items) n k ≡ get (λ x y. bytes_eq x.items y.items) m k) → (name : List ℕ) → at_long n name ≡ at_long m name
at_long-same {X} {S} m n h name = elim (some_key name m.entries) [
  | inr k ↦ at_key k
  | inl e ↦ elim (some_key name n.entries) [ inr k ↦ at_key k | inl d ↦ d ∙ sym e ]
]
  where
    at_key : (k : Vec ℕ Global) × (name ≡ k.items) → at_long n name ≡ at_long m name
    at_key k = subst (λ b. at_long n b ≡ at_long m b) (sym k.1) (h k.0)
