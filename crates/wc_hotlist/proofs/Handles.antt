-- Lists of handles, each once, and lists without one of them.
use Rattle.std.proofs.Common.{◌≡◌, ℕ, Bool, true, false, cond, not, ◌&&◌, ◌||◌, ◌==◌, List, [], ◌∷◌, ◌++◌, filter, map, refl, sym, ap, ◌∙◌, append-nil, arith}
use Rattle.std.specs.List.{list_any}
use Rattle.std.proofs.lemmas.Bool.Decides.{nat_tests}
use Rattle.std.proofs.lemmas.Bool.{eqb-true, false≢true}
use Rattle.std.proofs.lemmas.List.Elements.{filter-append, filter_agree}
use Rattle.wc_text.specs.declared.names.Handle.{Handle}
use Rattle.wc_hotlist.specs.Rows.{each_once}

abbrev pub has : Handle → List Handle → Bool
has h hs = list_any (λ (g : Handle). g.0 == h.0) hs

abbrev pub without : Handle → List Handle → List Handle
without h hs = filter (λ (g : Handle). not (g.0 == h.0)) hs

-- ---- filters
pub filter_filter : {X : Type 0} (p q : X → Bool) (xs : List X) → filter p (filter q xs) ≡ filter (λ x. q x && p x) xs
filter_filter p q [] = refl
filter_filter p q (x ∷ xs) = grind (arith, filter_filter p q xs)

pub filter_of_map : {X Y : Type 0} (f : X → Y) (p : Y → Bool) (xs : List X) → filter p (map f xs) ≡ map f (filter (λ x. p (f x)) xs)
filter_of_map f p [] = refl
filter_of_map f p (x ∷ xs) = grind (arith, filter_of_map f p xs)

pub any_filter : {X : Type 0} (p q : X → Bool) (xs : List X) → list_any p (filter q xs) ≡ list_any (λ x. q x && p x) xs
any_filter p q [] = refl
any_filter p q (x ∷ xs) = grind (arith, any_filter p q xs)

pub any_agree : {X : Type 0} (p q : X → Bool) → ((x : X) → p x ≡ q x) → (xs : List X) → list_any p xs ≡ list_any q xs
any_agree p q same [] = refl
any_agree p q same (x ∷ xs) = ap (λ b. b || list_any p xs) (same x) ∙ ap (λ b. q x || b) (any_agree p q same xs)

-- a test that a filter does not touch
pub any_kept : {X : Type 0} (p q : X → Bool) → ((x : X) → p x ≡ true → q x ≡ true) → (xs : List X) → list_any p (filter q xs) ≡ list_any p xs
any_kept p q keeps [] = refl
any_kept p q keeps (x ∷ xs) = by (any_kept p q keeps xs) (p x) (q x) refl refl where
  by : list_any p (filter q xs) ≡ list_any p xs → (b d : Bool) → p x ≡ b → q x ≡ d → list_any p (filter q (x ∷ xs)) ≡ list_any p (x ∷ xs)
  by ih true true e f = rw (f, e) refl
  by ih true false e f = absurd (false≢true (sym f ∙ keeps x e))
  by ih false true e f = rw f (rw e ih)
  by ih false false e f = rw f (rw e ih)

-- ---- equal numbers
pub same_number : (a b : ℕ) → (a == b) ≡ (b == a)
same_number a b = grind (arith, nat_tests)

pub same_handle : (h b : Handle) → (h.0 == b.0) ≡ true → h ≡ b
same_handle h b t = λ i. record { 0 = eqb-true h.0 b.0 t i }

-- ---- without a handle
pub without_other : (h g : Handle) (hs : List Handle) → (g.0 == h.0) ≡ false → has h (without g hs) ≡ has h hs
without_other h g hs e = any_kept (λ (f : Handle). f.0 == h.0) (λ (f : Handle). not (f.0 == g.0)) (λ f t. grind (arith, nat_tests)) hs

without_swap : (h g : Handle) (hs : List Handle) → without g (without h hs) ≡ without h (without g hs)
without_swap h g hs =
    filter_filter (λ (f : Handle). not (f.0 == g.0)) (λ (f : Handle). not (f.0 == h.0)) hs
    ∙ filter_agree _ _ (λ f. grind arith) hs
    ∙ sym (filter_filter (λ (f : Handle). not (f.0 == h.0)) (λ (f : Handle). not (f.0 == g.0)) hs)

without_twice : (h g : Handle) (hs : List Handle) → (g.0 == h.0) ≡ true → without h (without g hs) ≡ without h hs
without_twice h g hs e =
    filter_filter (λ (f : Handle). not (f.0 == h.0)) (λ (f : Handle). not (f.0 == g.0)) hs
    ∙ filter_agree _ _ (λ f. grind (arith, nat_tests)) hs

-- ---- each once
pub has_each : (h : Handle) (hs : List Handle) → has h (each_once hs) ≡ has h hs
has_each h [] = refl
has_each h (g ∷ hs) = by (has_each h hs) (g.0 == h.0) refl where
  by : has h (each_once hs) ≡ has h hs → (b : Bool) → (g.0 == h.0) ≡ b → has h (each_once (g ∷ hs)) ≡ has h (g ∷ hs)
  by ih true e = rw e refl
  by ih false e = rw e (without_other h g (each_once hs) e ∙ ih)

pub each_push : (hs : List Handle) (h : Handle) → each_once (hs ++ h ∷ []) ≡ cond (has h hs) (each_once hs) (each_once hs ++ h ∷ [])
each_push [] h = refl
each_push (g ∷ hs) h = by (each_push hs h) (has h hs) (g.0 == h.0) refl refl where
  by : each_once (hs ++ h ∷ []) ≡ cond (has h hs) (each_once hs) (each_once hs ++ h ∷ []) → (b d : Bool) → has h hs ≡ b → (g.0 == h.0) ≡ d → each_once (g ∷ hs ++ h ∷ []) ≡ cond (has h (g ∷ hs)) (each_once (g ∷ hs)) (each_once (g ∷ hs) ++ h ∷ [])
  by ih true true e f = rw f (ap (λ fs. g ∷ without g fs) (ih ∙ rw e refl))
  by ih true false e f = rw f (rw e (ap (λ fs. g ∷ without g fs) (ih ∙ rw e refl)))
  by ih false true e f =
      let t : (h.0 == g.0) ≡ true = same_number h.0 g.0 ∙ f in
      rw f (ap (λ fs. g ∷ without g fs) (ih ∙ rw e refl) ∙ ap (λ fs. g ∷ fs) (filter-append _ (each_once hs) (h ∷ []) ∙ rw t (append-nil _)))
  by ih false false e f =
      let t : (h.0 == g.0) ≡ false = same_number h.0 g.0 ∙ f in
      rw f (rw e (ap (λ fs. g ∷ without g fs) (ih ∙ rw e refl) ∙ ap (λ fs. g ∷ fs) (filter-append _ (each_once hs) (h ∷ []) ∙ rw t refl)))

pub each_without : (h : Handle) (hs : List Handle) → each_once (without h hs) ≡ without h (each_once hs)
each_without h [] = refl
each_without h (g ∷ hs) = by (each_without h hs) (g.0 == h.0) refl where
  by : each_once (without h hs) ≡ without h (each_once hs) → (b : Bool) → (g.0 == h.0) ≡ b → each_once (without h (g ∷ hs)) ≡ without h (each_once (g ∷ hs))
  by ih true e = rw e (ih ∙ sym (without_twice h g (each_once hs) e))
  by ih false e = rw e (ap (λ fs. g ∷ without g fs) ih ∙ ap (λ fs. g ∷ fs) (without_swap h g (each_once hs)))
