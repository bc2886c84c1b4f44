-- Paths, name by name.
use Rattle.std.proofs.Common.{◌≡◌, ℕ, suc, ◌+◌, ◌-◌, ◌≤◌, ◌<◌, Bool, true, false, not, ◌&&◌, Some, List, [], ◌∷◌, ◌++◌, length, drop, get_or, refl, sym, ap, ◌∙◌, arith, add-one, drop-cons}
use Rattle.std.specs.List.{slice_get}
use Rattle.std.specs.Prelude.{bytes_eq}
use Rattle.std.specs.Cmp.Lexicographic.{pointwise}
use Rattle.std.proofs.lemmas.Bool.{true≢false, false_from_ne_true}
use Rattle.std.proofs.lemmas.List.{drop_all}
use Rattle.wc_nicklist.specs.Rows.{last_or, path_eq}
use Rattle.wc_nicklist.proofs.OrderLaws.{path_eq-true}

pub last_or-last : (d : List ℕ) (xs : List (List ℕ)) (x : List ℕ) → slice_get xs (length xs - 1) ≡ Some x → last_or d xs ≡ x
last_or-last d [] x e = absurd cc
last_or-last d (y ∷ []) x e = cc
last_or-last d (y ∷ z ∷ zs) x e = last_or-last y (z ∷ zs) x (ap (λ k. slice_get (y ∷ z ∷ zs) k) at ∙ e)
  where
    at : suc (length (z ∷ zs) - 1) ≡ length (y ∷ z ∷ zs) - 1
    at = omega arith

pub other_lengths : (a b : List (List ℕ)) → (length a ≡ length b → ⊥) → path_eq a b ≡ false
other_lengths a b n = false_from_ne_true _ (λ e. n (ap length (path_eq-true a b e)))

at_place : (xs : List (List ℕ)) (n : ℕ) (x : List ℕ) → n < length xs → x ≡ get_or xs n x → drop n xs ≡ x ∷ drop (n + 1) xs
at_place xs n x h e = drop-cons xs n x h ∙ rw (sym e, add-one) refl

-- a comparison at one place
one_step : (a b : List (List ℕ)) (n : ℕ) (x y : List ℕ) → n < length a → n < length b → x ≡ get_or a n x → y ≡ get_or b n y → path_eq (drop n a) (drop n b) ≡ bytes_eq x y && path_eq (drop (n + 1) a) (drop (n + 1) b)
unfolding path_eq
one_step a b n x y h l e f =
    ap (λ xs. pointwise bytes_eq xs (drop n b)) (at_place a n x h e)
    ∙ ap (pointwise bytes_eq (x ∷ drop (n + 1) a)) (at_place b n y l f)

by_differ : (t p : Bool) → true ≡ not t → t && p ≡ false
by_differ true p e = absurd (true≢false e)
by_differ false p e = refl

by_alike : (t p : Bool) → false ≡ not t → t && p ≡ p
by_alike true p e = refl
by_alike false p e = absurd (true≢false (sym e))

pub one_differs : (a b : List (List ℕ)) (n : ℕ) (x y : List ℕ) → n < length a → n < length b → x ≡ get_or a n x → y ≡ get_or b n y → (p q : List ℕ) → p ≡ x → q ≡ y → true ≡ not (bytes_eq p q) → path_eq (drop n a) (drop n b) ≡ false
one_differs a b n x y h l e f p q i j t = one_step a b n x y h l e f ∙ by_differ (bytes_eq x y) _ (t ∙ (λ z. not (bytes_eq (i z) (j z))))

pub one_alike : (a b : List (List ℕ)) (n : ℕ) (x y : List ℕ) → n < length a → n < length b → x ≡ get_or a n x → y ≡ get_or b n y → (p q : List ℕ) → p ≡ x → q ≡ y → false ≡ not (bytes_eq p q) → path_eq (drop n a) (drop n b) ≡ path_eq (drop (n + 1) a) (drop (n + 1) b)
one_alike a b n x y h l e f p q i j t = one_step a b n x y h l e f ∙ by_alike (bytes_eq x y) _ (t ∙ (λ z. not (bytes_eq (i z) (j z))))

pub all_alike : (a b : List (List ℕ)) (n : ℕ) → length a ≤ n → length b ≤ n → path_eq (drop n a) (drop n b) ≡ true
unfolding path_eq
all_alike a b n h l = (λ i. pointwise bytes_eq (drop_all n a h i) (drop_all n b l i))

no_end : (ys : List (List ℕ)) (y : List ℕ) → pointwise bytes_eq [] (ys ++ y ∷ []) ≡ false
no_end [] y = refl
no_end (z ∷ zs) y = refl

no_start : (xs : List (List ℕ)) (x : List ℕ) → pointwise bytes_eq (xs ++ x ∷ []) [] ≡ false
no_start [] x = refl
no_start (z ∷ zs) x = refl

and_false : (a b : Bool) → b ≡ false → a && b ≡ false
and_false true b e = e
and_false false b e = refl

-- paths with a last name each
pushed : (xs ys : List (List ℕ)) (x y : List ℕ) → pointwise bytes_eq (xs ++ x ∷ []) (ys ++ y ∷ []) ≡ bytes_eq x y && pointwise bytes_eq xs ys
pushed [] [] x y = refl
pushed [] (z ∷ zs) x y = and_false (bytes_eq x z) _ (no_end zs y) ∙ sym (and_false (bytes_eq x y) false refl)
pushed (z ∷ zs) [] x y = and_false (bytes_eq z y) _ (no_start zs x) ∙ sym (and_false (bytes_eq x y) false refl)
pushed (w ∷ ws) (z ∷ zs) x y = ap (λ b. bytes_eq w z && b) (pushed ws zs x y) ∙ swap (bytes_eq w z) (bytes_eq x y) (pointwise bytes_eq ws zs)
  where
    swap : (a b c : Bool) → a && (b && c) ≡ b && (a && c)
    swap true true c = refl
    swap true false c = refl
    swap false true c = refl
    swap false false c = refl

pub below_alike : (path front above : List (List ℕ)) (last name : List ℕ) → path ≡ front ++ last ∷ [] → bytes_eq last name ≡ true → path_eq path (above ++ name ∷ []) ≡ path_eq front above
unfolding path_eq
below_alike path front above last name e t = ap (λ p. pointwise bytes_eq p (above ++ name ∷ [])) e ∙ pushed front above last name ∙ ap (λ b. b && pointwise bytes_eq front above) t

pub below_differs : (path front above : List (List ℕ)) (last name : List ℕ) → path ≡ front ++ last ∷ [] → bytes_eq last name ≡ false → path_eq path (above ++ name ∷ []) ≡ false
unfolding path_eq
below_differs path front above last name e t = ap (λ p. pointwise bytes_eq p (above ++ name ∷ [])) e ∙ pushed front above last name ∙ ap (λ b. b && pointwise bytes_eq front above) t

pub below_empty : (path above : List (List ℕ)) (name : List ℕ) → length path ≡ 0 → path_eq path (above ++ name ∷ []) ≡ false
unfolding path_eq
below_empty [] above name e = no_end above name
below_empty (x ∷ xs) above name e = absurd (omega arith)
