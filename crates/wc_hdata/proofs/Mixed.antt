-- The mixed list of lines, as a stable sort gives it.
use Rattle.std.proofs.Common.{◌≡◌, ℕ, Bool, true, false, List, [], ◌∷◌, arith, refl, sym, ap, ◌∙◌}
use Rattle.std.specs.Prelude.{filter, nat_le, nat_lt, ◌==◌, ◌&&◌, not}
use Rattle.std.specs.Ordering.{nat_cmp, is_lt}
use Rattle.std.specs.List.Sorted.{IsNonDecreasingBy, IsStableByKey, ties}
use Rattle.std.proofs.lemmas.Bool.Decides.{nat_tests}
use Rattle.wc_hdata.specs.declared.place.HeldLine.{HeldLine as Lent}
use Rattle.wc_hdata.specs.Reached.{held_line, held_lines}
use Rattle.wc_hdata.specs.Lists.{put_line, by_handle}
use Rattle.wc_hdata.proofs.Sorts.{by_bool, is, put, sorted, sorted_is}

abbrev pub number : Lent → ℕ
number held = held.line.now.handle.0

put_lent : (x : Lent) (xs : List Lent) → held_lines (put number x xs) ≡ put_line (held_line x) (held_lines xs)
put_lent x [] = refl
put_lent x (y ∷ ys) = by_bool (nat_le (number x) (number y))
    (λ t. rw t refl)
    (λ t. rw t (ap (λ l. held_line y ∷ l) (put_lent x ys)))

sorted_lent : (xs : List Lent) → held_lines (sorted number xs) ≡ by_handle (held_lines xs)
sorted_lent [] = refl
sorted_lent (x ∷ xs) = put_lent x (sorted number xs) ∙ ap (put_line (held_line x)) (sorted_lent xs)

filter_by : {X : Type 0} (p q : X → Bool) → ((x : X) → p x ≡ q x) → (xs : List X) → filter p xs ≡ filter q xs
filter_by p q same xs = λ i. filter (λ x. same x i) xs

-- two numbers of which neither is less are the same
tie_of : (a b : ℕ) → (not (is_lt (nat_cmp a b)) && not (is_lt (nat_cmp b a))) ≡ (b == a)
tie_of a b = by_bool (nat_lt a b)
    (λ t. let u : (b == a) ≡ false = grind (arith, nat_tests) in rw t (rw u refl))
    (λ t. by_bool (nat_lt b a)
    (λ v. let u : (b == a) ≡ false = grind (arith, nat_tests) in let w : (a == b) ≡ false = grind (arith, nat_tests) in rw t (rw w (rw v (rw u refl))))
    (λ v. let u : (b == a) ≡ true = grind (arith, nat_tests) in let w : (a == b) ≡ true = grind (arith, nat_tests) in rw t (rw w (rw v (rw u refl)))))

pub mixed_is : (xs ys : List Lent) → IsNonDecreasingBy number ys → IsStableByKey number nat_cmp xs ys → held_lines ys ≡ by_handle (held_lines xs)
mixed_is xs ys up stable = ap held_lines (sorted_is number xs ys up at) ∙ sorted_lent xs where
  at : (z : Lent) → filter (is number (number z)) ys ≡ filter (is number (number z)) xs
  at z =
      let same : (y : Lent) → ties (λ a b. is_lt (nat_cmp (number a) (number b))) z y ≡ is number (number z) y = λ y. tie_of (number z) (number y) in
      sym (filter_by _ _ same ys) ∙ stable z ∙ filter_by _ _ same xs
