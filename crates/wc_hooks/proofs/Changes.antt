-- Lists that are changed one place after another.
use Rattle.std.proofs.Common.{◌≡◌, ℕ, zero, suc, ◌+◌, ◌<◌, List, [], ◌∷◌, ◌++◌, length, map, take, drop, get_or, set, arith, ap, ◌∙◌}

module _ {A : Type 0} (f : A → A) where
  abbrev pub so_far : ℕ → List A → List A
  so_far n xs = map f (take n xs) ++ drop n xs

  next_by : (n : ℕ) (xs : List A) (x : A) → n < length xs → x ≡ get_or (so_far n xs) n x → set (so_far n xs) n (f x) ≡ so_far (suc n) xs
  next_by n [] x inside is = absurd (omega arith)
  next_by zero (y ∷ ys) x inside is = ap (λ z. f z ∷ ys) is
  next_by (suc n) (y ∷ ys) x inside is = ap (λ zs. f y ∷ zs) (next_by n ys x (omega arith) is)

  pub changes_next : (n : ℕ) (xs : List A) (x : A) → n < length xs → x ≡ get_or (so_far n xs) n x → set (so_far n xs) n (f x) ≡ so_far (n + 1) xs
  changes_next n xs x inside is = let one : suc n ≡ n + 1 = omega arith in next_by n xs x inside is ∙ ap (λ m. so_far m xs) one

  -- the same, where the element is read by its place
  set_by : (n : ℕ) (xs : List A) (d z : A) → n < length xs → z ≡ f (get_or (so_far n xs) n d) → set (so_far n xs) n z ≡ so_far (suc n) xs
  set_by n [] d z inside is = absurd (omega arith)
  set_by zero (y ∷ ys) d z inside is = ap (λ x. x ∷ ys) is
  set_by (suc n) (y ∷ ys) d z inside is = ap (λ zs. f y ∷ zs) (set_by n ys d z (omega arith) is)

  pub changes_at : (n : ℕ) (xs ys : List A) (d z : A) → n < length xs → ys ≡ so_far n xs → z ≡ f (get_or ys n d) → set ys n z ≡ so_far (n + 1) xs
  changes_at n xs ys d z inside e is =
      let one : suc n ≡ n + 1 = omega arith in
      ap (λ l. set l n z) e ∙ set_by n xs d z inside (is ∙ ap (λ l. f (get_or l n d)) e) ∙ ap (λ m. so_far m xs) one
