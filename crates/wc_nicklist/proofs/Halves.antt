-- The second half of a list moves after the first, one element at a time.
use Rattle.std.proofs.Common.{◌≡◌, ℕ, suc, ◌≤◌, ◌<◌, List, [], ◌∷◌, ◌++◌, length, take, drop, get_or, sym, ap, ◌∙◌, arith, drop-cons, append_assoc, append-nil, take-append-drop, length-take}
use Rattle.std.specs.Prelude.{remove}
use Rattle.std.proofs.lemmas.List.{take_at, drop_at, take_all, drop_all}

pub half_init : {A : Type 0} (xs up : List A) (n : ℕ) → up ≡ [] → xs ≡ take n xs ++ (up ++ drop n xs)
half_init xs up n e = sym (take-append-drop n xs) ∙ ap (λ z. take n xs ++ (z ++ drop n xs)) (sym e)

pub half_step : {A : Type 0} (all xs ys up more : List A) (x : A) (n : ℕ) → n < length xs → ys ≡ remove xs n → x ≡ get_or xs n x → more ≡ up ++ x ∷ [] → all ≡ take n xs ++ (up ++ drop n xs) → all ≡ take n ys ++ (more ++ drop n ys)
half_step all xs ys up more x n h ey ex em e =
    let len : length (take n xs) ≡ n = omega (arith, length-take n xs) in
    let first : take n ys ≡ take n xs = ap (take n) ey ∙ take_at (take n xs) (drop (suc n) xs) n len in
    let rest : drop n ys ≡ drop (suc n) xs = ap (drop n) ey ∙ drop_at (take n xs) (drop (suc n) xs) n len in
    let next : drop n xs ≡ x ∷ drop (suc n) xs = drop-cons xs n x h ∙ ap (λ z. z ∷ drop (suc n) xs) (sym ex) in
    e ∙ ap (λ z. take n xs ++ (up ++ z)) next
    ∙ ap (λ z. take n xs ++ z) (sym (append_assoc up (x ∷ []) (drop (suc n) xs)))
    ∙ (λ i. sym first i ++ (sym em i ++ sym rest i))

pub half_end : {A : Type 0} (all xs up : List A) (n : ℕ) → length xs ≤ n → all ≡ take n xs ++ (up ++ drop n xs) → all ≡ xs ++ up
half_end all xs up n h e = e ∙ (λ i. take_all n xs h i ++ (up ++ drop_all n xs h i)) ∙ ap (λ z. xs ++ z) (append-nil up)
