-- Lists of what may be missing, from the front.
use Rattle.std.proofs.Common.{◌≡◌, ℕ, zero, suc, ◌+◌, ◌<◌, List, [], ◌∷◌, ◌++◌, length, drop, get_or, Option, Some, None, refl, sym, ap, ◌∙◌, arith}
use Rattle.std.proofs.lemmas.List.{append_assoc, append-nil}
use Rattle.wc_view.specs.Each.{onto, each, following}

pub after_onto : {A : Type 0} (front : List A) (y : A) (rest : Option (List A)) → following (front ++ y ∷ []) rest ≡ following front (onto (Some y) rest)
after_onto front y None = refl
after_onto front y (Some ys) = ap Some (append_assoc front (y ∷ []) ys)

at_place : {A B : Type 0} (f : A → Option B) (xs : List A) (i : ℕ) (x : A) → i < length xs → x ≡ get_or xs i x → each f (drop i xs) ≡ onto (f x) (each f (drop (suc i) xs))
at_place f [] i x l is = absurd (omega arith)
at_place f (y ∷ xs) zero x l is = ap (λ z. onto (f z) (each f xs)) (sym is)
at_place f (y ∷ xs) (suc i) x l is = at_place f xs i x (omega arith) is

at_next : {A B : Type 0} (f : A → Option B) (xs : List A) (i : ℕ) (x : A) → i < length xs → x ≡ get_or xs i x → each f (drop i xs) ≡ onto (f x) (each f (drop (i + 1) xs))
at_next f xs i x l is = let e : suc i ≡ i + 1 = omega arith in at_place f xs i x l is ∙ ap (λ k. onto (f x) (each f (drop k xs))) e

-- one more that is there
pub one_more : {A B : Type 0} (f : A → Option B) (xs : List A) (i : ℕ) (x : A) (y : B) (front : List B) (all : Option (List B))
    → i < length xs → x ≡ get_or xs i x → f x ≡ Some y → following front (each f (drop i xs)) ≡ all → following (front ++ y ∷ []) (each f (drop (i + 1) xs)) ≡ all
one_more f xs i x y front all l is there e =
    after_onto front y (each f (drop (i + 1) xs)) ∙ ap (λ o. following front (onto o (each f (drop (i + 1) xs)))) (sym there)
    ∙ ap (following front) (sym (at_next f xs i x l is)) ∙ e

-- one that is not
pub none_there : {A B : Type 0} (f : A → Option B) (xs : List A) (i : ℕ) (x : A) (front : List B) (all : Option (List B))
    → i < length xs → x ≡ get_or xs i x → f x ≡ None → following front (each f (drop i xs)) ≡ all → None ≡ all
none_there f xs i x front all l is there e =
    sym (ap (following front) (at_next f xs i x l is ∙ ap (λ o. onto o (each f (drop (i + 1) xs))) there)) ∙ e

nothing_left : {A : Type 0} (xs : List A) → drop (length xs) xs ≡ []
nothing_left [] = refl
nothing_left (x ∷ xs) = nothing_left xs

-- all are there
pub all_there : {A B : Type 0} (f : A → Option B) (xs : List A) (front : List B) (all : Option (List B)) → following front (each f (drop (length xs) xs)) ≡ all → Some front ≡ all
all_there f xs front all e = ap Some (sym (append-nil front)) ∙ sym (ap (λ ys. following front (each f ys)) (nothing_left xs)) ∙ e

-- what `each_flag` needs
pub ruleset each_flag_facts = (one_more, none_there, all_there)
