-- A stable sort by a number is told apart by the elements that share each number.
use Rattle.std.proofs.Common.{◌≡◌, ℕ, zero, suc, ◌<◌, ◌≤◌, Bool, true, false, List, [], ◌∷◌, length, get_or, arith, refl, sym, ap, ◌∙◌}
use Rattle.std.specs.Prelude.{filter, ◌&&◌, ◌==◌, nat_lt, nat_le, if◌then◌else◌}
use Rattle.std.specs.List.{list_all}
use Rattle.std.specs.List.Sorted.{IsNonDecreasingBy}
use Rattle.std.proofs.lemmas.Bool.{and_parts, and_from}
use Rattle.std.proofs.lemmas.Bool.Decides.{nat_tests}

pub by_bool : {P : Type 0} (b : Bool) → (b ≡ true → P) → (b ≡ false → P) → P
by_bool true t f = t refl
by_bool false t f = f refl

abbrev pub is : {X : Type 0} → (X → ℕ) → ℕ → X → Bool
is n k x = n x == k

keeps : {X : Type 0} (p : X → Bool) (x : X) (xs : List X) → p x ≡ true → filter p (x ∷ xs) ≡ x ∷ filter p xs
keeps p x xs t = rw t refl

drops : {X : Type 0} (p : X → Bool) (x : X) (xs : List X) → p x ≡ false → filter p (x ∷ xs) ≡ filter p xs
drops p x xs t = rw t refl

-- ---- lists that rise

abbrev pub rises : {X : Type 0} → (X → ℕ) → List X → Bool
rises n [] = true
rises n (x ∷ xs) = list_all (λ y. nat_le (n x) (n y)) xs && rises n xs

all_above : {X : Type 0} (n : X → ℕ) (k : ℕ) (xs : List X) → ((j : ℕ) (d : X) → j < length xs → k ≤ n (get_or xs j d)) → list_all (λ y. nat_le k (n y)) xs ≡ true
all_above n k [] h = refl
all_above n k (x ∷ xs) h =
    let le : k ≤ n x = h 0 x (omega arith) in
    and_from _ _ (grind (arith, nat_tests)) (all_above n k xs (λ j d lt. h (suc j) d (omega (arith, lt))))

pub rises_from : {X : Type 0} (n : X → ℕ) (xs : List X) → IsNonDecreasingBy n xs → rises n xs ≡ true
rises_from n [] h = refl
rises_from n (x ∷ xs) h = and_from _ _
    (all_above n (n x) xs (λ j d lt. h 0 (suc j) d (omega arith) (omega (arith, lt))))
    (rises_from n xs (λ i j d le lt. h (suc i) (suc j) d (omega (arith, le)) (omega (arith, lt))))

-- none of a list above k is k
none_at : {X : Type 0} (n : X → ℕ) (k m : ℕ) (xs : List X) → k < m → list_all (λ y. nat_le m (n y)) xs ≡ true → filter (is n k) xs ≡ []
none_at n k m [] lt h = refl
none_at n k m (x ∷ xs) lt h =
    let parts = and_parts (nat_le m (n x)) (list_all (λ y. nat_le m (n y)) xs) h in
    let le : nat_le m (n x) ≡ true = parts.0 in
    let no : is n k x ≡ false = grind (arith, nat_tests) in
    drops (is n k) x xs no ∙ none_at n k m xs lt parts.1

-- ---- they are told apart by the elements of each number

data Compared (a b : ℕ) : Type 0 where
  below : a < b → Compared a b
  same : a ≡ b → Compared a b
  above : b < a → Compared a b

compared : (a b : ℕ) → Compared a b
compared a b = by_bool (nat_lt a b)
    (λ t. below (grind (arith, nat_tests)))
    (λ f. by_bool (nat_lt b a) (λ t. above (grind (arith, nat_tests))) (λ g. same (grind (arith, nat_tests))))

head_is : {X : Type 0} (x y : X) (xs ys : List X) → x ∷ xs ≡ y ∷ ys → x ≡ y
head_is x y xs ys e = ap (λ l. get_or l 0 x) e

abbrev tail_of : {X : Type 0} → List X → List X
tail_of [] = []
tail_of (x ∷ xs) = xs

tail_is : {X : Type 0} (x y : X) (xs ys : List X) → x ∷ xs ≡ y ∷ ys → xs ≡ ys
tail_is x y xs ys e = ap tail_of e

not_empty : {X : Type 0} (x : X) (xs : List X) → x ∷ xs ≡ [] → ⊥
not_empty x xs e = let k : suc (length xs) ≡ zero = ap length e in omega (arith, k)

self : {X : Type 0} (n : X → ℕ) (x : X) → is n (n x) x ≡ true
self n x = grind (arith, nat_tests)

pub told_apart : {X : Type 0} (n : X → ℕ) (xs ys : List X) → rises n xs ≡ true → rises n ys ≡ true → ((z : X) → filter (is n (n z)) xs ≡ filter (is n (n z)) ys) → xs ≡ ys
told_apart n [] [] h g e = refl
told_apart n [] (y ∷ ys) h g e = absurd (not_empty y (filter (is n (n y)) ys) (sym (e y ∙ keeps (is n (n y)) y ys (self n y))))
told_apart n (x ∷ xs) [] h g e = absurd (not_empty x (filter (is n (n x)) xs) (sym (keeps (is n (n x)) x xs (self n x)) ∙ e x))
told_apart {X = X} n (x ∷ xs) (y ∷ ys) h g e =
    let p = and_parts (list_all (λ z. nat_le (n x) (n z)) xs) (rises n xs) h in
    let q = and_parts (list_all (λ z. nat_le (n y) (n z)) ys) (rises n ys) g in
    at (told_apart n xs ys p.1 q.1) (compared (n x) (n y)) p q where
      at : (((z : X) → filter (is n (n z)) xs ≡ filter (is n (n z)) ys) → xs ≡ ys) → Compared (n x) (n y) → (list_all (λ z. nat_le (n x) (n z)) xs ≡ true) × (rises n xs ≡ true) → (list_all (λ z. nat_le (n y) (n z)) ys ≡ true) × (rises n ys ≡ true) → x ∷ xs ≡ y ∷ ys
      at rec (below lt) p q =
          let all : list_all (λ z. nat_le (n y) (n z)) (y ∷ ys) ≡ true = and_from _ _ (grind (arith, nat_tests)) q.0 in
          absurd (not_empty x (filter (is n (n x)) xs) (sym (keeps (is n (n x)) x xs (self n x)) ∙ e x ∙ none_at n (n x) (n y) (y ∷ ys) lt all))
      at rec (above lt) p q =
          let all : list_all (λ z. nat_le (n x) (n z)) (x ∷ xs) ≡ true = and_from _ _ (grind (arith, nat_tests)) p.0 in
          absurd (not_empty y (filter (is n (n y)) ys) (sym (keeps (is n (n y)) y ys (self n y)) ∙ sym (e y) ∙ none_at n (n y) (n x) (x ∷ xs) lt all))
      at rec (same s) p q =
          let here : is n (n x) y ≡ true = grind (arith, nat_tests) in
          let both : x ∷ filter (is n (n x)) xs ≡ y ∷ filter (is n (n x)) ys = sym (keeps (is n (n x)) x xs (self n x)) ∙ e x ∙ keeps (is n (n x)) y ys here in
          let rest : (z : X) → filter (is n (n z)) xs ≡ filter (is n (n z)) ys = λ z. by_bool (is n (n z) x)
          (λ t. let there : is n (n z) y ≡ true = grind (arith, nat_tests) in tail_is x y _ _ (sym (keeps (is n (n z)) x xs t) ∙ e z ∙ keeps (is n (n z)) y ys there))
          (λ f. let gone : is n (n z) y ≡ false = grind (arith, nat_tests) in sym (drops (is n (n z)) x xs f) ∙ e z ∙ drops (is n (n z)) y ys gone) in
          λ i. head_is x y _ _ both i ∷ rec rest i

-- ---- sorting by insertion

abbrev pub put : {X : Type 0} → (X → ℕ) → X → List X → List X
put n x [] = x ∷ []
put n x (y ∷ ys) = if nat_le (n x) (n y) then x ∷ (y ∷ ys) else y ∷ put n x ys

abbrev pub sorted : {X : Type 0} → (X → ℕ) → List X → List X
sorted n [] = []
sorted n (x ∷ xs) = put n x (sorted n xs)

put_here : {X : Type 0} (n : X → ℕ) (x y : X) (ys : List X) → nat_le (n x) (n y) ≡ true → put n x (y ∷ ys) ≡ x ∷ (y ∷ ys)
put_here n x y ys t = rw t refl

put_on : {X : Type 0} (n : X → ℕ) (x y : X) (ys : List X) → nat_le (n x) (n y) ≡ false → put n x (y ∷ ys) ≡ y ∷ put n x ys
put_on n x y ys t = rw t refl

filter_put : {X : Type 0} (n : X → ℕ) (k : ℕ) (x : X) (ys : List X) → filter (is n k) (put n x ys) ≡ filter (is n k) (x ∷ ys)
filter_put n k x [] = refl
filter_put n k x (y ∷ ys) = by_bool (nat_le (n x) (n y))
    (λ t. ap (filter (is n k)) (put_here n x y ys t))
    (λ f. ap (filter (is n k)) (put_on n x y ys f) ∙ by_bool (is n k y)
    (λ here. let other : is n k x ≡ false = grind (arith, nat_tests) in
    keeps (is n k) y (put n x ys) here ∙ ap (λ l. y ∷ l) (filter_put n k x ys ∙ drops (is n k) x ys other) ∙ sym (keeps (is n k) y ys here) ∙ sym (drops (is n k) x (y ∷ ys) other))
    (λ gone. drops (is n k) y (put n x ys) gone ∙ filter_put n k x ys ∙ by_bool (is n k x)
    (λ t. keeps (is n k) x ys t ∙ ap (λ l. x ∷ l) (sym (drops (is n k) y ys gone)) ∙ sym (keeps (is n k) x (y ∷ ys) t))
    (λ g. drops (is n k) x ys g ∙ sym (drops (is n k) y ys gone) ∙ sym (drops (is n k) x (y ∷ ys) g))))

pub filter_sorted : {X : Type 0} (n : X → ℕ) (k : ℕ) (xs : List X) → filter (is n k) (sorted n xs) ≡ filter (is n k) xs
filter_sorted n k [] = refl
filter_sorted n k (x ∷ xs) = filter_put n k x (sorted n xs) ∙ by_bool (is n k x)
    (λ t. keeps (is n k) x (sorted n xs) t ∙ ap (λ l. x ∷ l) (filter_sorted n k xs) ∙ sym (keeps (is n k) x xs t))
    (λ f. drops (is n k) x (sorted n xs) f ∙ filter_sorted n k xs ∙ sym (drops (is n k) x xs f))

all_put : {X : Type 0} (p : X → Bool) (n : X → ℕ) (x : X) (ys : List X) → p x ≡ true → list_all p ys ≡ true → list_all p (put n x ys) ≡ true
all_put p n x [] t h = and_from _ _ t refl
all_put p n x (y ∷ ys) t h = let q = and_parts (p y) (list_all p ys) h in by_bool (nat_le (n x) (n y))
    (λ a. ap (list_all p) (put_here n x y ys a) ∙ and_from _ _ t h)
    (λ a. ap (list_all p) (put_on n x y ys a) ∙ and_from _ _ q.0 (all_put p n x ys t q.1))

all_higher : {X : Type 0} (n : X → ℕ) (k m : ℕ) (xs : List X) → k ≤ m → list_all (λ y. nat_le m (n y)) xs ≡ true → list_all (λ y. nat_le k (n y)) xs ≡ true
all_higher n k m [] le h = refl
all_higher n k m (x ∷ xs) le h =
    let q = and_parts (nat_le m (n x)) (list_all (λ y. nat_le m (n y)) xs) h in
    let a : nat_le m (n x) ≡ true = q.0 in
    and_from _ _ (grind (arith, nat_tests)) (all_higher n k m xs le q.1)

rises_put : {X : Type 0} (n : X → ℕ) (x : X) (ys : List X) → rises n ys ≡ true → rises n (put n x ys) ≡ true
rises_put n x [] h = refl
rises_put n x (y ∷ ys) h =
    let q = and_parts (list_all (λ z. nat_le (n y) (n z)) ys) (rises n ys) h in
    by_bool (nat_le (n x) (n y))
    (λ t. let le : n x ≤ n y = grind (arith, nat_tests) in
    ap (rises n) (put_here n x y ys t) ∙ and_from _ _ (and_from _ _ t (all_higher n (n x) (n y) ys le q.0)) h)
    (λ f. let le : nat_le (n y) (n x) ≡ true = grind (arith, nat_tests) in
    ap (rises n) (put_on n x y ys f) ∙ and_from _ _ (all_put (λ z. nat_le (n y) (n z)) n x ys le q.0) (rises_put n x ys q.1))

pub rises_sorted : {X : Type 0} (n : X → ℕ) (xs : List X) → rises n (sorted n xs) ≡ true
rises_sorted n [] = refl
rises_sorted n (x ∷ xs) = rises_put n x (sorted n xs) (rises_sorted n xs)

-- what is sorted stably is what insertion gives
pub sorted_is : {X : Type 0} (n : X → ℕ) (xs ys : List X) → IsNonDecreasingBy n ys → ((z : X) → filter (is n (n z)) ys ≡ filter (is n (n z)) xs) → ys ≡ sorted n xs
sorted_is n xs ys up ties = told_apart n ys (sorted n xs) (rises_from n ys up) (rises_sorted n xs) (λ z. ties z ∙ sym (filter_sorted n (n z) xs))
