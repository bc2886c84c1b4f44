-- Lists that are filtered, tested and changed.
use Rattle.std.proofs.Common.{◌≡◌, ℕ, zero, suc, ◌+◌, ◌<◌, ◌≤◌, Bool, true, false, not, Option, None, List, [], ◌∷◌, length, map, take, drop, get_or, arith, refl, sym, ap, ◌∙◌}
use Rattle.std.specs.Prelude.{filter, ◌&&◌, ◌||◌, is_some}
use Rattle.std.specs.List.{list_all, list_any}
use Rattle.std.proofs.lemmas.Bool.{and_parts, and_from, false≢true}

pub by_bool : {P : Type 0} (b : Bool) → (b ≡ true → P) → (b ≡ false → P) → P
by_bool true t f = t refl
by_bool false t f = f refl

pub not_true : (b : Bool) → not b ≡ true → b ≡ false
not_true true e = absurd (false≢true e)
not_true false e = refl

pub keeps_first : {A : Type 0} (p : A → Bool) (x : A) (xs : List A) → p x ≡ true → filter p (x ∷ xs) ≡ x ∷ filter p xs
keeps_first p x xs t = rw t refl

pub drops_first : {A : Type 0} (p : A → Bool) (x : A) (xs : List A) → p x ≡ false → filter p (x ∷ xs) ≡ filter p xs
drops_first p x xs t = rw t refl

pub any_first : {A : Type 0} (p : A → Bool) (x : A) (xs : List A) → p x ≡ true → list_any p (x ∷ xs) ≡ true
any_first p x xs t = rw t refl

pub any_rest : {A : Type 0} (p : A → Bool) (x : A) (xs : List A) → p x ≡ false → list_any p (x ∷ xs) ≡ list_any p xs
any_rest p x xs t = rw t refl

or_true : (b : Bool) → (b || true) ≡ true
or_true true = refl
or_true false = refl

pub any_more : {A : Type 0} (p : A → Bool) (x : A) (xs : List A) → list_any p xs ≡ true → list_any p (x ∷ xs) ≡ true
any_more p x xs t = ap (λ b. p x || b) t ∙ or_true (p x)

pub any_weaker : {A : Type 0} (q r : A → Bool) → ((x : A) → q x ≡ true → r x ≡ true) → (xs : List A) → list_any q xs ≡ true → list_any r xs ≡ true
any_weaker q r more [] h = absurd (false≢true h)
any_weaker q r more (x ∷ xs) h = by_bool (q x)
    (λ t. any_first r x xs (more x t))
    (λ f. any_more r x xs (any_weaker q r more xs (sym (any_rest q x xs f) ∙ h)))

pub all_filter : {A : Type 0} (q p : A → Bool) (xs : List A) → list_all q xs ≡ true → list_all q (filter p xs) ≡ true
all_filter q p [] h = refl
all_filter q p (x ∷ xs) h = let parts = and_parts (q x) (list_all q xs) h in by_bool (p x)
    (λ a. ap (list_all q) (keeps_first p x xs a) ∙ and_from _ _ parts.0 (all_filter q p xs parts.1))
    (λ a. ap (list_all q) (drops_first p x xs a) ∙ all_filter q p xs parts.1)

-- those that pass a test, all of which pass another
pub all_kept : {A : Type 0} (q p : A → Bool) → ((x : A) → p x ≡ true → q x ≡ true) → (xs : List A) → list_all q (filter p xs) ≡ true
all_kept q p more [] = refl
all_kept q p more (x ∷ xs) = by_bool (p x)
    (λ a. ap (list_all q) (keeps_first p x xs a) ∙ and_from _ _ (more x a) (all_kept q p more xs))
    (λ a. ap (list_all q) (drops_first p x xs a) ∙ all_kept q p more xs)

pub all_map : {A B : Type 0} (q : A → Bool) (r : B → Bool) (f : A → B) → ((x : A) → r (f x) ≡ q x) → (xs : List A) → list_all r (map f xs) ≡ list_all q xs
all_map q r f same [] = refl
all_map q r f same (x ∷ xs) = (λ i. same x i && all_map q r f same xs i)

pub any_map : {A B : Type 0} (q : A → Bool) (r : B → Bool) (f : A → B) → ((x : A) → r (f x) ≡ q x) → (xs : List A) → list_any r (map f xs) ≡ list_any q xs
any_map q r f same [] = refl
any_map q r f same (x ∷ xs) = (λ i. same x i || any_map q r f same xs i)

pub all_weaker : {A : Type 0} (q r : A → Bool) → ((x : A) → q x ≡ true → r x ≡ true) → (xs : List A) → list_all q xs ≡ true → list_all r xs ≡ true
all_weaker q r more [] h = refl
all_weaker q r more (x ∷ xs) h = let parts = and_parts (q x) (list_all q xs) h in and_from _ _ (more x parts.0) (all_weaker q r more xs parts.1)

pub all_at : {A : Type 0} (q : A → Bool) (xs : List A) (i : ℕ) (d : A) → i < length xs → list_all q xs ≡ true → q (get_or xs i d) ≡ true
all_at q [] i d lt h = absurd (omega arith)
all_at q (x ∷ xs) zero d lt h = (and_parts (q x) (list_all q xs) h).0
all_at q (x ∷ xs) (suc i) d lt h = all_at q xs i d (omega (arith, lt)) (and_parts (q x) (list_all q xs) h).1

pub all_take : {A : Type 0} (q : A → Bool) (n : ℕ) (xs : List A) → list_all q xs ≡ true → list_all q (take n xs) ≡ true
all_take q zero xs h = refl
all_take q (suc n) [] h = refl
all_take q (suc n) (x ∷ xs) h = let parts = and_parts (q x) (list_all q xs) h in and_from _ _ parts.0 (all_take q n xs parts.1)

pub all_drop : {A : Type 0} (q : A → Bool) (n : ℕ) (xs : List A) → list_all q xs ≡ true → list_all q (drop n xs) ≡ true
all_drop q zero xs h = h
all_drop q (suc n) [] h = refl
all_drop q (suc n) (x ∷ xs) h = all_drop q n xs (and_parts (q x) (list_all q xs) h).1

pub all_get : {A : Type 0} (q : A → Bool) (xs : List A) (i : ℕ) (y : A) → list_all q xs ≡ true → q y ≡ true → q (get_or xs i y) ≡ true
all_get q [] i y h k = k
all_get q (x ∷ xs) zero y h k = (and_parts (q x) (list_all q xs) h).0
all_get q (x ∷ xs) (suc i) y h k = all_get q xs i y (and_parts (q x) (list_all q xs) h).1 k

pub filter_map : {A B : Type 0} (f : A → B) (p : A → Bool) (q : B → Bool) → ((x : A) → q (f x) ≡ p x) → (xs : List A) → filter q (map f xs) ≡ map f (filter p xs)
filter_map f p q same [] = refl
filter_map f p q same (x ∷ xs) = by_bool (p x)
    (λ t. keeps_first q (f x) (map f xs) (same x ∙ t) ∙ ap (λ l. f x ∷ l) (filter_map f p q same xs) ∙ ap (map f) (sym (keeps_first p x xs t)))
    (λ t. drops_first q (f x) (map f xs) (same x ∙ t) ∙ filter_map f p q same xs ∙ ap (map f) (sym (drops_first p x xs t)))

pub map_same : {A B : Type 0} (f g : A → B) → ((x : A) → f x ≡ g x) → (xs : List A) → map f xs ≡ map g xs
map_same f g same [] = refl
map_same f g same (x ∷ xs) = (λ i. same x i ∷ map_same f g same xs i)

pub map_both : {A B C : Type 0} (f : A → B) (g : B → C) (xs : List A) → map g (map f xs) ≡ map (λ x. g (f x)) xs
map_both f g [] = refl
map_both f g (x ∷ xs) = ap (λ l. g (f x) ∷ l) (map_both f g xs)

pub count_first : {A : Type 0} (p : A → Bool) (x : A) (xs : List A) → p x ≡ true → length (filter p (x ∷ xs)) ≡ suc (length (filter p xs))
count_first p x xs t = ap length (keeps_first p x xs t)

pub count_rest : {A : Type 0} (p : A → Bool) (x : A) (xs : List A) → p x ≡ false → length (filter p (x ∷ xs)) ≡ length (filter p xs)
count_rest p x xs t = ap length (drops_first p x xs t)

pub filter_comm : {A : Type 0} (p q : A → Bool) (xs : List A) → filter p (filter q xs) ≡ filter q (filter p xs)
filter_comm p q [] = refl
filter_comm p q (x ∷ xs) = by_bool (p x)
    (λ a. by_bool (q x)
    (λ b. ap (filter p) (keeps_first q x xs b) ∙ keeps_first p x (filter q xs) a ∙ ap (λ l. x ∷ l) (filter_comm p q xs) ∙ sym (keeps_first q x (filter p xs) b) ∙ ap (filter q) (sym (keeps_first p x xs a)))
    (λ b. ap (filter p) (drops_first q x xs b) ∙ filter_comm p q xs ∙ sym (drops_first q x (filter p xs) b) ∙ ap (filter q) (sym (keeps_first p x xs a))))
    (λ a. by_bool (q x)
    (λ b. ap (filter p) (keeps_first q x xs b) ∙ drops_first p x (filter q xs) a ∙ filter_comm p q xs ∙ ap (filter q) (sym (drops_first p x xs a)))
    (λ b. ap (filter p) (drops_first q x xs b) ∙ filter_comm p q xs ∙ ap (filter q) (sym (drops_first p x xs a))))

-- where all pass, none is dropped; where none passes, none is kept
pub filter_all : {A : Type 0} (p : A → Bool) (xs : List A) → list_all p xs ≡ true → filter p xs ≡ xs
filter_all p [] h = refl
filter_all p (x ∷ xs) h = let parts = and_parts (p x) (list_all p xs) h in keeps_first p x xs parts.0 ∙ ap (λ l. x ∷ l) (filter_all p xs parts.1)

pub filter_none : {A : Type 0} (p : A → Bool) (xs : List A) → list_all (λ x. not (p x)) xs ≡ true → filter p xs ≡ []
filter_none p [] h = refl
filter_none p (x ∷ xs) h = let parts = and_parts (not (p x)) (list_all (λ x. not (p x)) xs) h in drops_first p x xs (not_true (p x) parts.0) ∙ filter_none p xs parts.1

pub filter_filter : {A : Type 0} (p q : A → Bool) (xs : List A) → filter p (filter q xs) ≡ filter (λ x. q x && p x) xs
filter_filter p q [] = refl
filter_filter p q (x ∷ xs) = by_bool (q x)
    (λ a. ap (filter p) (keeps_first q x xs a) ∙ by_bool (p x)
    (λ b. keeps_first p x (filter q xs) b ∙ ap (λ l. x ∷ l) (filter_filter p q xs) ∙ sym (keeps_first (λ x. q x && p x) x xs (and_from _ _ a b)))
    (λ b. drops_first p x (filter q xs) b ∙ filter_filter p q xs ∙ sym (drops_first (λ x. q x && p x) x xs (ap (λ c. c && p x) a ∙ b))))
    (λ a. ap (filter p) (drops_first q x xs a) ∙ filter_filter p q xs ∙ sym (drops_first (λ x. q x && p x) x xs (ap (λ c. c && p x) a)))

pub length_filter : {A : Type 0} (p q : A → Bool) (xs : List A) → length (filter p (filter q xs)) ≤ length (filter p xs)
length_filter p q [] = omega arith
length_filter p q (x ∷ xs) =
    let ih : length (filter p (filter q xs)) ≤ length (filter p xs) = length_filter p q xs in
    by_bool (q x)
    (λ a. let e = ap (λ l. length (filter p l)) (keeps_first q x xs a) in by_bool (p x)
    (λ b. let m = count_first p x (filter q xs) b in let n = count_first p x xs b in omega (arith, ih, e, m, n))
    (λ b. let m = count_rest p x (filter q xs) b in let n = count_rest p x xs b in omega (arith, ih, e, m, n)))
    (λ a. let e = ap (λ l. length (filter p l)) (drops_first q x xs a) in by_bool (p x)
    (λ b. let n = count_first p x xs b in omega (arith, ih, e, n))
    (λ b. let n = count_rest p x xs b in omega (arith, ih, e, n)))

pub count_drop : {A : Type 0} (p : A → Bool) (n : ℕ) (xs : List A) → length (filter p (drop n xs)) ≤ length (filter p xs)
count_drop p zero xs = omega arith
count_drop p (suc n) [] = omega arith
count_drop p (suc n) (x ∷ xs) =
    let ih : length (filter p (drop n xs)) ≤ length (filter p xs) = count_drop p n xs in
    by_bool (p x)
    (λ b. let m = count_first p x xs b in omega (arith, ih, m))
    (λ b. let m = count_rest p x xs b in omega (arith, ih, m))

pub count_take : {A : Type 0} (p : A → Bool) (n : ℕ) (xs : List A) → length (filter p (take n xs)) ≤ length (filter p xs)
count_take p zero xs = omega arith
count_take p (suc n) [] = omega arith
count_take p (suc n) (x ∷ xs) =
    let ih : length (filter p (take n xs)) ≤ length (filter p xs) = count_take p n xs in
    by_bool (p x)
    (λ b. let m = count_first p x (take n xs) b in let k = count_first p x xs b in omega (arith, ih, m, k))
    (λ b. let m = count_rest p x (take n xs) b in let k = count_rest p x xs b in omega (arith, ih, m, k))

pub parts_of : {A : Type 0} (p : A → Bool) (xs : List A) → length (filter p xs) + length (filter (λ x. not (p x)) xs) ≡ length xs
parts_of p [] = refl
parts_of p (x ∷ xs) =
    let ih : length (filter p xs) + length (filter (λ x. not (p x)) xs) ≡ length xs = parts_of p xs in
    by_bool (p x)
    (λ a. let m = count_first p x xs a in let n = count_rest (λ x. not (p x)) x xs (ap not a) in omega (arith, ih, m, n))
    (λ a. let m = count_rest p x xs a in let n = count_first (λ x. not (p x)) x xs (ap not a) in omega (arith, ih, m, n))

pub take_map : {A B : Type 0} (f : A → B) (n : ℕ) (xs : List A) → take n (map f xs) ≡ map f (take n xs)
take_map f zero xs = refl
take_map f (suc n) [] = refl
take_map f (suc n) (x ∷ xs) = ap (λ l. f x ∷ l) (take_map f n xs)

pub drop_map : {A B : Type 0} (f : A → B) (n : ℕ) (xs : List A) → drop n (map f xs) ≡ map f (drop n xs)
drop_map f zero xs = refl
drop_map f (suc n) [] = refl
drop_map f (suc n) (x ∷ xs) = drop_map f n xs

-- what is the case of no element
pub map_none : {A : Type 0} (p : A → Bool) (f : A → A) → ((x : A) → p x ≡ false → f x ≡ x) → (xs : List A) → list_all (λ x. not (p x)) xs ≡ true → map f xs ≡ xs
map_none p f same [] h = refl
map_none p f same (x ∷ xs) h = let parts = and_parts (not (p x)) (list_all (λ x. not (p x)) xs) h in (λ i. same x (not_true (p x) parts.0) i ∷ map_none p f same xs parts.1 i)

-- a place where something is is one of the places
pub open_inside : {A : Type 0} (xs : List (Option A)) (place : ℕ) → is_some (get_or xs place None) ≡ true → place < length xs
open_inside [] zero h = absurd (false≢true h)
open_inside [] (suc place) h = absurd (false≢true h)
open_inside (x ∷ xs) zero h = omega arith
open_inside (x ∷ xs) (suc place) h = let k : place < length xs = open_inside xs place h in omega (arith, k)
