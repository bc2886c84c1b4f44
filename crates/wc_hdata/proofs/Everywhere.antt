-- What holds of each element of a list.
use Rattle.std.proofs.Common.{◌≡◌, ℕ, zero, suc, ◌+◌, Bool, true, false, List, [], ◌∷◌, ◌++◌, map, take, drop, reverse, arith, refl, sym, ap, subst, ◌∙◌}
use Rattle.std.specs.Prelude.{All, ◌||◌}
use Rattle.std.specs.List.{AllByRecursion, flat_map, list_any}
use Rattle.std.proofs.lemmas.List.{reverse-append}
use Rattle.wc_hdata.specs.declared.count.Count.{Count}
use Rattle.wc_hdata.specs.declared.count.Count.TheVariants.{One, All as On, Forward, Backward}
use Rattle.wc_hdata.specs.Along.{along}
use Rattle.wc_buffers.proofs.GroupLaws.{by_bool}

pub all_append : {A : Type 0} (P : A → Type 0) (xs ys : List A) → AllByRecursion P xs → AllByRecursion P ys → AllByRecursion P (xs ++ ys)
all_append P [] ys a b = b
all_append P (x ∷ xs) ys a b = (a.0, all_append P xs ys a.1 b)

pub all_front : {A : Type 0} (P : A → Type 0) (xs ys : List A) → AllByRecursion P (xs ++ ys) → AllByRecursion P xs
all_front P [] ys a = tt
all_front P (x ∷ xs) ys a = (a.0, all_front P xs ys a.1)

pub all_back : {A : Type 0} (P : A → Type 0) (xs ys : List A) → AllByRecursion P (xs ++ ys) → AllByRecursion P ys
all_back P [] ys a = a
all_back P (x ∷ xs) ys a = all_back P xs ys a.1

pub all_weaken : {A : Type 0} (P Q : A → Type 0) → ((x : A) → P x → Q x) → (xs : List A) → AllByRecursion P xs → AllByRecursion Q xs
all_weaken P Q f [] a = tt
all_weaken P Q f (x ∷ xs) a = (f x a.0, all_weaken P Q f xs a.1)

pub all_map : {A B : Type 0} (P : A → Type 0) (Q : B → Type 0) (f : A → B) → ((x : A) → P x → Q (f x)) → (xs : List A) → AllByRecursion P xs → AllByRecursion Q (map f xs)
all_map P Q f g [] a = tt
all_map P Q f g (x ∷ xs) a = (g x a.0, all_map P Q f g xs a.1)

pub all_of : {A : Type 0} (P : A → Type 0) (xs : List A) → All P xs → AllByRecursion P xs
all_of P [] a = tt
all_of P (x ∷ xs) a = (a 0 x (omega arith), all_of P xs (λ k d lt. a (suc k) d (omega arith)))

all_take : {A : Type 0} (P : A → Type 0) (n : ℕ) (xs : List A) → AllByRecursion P xs → AllByRecursion P (take n xs)
all_take P zero xs a = tt
all_take P (suc n) [] a = tt
all_take P (suc n) (x ∷ xs) a = (a.0, all_take P n xs a.1)

pub all_drop : {A : Type 0} (P : A → Type 0) (n : ℕ) (xs : List A) → AllByRecursion P xs → AllByRecursion P (drop n xs)
all_drop P zero xs a = a
all_drop P (suc n) [] a = tt
all_drop P (suc n) (x ∷ xs) a = all_drop P n xs a.1

all_reverse : {A : Type 0} (P : A → Type 0) (xs : List A) → AllByRecursion P xs → AllByRecursion P (reverse xs)
all_reverse P [] a = tt
all_reverse P (x ∷ xs) a = subst (AllByRecursion P) (sym (reverse-append (x ∷ []) xs)) (all_append P (reverse xs) (x ∷ []) (all_reverse P xs a.1) (a.0, tt))

-- what a count gives of a list is of the list
pub all_along : {A : Type 0} (P : A → Type 0) (count : Count) (at : ℕ) (xs : List A) → AllByRecursion P xs → AllByRecursion P (along count at xs)
all_along P One at xs a = all_take P 1 (drop at xs) (all_drop P at xs a)
all_along P On at xs a = all_drop P at xs a
all_along P (Forward n) at xs a = all_take P n (drop at xs) (all_drop P at xs a)
all_along P (Backward n) at xs a = all_take P n (reverse (take (at + 1) xs)) (all_reverse P (take (at + 1) xs) (all_take P (at + 1) xs a))

pub all_flat : {A B : Type 0} (P : B → Type 0) (f : A → List B) (xs : List A) → AllByRecursion (λ x. AllByRecursion P (f x)) xs → AllByRecursion P (flat_map f xs)
all_flat P f [] a = tt
all_flat P f (x ∷ xs) a = all_append P (f x) (flat_map f xs) a.0 (all_flat P f xs a.1)

pub or_right : (b c : Bool) → c ≡ true → (b || c) ≡ true
or_right true c t = refl
or_right false c t = t

pub or_left : (b c : Bool) → b ≡ true → (b || c) ≡ true
or_left true c t = refl
or_left false c t = absurd (cc)

pub any_front : {A : Type 0} (p : A → Bool) (xs ys : List A) → list_any p xs ≡ true → list_any p (xs ++ ys) ≡ true
any_front p [] ys t = absurd (cc)
any_front p (x ∷ xs) ys t = by_bool (p x) _
    (λ here. or_left (p x) (list_any p (xs ++ ys)) here)
    (λ gone. let on : list_any p xs ≡ true = ap (λ b. b || list_any p xs) (sym gone) ∙ t in or_right (p x) (list_any p (xs ++ ys)) (any_front p xs ys on))

pub any_back : {A : Type 0} (p : A → Bool) (xs ys : List A) → list_any p ys ≡ true → list_any p (xs ++ ys) ≡ true
any_back p [] ys t = t
any_back p (x ∷ xs) ys t = or_right (p x) (list_any p (xs ++ ys)) (any_back p xs ys t)
