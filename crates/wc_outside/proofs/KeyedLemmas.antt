-- Laws of lists whose elements go by a key.
use Rattle.std.proofs.Common.{◌≡◌, ◌≢◌, ℕ, suc, ◌+◌, ◌<◌, ◌≤◌, Bool, true, false, cond, eqb, List, [], ◌∷◌, ◌++◌, length, Option, Some, None, refl, ap, subst, arith, nat_lt, position, filter, not}
use Rattle.std.specs.List.{position_or_len}
use Rattle.std.proofs.lemmas.Bool.Decides.{nat_tests}
use Rattle.wc_outside.specs.Keyed.{at_key, put_at, without, IsKeyPlace, PlaceOf}

pub here : {X : Type 0} (key : X → ℕ) (k : ℕ) (x : X) (xs : List X) → eqb (key x) k ≡ true → IsKeyPlace key k (x ∷ xs) 0
here key k x xs e = record { inside = omega arith; found = λ d. rw e refl; put = λ y. rw e refl }

pub following : {X : Type 0} (key : X → ℕ) (k : ℕ) (x : X) (xs : List X) (i : ℕ) → eqb (key x) k ≡ false → IsKeyPlace key k xs i → IsKeyPlace key k (x ∷ xs) (suc i)
following key k x xs i e p = record {
  inside = (let h = p.inside in omega arith);
  found = λ d. rw e (p.found d);
  put = λ y. rw e (ap (λ ys. x ∷ ys) (p.put y));
}

after_one : {X : Type 0} (key : X → ℕ) (k : ℕ) (x : X) (xs : List X) (i : ℕ) → eqb (key x) k ≡ false → IsKeyPlace key k xs i → IsKeyPlace key k (x ∷ xs) (1 + i)
after_one key k x xs i e p = let q : suc i ≡ 1 + i = omega arith in subst (λ n. IsKeyPlace key k (x ∷ xs) n) q (following key k x xs i e p)

placed-by : {X : Type 0} (key : X → ℕ) (k : ℕ) (x : X) (xs : List X) (b : Bool) → eqb (key x) k ≡ b
    → (position_or_len (λ x. eqb (key x) k) xs < length xs → IsKeyPlace key k xs (position_or_len (λ x. eqb (key x) k) xs))
    → position_or_len (λ x. eqb (key x) k) (x ∷ xs) < length (x ∷ xs) → IsKeyPlace key k (x ∷ xs) (position_or_len (λ x. eqb (key x) k) (x ∷ xs))
placed-by key k x xs true e f h = rw e (here key k x xs e)
placed-by key k x xs false e f h = rw e (after_one key k x xs _ e (f (let g = rw e at h in omega arith)))

placed : {X : Type 0} (key : X → ℕ) (k : ℕ) (xs : List X) → position_or_len (λ x. eqb (key x) k) xs < length xs → IsKeyPlace key k xs (position_or_len (λ x. eqb (key x) k) xs)
placed key k [] h = absurd (omega arith)
placed key k (x ∷ xs) h = placed-by key k x xs (eqb (key x) k) refl (placed key k xs) h

missing-by : {X : Type 0} (key : X → ℕ) (k : ℕ) (x : X) (xs : List X) (b : Bool) → eqb (key x) k ≡ b
    → (length xs ≤ position_or_len (λ x. eqb (key x) k) xs → at_key key k xs ≡ None)
    → length (x ∷ xs) ≤ position_or_len (λ x. eqb (key x) k) (x ∷ xs) → at_key key k (x ∷ xs) ≡ None
missing-by key k x xs true e f h = absurd (let g = rw e at h in omega arith)
missing-by key k x xs false e f h = rw e (f (let g = rw e at h in omega arith))

missing : {X : Type 0} (key : X → ℕ) (k : ℕ) (xs : List X) → length xs ≤ position_or_len (λ x. eqb (key x) k) xs → at_key key k xs ≡ None
missing key k [] h = refl
missing key k (x ∷ xs) h = missing-by key k x xs (eqb (key x) k) refl (missing key k xs) h

place_cases : {X : Type 0} (key : X → ℕ) (k : ℕ) (xs : List X) (b : Bool) → nat_lt (position_or_len (λ x. eqb (key x) k) xs) (length xs) ≡ b
    → PlaceOf key k xs (cond b (Some (position_or_len (λ x. eqb (key x) k) xs)) None)
place_cases key k xs true e = placed key k xs (grind (arith, nat_tests))
place_cases key k xs false e = missing key k xs (grind (arith, nat_tests))

-- what `position` answers is the place
pub PlaceOf-position : {X : Type 0} (key : X → ℕ) (k : ℕ) (xs : List X) (r : Option ℕ) → r ≡ position (λ x. eqb (key x) k) xs → PlaceOf key k xs r
PlaceOf-position key k xs r e = rw e (place_cases key k xs _ refl)

-- the element that is found has the key
pub at_key-key : {X : Type 0} (key : X → ℕ) (k : ℕ) (xs : List X) (x : X) → at_key key k xs ≡ Some x → key x ≡ k
at_key-key key k [] x h = cc
at_key-key key k (y ∷ ys) x h = grind (arith, nat_tests, at_key-key key k ys x)

-- what is put there again changes nothing
pub put_at-same : {X : Type 0} (key : X → ℕ) (k : ℕ) (xs : List X) (x : X) → at_key key k xs ≡ Some x → put_at key k x xs ≡ xs
put_at-same key k [] x h = refl
put_at-same key k (y ∷ ys) x h = grind (arith, nat_tests, put_at-same key k ys x)

-- another element is found as before
pub at_key-put_other : {X : Type 0} (key : X → ℕ) (k j : ℕ) (y : X) (xs : List X) → key y ≡ k → j ≢ k → at_key key j (put_at key k y xs) ≡ at_key key j xs
at_key-put_other key k j y [] e n = refl
at_key-put_other key k j y (x ∷ xs) e n = grind (arith, nat_tests, at_key-put_other key k j y xs e n)

pub at_key-put_same : {X : Type 0} (key : X → ℕ) (k : ℕ) (x y : X) (xs : List X) → key y ≡ k → at_key key k xs ≡ Some x → at_key key k (put_at key k y xs) ≡ Some y
at_key-put_same key k x y [] e h = cc
at_key-put_same key k x y (z ∷ zs) e h = grind (arith, nat_tests, at_key-put_same key k x y zs e)

pub at_key-without_other : {X : Type 0} (key : X → ℕ) (k j : ℕ) (xs : List X) → j ≢ k → at_key key j (without key k xs) ≡ at_key key j xs
at_key-without_other key k j [] n = refl
at_key-without_other key k j (x ∷ xs) n = grind (arith, nat_tests, at_key-without_other key k j xs n)

pub at_key-push_other : {X : Type 0} (key : X → ℕ) (j : ℕ) (y : X) (xs : List X) → key y ≢ j → at_key key j (xs ++ y ∷ []) ≡ at_key key j xs
at_key-push_other key j y [] n = grind (arith, nat_tests)
at_key-push_other key j y (x ∷ xs) n = grind (arith, nat_tests, at_key-push_other key j y xs n)

-- after all elements with a key are taken out
pub at_key-filter_other : {X : Type 0} (key : X → ℕ) (k j : ℕ) (xs : List X) → j ≢ k → at_key key j (filter (λ x. not (eqb (key x) k)) xs) ≡ at_key key j xs
at_key-filter_other key k j [] n = refl
at_key-filter_other key k j (x ∷ xs) n = grind (arith, nat_tests, at_key-filter_other key k j xs n)

pub at_key-filter_same : {X : Type 0} (key : X → ℕ) (k : ℕ) (xs : List X) → at_key key k (filter (λ x. not (eqb (key x) k)) xs) ≡ None
at_key-filter_same key k [] = refl
at_key-filter_same key k (x ∷ xs) = grind (arith, nat_tests, at_key-filter_same key k xs)
