-- Further laws of lists whose elements go by a key.
use Rattle.std.proofs.Common.{◌≡◌, ◌≢◌, ℕ, ◌+◌, ◌≤◌, Bool, true, false, cond, eqb, List, [], ◌∷◌, ◌++◌, length, map, Option, Some, None, IsSome, is_some, ◌||◌, refl, sym, ap, ◌∙◌, arith}
use Rattle.std.proofs.lemmas.Bool.{false≢true}
use Rattle.std.proofs.lemmas.Bool.Decides.{nat_tests}
use Rattle.wc_outside.specs.Keyed.{at_key, put_at, without}
use Rattle.wc_core.specs.Served.{Absent, Distinct}
pub use Rattle.wc_outside.proofs.KeyedLemmas.{PlaceOf-position, at_key-key, put_at-same, at_key-put_other, at_key-put_same, at_key-push_other, at_key-filter_other, at_key-filter_same}

-- what is missing stays missing
pub at_key-without_none : {X : Type 0} (key : X → ℕ) (k j : ℕ) (xs : List X) → at_key key j xs ≡ None → at_key key j (without key k xs) ≡ None
at_key-without_none key k j [] h = refl
at_key-without_none key k j (x ∷ xs) h = missing-without-by key k j x xs (eqb (key x) j) refl (eqb (key x) k) refl (at_key-without_none key k j xs) h
  where
    missing-without-by : {X : Type 0} (key : X → ℕ) (k j : ℕ) (x : X) (xs : List X) (b : Bool) → eqb (key x) j ≡ b → (d : Bool) → eqb (key x) k ≡ d
        → (at_key key j xs ≡ None → at_key key j (without key k xs) ≡ None) → at_key key j (x ∷ xs) ≡ None → at_key key j (without key k (x ∷ xs)) ≡ None
    missing-without-by key k j x xs true e d f ih h = let q = rw e at h in cc
    missing-without-by key k j x xs false e true f ih h = rw f (ih (rw e at h))
    missing-without-by key k j x xs false e false f ih h = rw (f, e) (ih (rw e at h))

pub at_key-put_none : {X : Type 0} (key : X → ℕ) (k j : ℕ) (y : X) (xs : List X) → key y ≡ k → at_key key j xs ≡ None → at_key key j (put_at key k y xs) ≡ None
at_key-put_none key k j y [] e h = refl
at_key-put_none key k j y (x ∷ xs) e h = grind (arith, nat_tests, at_key-put_none key k j y xs e)

-- an element that is put in the place of one that is taken out
pub without-put_at : {X : Type 0} (key : X → ℕ) (k : ℕ) (y : X) (xs : List X) → key y ≡ k → without key k (put_at key k y xs) ≡ without key k xs
without-put_at key k y [] e = refl
without-put_at key k y (x ∷ xs) e = grind (arith, nat_tests, without-put_at key k y xs e)

pub without-missing : {X : Type 0} (key : X → ℕ) (k : ℕ) (xs : List X) → at_key key k xs ≡ None → without key k xs ≡ xs
without-missing key k [] h = refl
without-missing key k (x ∷ xs) h = grind (arith, nat_tests, without-missing key k xs)

pub length-without_le : {X : Type 0} (key : X → ℕ) (k : ℕ) (xs : List X) → length (without key k xs) ≤ length xs
length-without_le key k [] = omega arith
length-without_le key k (x ∷ xs) = grind (arith, nat_tests, length-without_le key k xs)

fewer-by : {X : Type 0} (key : X → ℕ) (k : ℕ) (x : X) (xs : List X) (b : Bool) → eqb (key x) k ≡ b → (IsSome (at_key key k xs) → length (without key k xs) + 1 ≤ length xs)
    → IsSome (cond b (Some x) (at_key key k xs)) → length (without key k (x ∷ xs)) + 1 ≤ length (x ∷ xs)
fewer-by key k x xs true e f s = rw e (let most = length-without_le key k xs in omega arith)
fewer-by key k x xs false e f s = rw e (let most = f s in omega arith)

pub some_of : {X : Type 0} (o : Option X) → is_some o ≡ true → IsSome o
some_of (Some x) e = e
some_of None e = absurd (false≢true e)

-- taking an element out leaves fewer
pub length-without : {X : Type 0} (key : X → ℕ) (k : ℕ) (xs : List X) → IsSome (at_key key k xs) → length (without key k xs) + 1 ≤ length xs
length-without key k [] h = absurd (false≢true h)
length-without key k (x ∷ xs) h = fewer-by key k x xs (eqb (key x) k) refl (length-without key k xs) h

pub at_key-push_same : {X : Type 0} (key : X → ℕ) (y : X) (xs : List X) → at_key key (key y) xs ≡ None → at_key key (key y) (xs ++ y ∷ []) ≡ Some y
at_key-push_same key y [] h = grind (arith, nat_tests)
at_key-push_same key y (x ∷ xs) h = grind (arith, nat_tests, at_key-push_same key y xs)

-- the keys of what is left
pub map-without : {X Y : Type 0} (key : X → ℕ) (other : Y → ℕ) (k : ℕ) (xs : List X) (ys : List Y) → map key xs ≡ map other ys → map key (without key k xs) ≡ map other (without other k ys)
map-without key other k [] [] e = refl
map-without key other k [] (y ∷ ys) e = cc
map-without key other k (x ∷ xs) [] e = cc
map-without key other k (x ∷ xs) (y ∷ ys) e =
    let head : key x ≡ other y = cc in
    let tail : map key xs ≡ map other ys = cc in
    grind (arith, nat_tests, map-without key other k xs ys tail)

pub map-put_at : {X : Type 0} (key : X → ℕ) (k : ℕ) (y : X) (xs : List X) → key y ≡ k → map key (put_at key k y xs) ≡ map key xs
map-put_at key k y [] e = refl
map-put_at key k y (x ∷ xs) e = grind (arith, nat_tests, map-put_at key k y xs e)

pub or-false : (b : Bool) → (b || false) ≡ b
or-false true = refl
or-false false = refl

pub or-true : (b : Bool) → (b || true) ≡ true
or-true true = refl
or-true false = refl

-- what is put in a place is there where something was
pub is_some-put_at : {X : Type 0} (key : X → ℕ) (k j : ℕ) (y : X) (xs : List X) → key y ≡ k → is_some (at_key key j (put_at key k y xs)) ≡ is_some (at_key key j xs)
is_some-put_at key k j y [] e = refl
is_some-put_at key k j y (x ∷ xs) e = grind (arith, nat_tests, is_some-put_at key k j y xs e)

pub is_some-push : {X : Type 0} (key : X → ℕ) (j : ℕ) (y : X) (xs : List X) → is_some (at_key key j (xs ++ y ∷ [])) ≡ (is_some (at_key key j xs) || eqb (key y) j)
is_some-push key j y [] = grind (arith, nat_tests)
is_some-push key j y (x ∷ xs) = grind (arith, nat_tests, is_some-push key j y xs)

pub none_of : {X : Type 0} (o : Option X) → is_some o ≡ false → o ≡ None
none_of None e = refl
none_of (Some x) e = absurd (false≢true (sym e))

-- the same keys are there where the lists of keys are the same
pub same-keys : {X : Type 0} (key : X → ℕ) (k : ℕ) (xs ys : List X) → map key xs ≡ map key ys → is_some (at_key key k xs) ≡ is_some (at_key key k ys)
same-keys key k [] [] e = refl
same-keys key k [] (y ∷ ys) e = cc
same-keys key k (x ∷ xs) [] e = cc
same-keys key k (x ∷ xs) (y ∷ ys) e =
    let head : key x ≡ key y = cc in
    let tail : map key xs ≡ map key ys = cc in
    grind (arith, nat_tests, same-keys key k xs ys tail)

-- ---- no key is that of two elements

absent-without : {X : Type 0} (key : X → ℕ) (n k : ℕ) (xs : List X) → Absent n (map key xs) → Absent n (map key (without key k xs))
absent-without key n k [] h = tt
absent-without key n k (x ∷ xs) h = absent-by (eqb (key x) k) refl (absent-without key n k xs h.1)
  where
    absent-by : (t : Bool) → eqb (key x) k ≡ t → Absent n (map key (without key k xs)) → Absent n (map key (without key k (x ∷ xs)))
    absent-by true e ih = rw e ih
    absent-by false e ih = rw e (h.0, ih)

pub distinct-without : {X : Type 0} (key : X → ℕ) (k : ℕ) (xs : List X) → Distinct (map key xs) → Distinct (map key (without key k xs))
distinct-without key k [] h = tt
distinct-without key k (x ∷ xs) h = distinct-by (eqb (key x) k) refl (distinct-without key k xs h.1)
  where
    distinct-by : (t : Bool) → eqb (key x) k ≡ t → Distinct (map key (without key k xs)) → Distinct (map key (without key k (x ∷ xs)))
    distinct-by true e ih = rw e ih
    distinct-by false e ih = rw e (absent-without key (key x) k xs h.0, ih)

-- a new key is none of those that are there
pub absent-missing : {X : Type 0} (key : X → ℕ) (n : ℕ) (xs : List X) → at_key key n xs ≡ None → Absent n (map key xs)
absent-missing key n [] h = tt
absent-missing key n (x ∷ xs) h = missing-by (eqb (key x) n) refl (absent-missing key n xs)
  where
    missing-by : (t : Bool) → eqb (key x) n ≡ t → (at_key key n xs ≡ None → Absent n (map key xs)) → Absent n (map key (x ∷ xs))
    missing-by true e ih = absurd (let q : Some x ≡ None = rw e at h in cc)
    missing-by false e ih = ((λ q. grind (arith, nat_tests)), ih (rw e at h))

absent-push : (n m : ℕ) (ns : List ℕ) → Absent n ns → (m ≡ n → ⊥) → Absent n (ns ++ m ∷ [])
absent-push n m [] h other = (other, tt)
absent-push n m (x ∷ ns) h other = (h.0, absent-push n m ns h.1 other)

pub distinct-push : (m : ℕ) (ns : List ℕ) → Distinct ns → Absent m ns → Distinct (ns ++ m ∷ [])
distinct-push m [] d h = (tt, tt)
distinct-push m (n ∷ ns) d h = (absent-push n m ns d.0 (λ q. h.0 (sym q)), distinct-push m ns d.1 h.1)

pub map-push : {X : Type 0} (key : X → ℕ) (xs : List X) (y : X) → map key (xs ++ y ∷ []) ≡ map key xs ++ key y ∷ []
map-push key [] y = refl
map-push key (x ∷ xs) y = ap (λ ns. key x ∷ ns) (map-push key xs y)

-- what is at a key is no other element's
pub absent-there : {X : Type 0} (key : X → ℕ) (n k : ℕ) (xs : List X) → Absent n (map key xs) → is_some (at_key key k xs) ≡ true → n ≢ k
absent-there key n k [] absent there = λ q. false≢true there
absent-there key n k (x ∷ xs) absent there = there-by (eqb (key x) k) refl (absent-there key n k xs absent.1)
  where
    there-by : (t : Bool) → eqb (key x) k ≡ t → (is_some (at_key key k xs) ≡ true → n ≢ k) → n ≢ k
    there-by true e ih = λ q. absent.0 (let here : key x ≡ k = grind (arith, nat_tests) in here ∙ sym q)
    there-by false e ih = ih (rw e at there)
