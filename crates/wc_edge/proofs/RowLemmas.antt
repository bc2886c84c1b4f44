-- Laws of the rows of links.
use Rattle.std.proofs.Common.{◌≡◌, ◌≢◌, ℕ, zero, suc, ◌+◌, ◌<◌, ◌≤◌, Bool, true, false, ◌||◌, ◌&&◌, not, cond, eqb, ◌⊎◌, inl, inr, List, [], ◌∷◌, ◌++◌, length, map, set, get_or, Option, Some, None, refl, ap, subst, sym, IsTrue, IfSome, is_some, eqb-true, ◌∙◌, arith, All}
use Rattle.std.proofs.lemmas.Grind.{common_steps}
use Rattle.std.proofs.lemmas.Bool.{cases_lt}
use Rattle.std.proofs.lemmas.Bool.Decides.{nat_tests}
use Rattle.std.specs.List.{remove}
use Rattle.std.proofs.lemmas.List.Edits.{get_or-remove_below, get_or-remove_above, length-remove}
use Rattle.std.proofs.lemmas.List.{get_or-map, get_or_default}
use Rattle.wc_outside.specs.Keyed.{at_key, put_at, IsKeyPlace, PlaceOf}
use Rattle.wc_outside.proofs.KeyedLemmas.{here, following, at_key-key, at_key-put_same, at_key-put_other}
use Rattle.wc_edge.specs.declared.rows.Row.{Row}
use Rattle.wc_edge.specs.Rows.{number_of, no_row, has, is_there, IsAscending}

ascending_after : (n : ℕ) (ns : List ℕ) → IsAscending (n ∷ ns) → IsAscending ns
ascending_after n ns h = λ i j l m. h (suc i) (suc j) (omega arith) (omega arith)

-- a row's number, among the numbers
number_at : (rows : List Row) (i : ℕ) (d : Row) → i < length rows → get_or (map number_of rows) i 0 ≡ number_of (get_or rows i d)
number_at rows i d l = get_or-map number_of rows i d 0 l

pub ordered : (rows : List Row) (i j : ℕ) (d e : Row) → IsAscending (map number_of rows) → i < j → j < length rows → number_of (get_or rows i d) < number_of (get_or rows j e)
ordered rows i j d e h l m =
    let li : i < length rows = omega arith in
    let lm : j < length (map number_of rows) = grind (arith, common_steps) in
    let a = number_at rows i d li in
    let b = number_at rows j e m in
    let k : get_or (map number_of rows) i 0 < get_or (map number_of rows) j 0 = h i j l lm in
    omega arith

none_at : (rows : List Row) (k : ℕ) → ((i : ℕ) (d : Row) → i < length rows → number_of (get_or rows i d) ≢ k) → at_key number_of k rows ≡ None
none_at [] k h = refl
none_at (r ∷ rs) k h = grind (arith, nat_tests, none_at rs k (λ i d l. h (suc i) d (omega arith)), h 0 r (omega arith))

-- in rows that ascend, a row with the number is the first one
pub placed_at : (rows : List Row) (i k : ℕ) (d : Row) → IsAscending (map number_of rows) → i < length rows → number_of (get_or rows i d) ≡ k → IsKeyPlace number_of k rows i
placed_at [] i k d a h e = absurd (omega arith)
placed_at (r ∷ rs) zero k d a h e = here number_of k r rs (grind (arith, nat_tests))
placed_at (r ∷ rs) (suc i) k d a h e =
    let less : number_of r < number_of (get_or rs i d) = ordered (r ∷ rs) 0 (suc i) d d a (omega arith) h in
    let differs : eqb (number_of r) k ≡ false = grind (arith, nat_tests) in
    following number_of k r rs i differs (placed_at rs i k d (ascending_after (number_of r) (map number_of rs) a) (omega arith) e)

pub missing_between : (rows : List Row) (low high k : ℕ) → high ≤ low
    → ((i : ℕ) (d : Row) → i < low → number_of (get_or rows i d) < k)
    → ((i : ℕ) (d : Row) → high ≤ i → i < length rows → k < number_of (get_or rows i d))
    → at_key number_of k rows ≡ None
missing_between rows low high k h below above = none_at rows k (λ i d l. grind (arith, below i d, above i d))

pub below_middle : (rows : List Row) (m n : ℕ) (e : Row) → IsAscending (map number_of rows) → m < length rows → number_of (get_or rows m e) < n → (k : ℕ) (d : Row) → k < m + 1 → number_of (get_or rows k d) < n
below_middle rows m n e a h l k d lk = grind (arith, common_steps, ordered rows k m d e a, get_or_default rows m d e h)

pub above_middle : (rows : List Row) (m n : ℕ) (e : Row) → IsAscending (map number_of rows) → m < length rows → n < number_of (get_or rows m e) → (k : ℕ) (d : Row) → m ≤ k → k < length rows → n < number_of (get_or rows k d)
above_middle rows m n e a h l k d mk lk = grind (arith, common_steps, ordered rows m k e d a, get_or_default rows m d e h)

edited-by : {X : Type 0} (p : Option Row → X) (rows : List Row) (k j : ℕ) (x y : Row) (b : Bool) → eqb j k ≡ b → number_of y ≡ k → at_key number_of k rows ≡ Some x
    → p (at_key number_of j (put_at number_of k y rows)) ≡ cond b (p (Some y)) (p (at_key number_of j rows))
edited-by p rows k j x y true e key found =
    ap p (subst (λ n. at_key number_of n (put_at number_of k y rows) ≡ Some y) (sym (eqb-true j k e)) (at_key-put_same number_of k x y rows key found))
edited-by p rows k j x y false e key found =
    let differs : j ≢ k = grind (arith, nat_tests) in
    ap p (at_key-put_other number_of k j y rows key differs)

kept_by : {X : Type 0} (p : Option Row → X) (rows : List Row) (k j : ℕ) (x y : Row) (b : Bool) → eqb j k ≡ b → p (Some y) ≡ p (Some x) → at_key number_of k rows ≡ Some x → cond b (p (Some y)) (p (at_key number_of j rows)) ≡ p (at_key number_of j rows)
kept_by p rows k j x y true e same found = same ∙ ap p (sym (subst (λ n. at_key number_of n rows ≡ Some x) (sym (eqb-true j k e)) found))
kept_by p rows k j x y false e same found = refl

-- a row was edited at its place, and kept its number
pub edited : {X : Type 0} (p : Option Row → X) (f : Row → Row) (rows : List Row) (i k : ℕ) → ((x : Row) → number_of (f x) ≡ number_of x) → IsKeyPlace number_of k rows i → (j : ℕ)
    → p (at_key number_of j (set rows i (f (get_or rows i no_row)))) ≡ cond (eqb j k) (p (Some (f (get_or rows i no_row)))) (p (at_key number_of j rows))
edited p f rows i k keeps place j =
    let x = get_or rows i no_row in
    let found : at_key number_of k rows ≡ Some x = place.found no_row in
    let key : number_of (f x) ≡ k = keeps x ∙ at_key-key number_of k rows x found in
    rw (place.put (f x)) (edited-by p rows k j x (f x) (eqb j k) refl key found)

pub edited_same : {X : Type 0} (p : Option Row → X) (f : Row → Row) (rows : List Row) (i k : ℕ) → ((x : Row) → number_of (f x) ≡ number_of x) → ((x : Row) → p (Some (f x)) ≡ p (Some x)) → IsKeyPlace number_of k rows i → (j : ℕ)
    → p (at_key number_of j (set rows i (f (get_or rows i no_row)))) ≡ p (at_key number_of j rows)
edited_same p f rows i k keeps same place j = edited p f rows i k keeps place j ∙ kept_by p rows k j (get_or rows i no_row) (f (get_or rows i no_row)) (eqb j k) refl (same (get_or rows i no_row)) (place.found no_row)

numbers_set : (rows : List Row) (i : ℕ) (y d : Row) → number_of y ≡ number_of (get_or rows i d) → map number_of (set rows i y) ≡ map number_of rows
numbers_set [] i y d e = refl
numbers_set (r ∷ rs) zero y d e = ap (λ n. n ∷ map number_of rs) e
numbers_set (r ∷ rs) (suc i) y d e = ap (λ ns. number_of r ∷ ns) (numbers_set rs i y d e)

pub numbers_edited : (f : Row → Row) (rows : List Row) (i : ℕ) → ((x : Row) → number_of (f x) ≡ number_of x) → map number_of (set rows i (f (get_or rows i no_row))) ≡ map number_of rows
numbers_edited f rows i keeps = numbers_set rows i (f (get_or rows i no_row)) no_row (keeps (get_or rows i no_row))

plain : {X : Type 0} (p : Option Row → X) (b : Bool) (y : Row) → p (Some y) ≡ p None → p (cond b (Some y) None) ≡ p None
plain p true y e = e
plain p false y e = refl

there_alone : (b : Bool) (y : Row) → has (cond b (Some y) None) ≡ false || b
there_alone true y = refl
there_alone false y = refl

push_step : {X : Type 0} (p : Option Row → X) (b : Bool) (x : Row) (o q : Option Row) → p o ≡ p q → p (cond b (Some x) o) ≡ p (cond b (Some x) q)
push_step p true x o q e = refl
push_step p false x o q e = e

-- a row was added that says nothing of a link but that it is there
pub pushed_same : {X : Type 0} (p : Option Row → X) (rows : List Row) (y : Row) → p (Some y) ≡ p None → (j : ℕ) → p (at_key number_of j (rows ++ y ∷ [])) ≡ p (at_key number_of j rows)
pushed_same p [] y e j = plain p (eqb (number_of y) j) y e
pushed_same p (r ∷ rs) y e j = push_step p (eqb (number_of r) j) r (at_key number_of j (rs ++ y ∷ [])) (at_key number_of j rs) (pushed_same p rs y e j)

there_step : (b c : Bool) (x : Row) (o q : Option Row) → has o ≡ has q || c → has (cond b (Some x) o) ≡ has (cond b (Some x) q) || c
there_step true c x o q e = refl
there_step false c x o q e = e

pub pushed_there : (rows : List Row) (y : Row) (j : ℕ) → has (at_key number_of j (rows ++ y ∷ [])) ≡ has (at_key number_of j rows) || eqb (number_of y) j
pushed_there [] y j = there_alone (eqb (number_of y) j) y
pushed_there (r ∷ rs) y j = there_step (eqb (number_of r) j) (eqb (number_of y) j) r (at_key number_of j (rs ++ y ∷ [])) (at_key number_of j rs) (pushed_there rs y j)

removed_first : (r : Row) (rs : List Row) (k j : ℕ) (b : Bool) → eqb j k ≡ b → number_of r ≡ k → at_key number_of k rs ≡ None → at_key number_of j rs ≡ cond b None (at_key number_of j (r ∷ rs))
removed_first r rs k j true e key none = subst (λ n. at_key number_of n rs ≡ None) (sym (eqb-true j k e)) none
removed_first r rs k j false e key none = grind (arith, nat_tests)

removed_after : (r : Row) (ms rs : List Row) (k j : ℕ) → number_of r < k → at_key number_of j ms ≡ cond (eqb j k) None (at_key number_of j rs) → at_key number_of j (r ∷ ms) ≡ cond (eqb j k) None (at_key number_of j (r ∷ rs))
removed_after r ms rs k j l e = grind (arith, nat_tests)

removed : (rows : List Row) (i k j : ℕ) (d : Row) → IsAscending (map number_of rows) → i < length rows → number_of (get_or rows i d) ≡ k → at_key number_of j (remove rows i) ≡ cond (eqb j k) None (at_key number_of j rows)
removed [] i k j d a h e = absurd (omega arith)
removed (r ∷ rs) zero k j d a h e =
    let none : at_key number_of k rs ≡ None = none_at rs k (λ i f l. let o : number_of r < number_of (get_or rs i f) = ordered (r ∷ rs) 0 (suc i) f f a (omega arith) (omega arith) in omega arith) in
    removed_first r rs k j (eqb j k) refl e none
removed (r ∷ rs) (suc i) k j d a h e =
    let less : number_of r < number_of (get_or rs i d) = ordered (r ∷ rs) 0 (suc i) d d a (omega arith) h in
    let more = removed rs i k j d (ascending_after (number_of r) (map number_of rs) a) (omega arith) e in
    removed_after r (remove rs i) rs k j (omega arith) more

numbers_remove : (rows : List Row) (i : ℕ) → map number_of (remove rows i) ≡ remove (map number_of rows) i
numbers_remove [] zero = refl
numbers_remove [] (suc i) = refl
numbers_remove (r ∷ rs) zero = refl
numbers_remove (r ∷ rs) (suc i) = ap (λ ns. number_of r ∷ ns) (numbers_remove rs i)

-- the number that is at k once the one at i is removed
without_at : (ns : List ℕ) (i k : ℕ) → i < length ns → ((k < i) × (get_or (remove ns i) k 0 ≡ get_or ns k 0)) ⊎ ((i ≤ k) × (get_or (remove ns i) k 0 ≡ get_or ns (k + 1) 0))
without_at ns i k l = elim (cases_lt k i) [ inl h ↦ inl (h, get_or-remove_below ns i 0 k h l) | inr h ↦ inr (h, get_or-remove_above ns i 0 k h l) ]

ascending_without : (ns : List ℕ) (i : ℕ) → i < length ns → IsAscending ns → IsAscending (remove ns i)
ascending_without ns i l h = λ a b m k.
    let n = length-remove ns i l in
    elim (without_at ns i a l) [
      | inl p ↦ elim (without_at ns i b l) [ inl q ↦ omega (arith, p, q, h a b (omega arith) (omega arith)) | inr q ↦ omega (arith, p, q, h a (b + 1) (omega arith) (omega arith)) ]
      | inr p ↦ elim (without_at ns i b l) [ inl q ↦ absurd (omega (arith, p, q)) | inr q ↦ omega (arith, p, q, h (a + 1) (b + 1) (omega arith) (omega arith)) ]
    ]

below_without : (ns : List ℕ) (i u : ℕ) → i < length ns → All (λ n. n ≤ u) ns → All (λ n. n ≤ u) (remove ns i)
below_without ns i u l h = λ k d m.
    let n = length-remove ns i l in
    elim (cases_lt k i) [
      | inl p ↦ rw (get_or-remove_below ns i d k p l) (h k d (omega arith))
      | inr p ↦ rw (get_or-remove_above ns i d k p l) (h (k + 1) d (omega arith))
    ]

pub ascending_remove : (rows : List Row) (i : ℕ) → i < length rows → IsAscending (map number_of rows) → IsAscending (map number_of (remove rows i))
ascending_remove rows i l h = rw (numbers_remove rows i) (ascending_without (map number_of rows) i (grind (arith, common_steps)) h)

pub below_remove : (rows : List Row) (i u : ℕ) → i < length rows → All (λ n. n ≤ u) (map number_of rows) → All (λ n. n ≤ u) (map number_of (remove rows i))
below_remove rows i u l h = rw (numbers_remove rows i) (below_without (map number_of rows) i u (grind (arith, common_steps)) h)

gone : (p : Option Row → Bool) → p None ≡ false → (b v : Bool) (o : Option Row) → p o ≡ v → p (cond b None o) ≡ p o && not b
gone p e true true o h = rw (e, h) refl
gone p e true false o h = rw (e, h) refl
gone p e false true o h = rw h refl
gone p e false false o h = rw h refl

-- a row was removed at its place
pub removed_part : (p : Option Row → Bool) → p None ≡ false → (rows : List Row) (i k : ℕ) → IsAscending (map number_of rows) → IsKeyPlace number_of k rows i → (j : ℕ)
    → p (at_key number_of j (remove rows i)) ≡ p (at_key number_of j rows) && not (eqb j k)
removed_part p e rows i k a place j =
    let key : number_of (get_or rows i no_row) ≡ k = at_key-key number_of k rows (get_or rows i no_row) (place.found no_row) in
    ap p (removed rows i k j no_row a place.inside key) ∙ gone p e (eqb j k) (p (at_key number_of j rows)) (at_key number_of j rows) refl

-- a link that has a place is there
pub placed_there : (rows : List Row) (k : ℕ) (r : Option ℕ) → PlaceOf number_of k rows r → IfSome r (λ place. IsTrue (is_there rows k))
placed_there rows k None p = tt
placed_there rows k (Some place) p = ap has (p.found no_row)

-- only a link that has a place is there
pub placed_alone : (rows : List Row) (k : ℕ) (r : Option ℕ) → PlaceOf number_of k rows r → is_there rows k ≡ is_some r
placed_alone rows k None p = ap has p
placed_alone rows k (Some place) p = ap has (p.found no_row)
