-- A list of rows that were sorted is the list in order that has the same rows.
use Rattle.std.proofs.Common.{◌≡◌, ℕ, zero, suc, ◌+◌, ◌<◌, ◌≤◌, true, false, cond, Option, Some, None, List, [], ◌∷◌, length, get_or, refl, sym, ap, ◌∙◌, subst, arith}
use Rattle.std.specs.List.{Contains, sum_by}
use Rattle.std.specs.Cmp.{IsStrictWeakOrder}
use Rattle.std.specs.List.Sorted.{IsPermutation, IsSortedBy}
use Rattle.std.proofs.lemmas.Cmp.{lists_total}
use Rattle.std.proofs.lemmas.List.MinMax.{ranks_by}
use Rattle.std.proofs.lemmas.Bool.{true≢false}
use Rattle.std.proofs.lemmas.List.Recursion.{is_sum_by}
use Rattle.std.proofs.lemmas.List.Sorted.{Contains-permutation, IsPermutation-sym, sum_by-IsPermutation}
use Rattle.wc_nicklist.specs.declared.item.Key.{Key}
use Rattle.wc_nicklist.specs.declared.item.Row.{Row}
use Rattle.wc_nicklist.specs.Order.{key, address, address_cmp, before}
use Rattle.wc_nicklist.specs.Rows.{key_eq, find_row, AllAfter, Ascending, Keyed}
use Rattle.wc_nicklist.proofs.OrderLaws.{by_bool, key_total, key_eq-true, key_eq-same, before_chain, before_other}
use Rattle.wc_nicklist.proofs.RowLaws.{find_key, key_eq-at, same_rows}
use Rattle.wc_nicklist.proofs.Held.{by_row}
use Rattle.wc_nickdiff.proofs.Split.{one_row, no_row}

-- the order of rows is one that a sort can go by
pub before_ranks : IsStrictWeakOrder before
unfolding before address_cmp
before_ranks = ranks_by (lists_total key_total) address

-- how often a key is
abbrev one : Key → Row → ℕ
one k r = cond (key_eq (key r) k) 1 0

abbrev times : Key → List Row → ℕ
times k [] = 0
times k (x ∷ xs) = one k x + times k xs

times_sum : (k : Key) (xs : List Row) → times k xs ≡ sum_by (one k) xs
times_sum k xs = is_sum_by (times k) (one k) refl (λ x xs. refl) xs

none_times : (k : Key) (xs : List Row) → times k xs ≡ 0 → find_row k xs ≡ None
none_times k [] e = refl
none_times k (x ∷ xs) e = by_bool (key_eq (key x) k) _
    (λ t. absurd (let i : 1 + times k xs ≡ 0 = rw t at e in omega arith))
    (λ t. rw t (none_times k xs (let i : 0 + times k xs ≡ 0 = rw t at e in omega arith)))

times_none : (k : Key) (xs : List Row) → find_row k xs ≡ None → times k xs ≡ 0
times_none k [] e = refl
times_none k (x ∷ xs) e = by_bool (key_eq (key x) k) _
    (λ t. no_row x (rw t at e))
    (λ t. rw t (let i = times_none k xs (rw t at e) in omega arith))

keyed_times : (xs : List Row) → Keyed xs → (k : Key) → times k xs ≤ 1
keyed_times [] kd k = omega arith
keyed_times (x ∷ xs) kd k = by_bool (key_eq (key x) k) _
    (λ t. rw t (let i = times_none k xs (ap (λ z. find_row z xs) (sym (key_eq-true _ _ t)) ∙ kd.0) in omega arith))
    (λ t. rw t (let i = keyed_times xs kd.1 k in omega arith))

times_keyed : (xs : List Row) → ((k : Key) → times k xs ≤ 1) → Keyed xs
times_keyed [] h = tt
times_keyed (x ∷ xs) h = (
  none_times (key x) xs (let i = h (key x) in let t = key_eq-same (key x) in let j : 1 + times (key x) xs ≤ 1 = rw t at i in omega arith),
  times_keyed xs (λ k. let i = h k in omega arith),
)

-- what is there is found, and what is found is there
there_found : (xs : List Row) (n : ℕ) (r : Row) → n < length xs → get_or xs n r ≡ r → Keyed xs → find_row (key r) xs ≡ Some r
there_found [] n r l e kd = absurd (omega arith)
there_found (x ∷ xs) zero r l e kd = let t : key_eq (key x) (key r) ≡ true = key_eq-at (key x) (key r) (ap key e) in rw t (ap Some e)
there_found (x ∷ xs) (suc n) r l e kd =
    let more = there_found xs n r (omega arith) e kd.1 in
    by_bool (key_eq (key x) (key r)) _
    (λ t. no_row r (sym more ∙ ap (λ z. find_row z xs) (sym (key_eq-true _ _ t)) ∙ kd.0))
    (λ t. rw t more)

found_there : (k : Key) (xs : List Row) (r : Row) → find_row k xs ≡ Some r → (n : ℕ) × (n < length xs) × (get_or xs n r ≡ r)
found_there k [] r e = absurd cc
found_there k (x ∷ xs) r e = by_bool (key_eq (key x) k) _
    (λ t. (0, omega arith, one_row x r (rw t at e)))
    (λ t. let m = found_there k xs r (rw t at e) in (suc m.0, omega (arith, m.1), m.2))

moved : (xs ys : List Row) (k : Key) (r : Row) → IsPermutation xs ys → Keyed ys → find_row k xs ≡ Some r → find_row k ys ≡ Some r
moved xs ys k r p kd e =
    let c : Contains ys r = Contains-permutation xs ys r p (found_there k xs r e) in
    ap (λ z. find_row z ys) (sym (find_key k xs r e)) ∙ there_found ys c.0 r c.1 c.2 kd

same_found : (xs ys : List Row) (k : Key) → IsPermutation xs ys → Keyed xs → Keyed ys → find_row k ys ≡ find_row k xs
same_found xs ys k p kx ky = by_row (find_row k xs) _
    (λ n. by_row (find_row k ys) _
    (λ m. m ∙ sym n)
    (λ r m. no_row r (sym (moved ys xs k r (IsPermutation-sym xs ys p) kx m) ∙ n)))
    (λ r n. moved xs ys k r p ky n ∙ sym n)

-- sorted rows with different keys are in order
tail_sorted : (x : Row) (xs : List Row) → IsSortedBy before (x ∷ xs) → IsSortedBy before xs
tail_sorted x xs h k d z l =
    let e : suc k + 1 ≡ suc (k + 1) = omega arith in
    let i = h (suc k) d (omega arith) (omega arith) in
    subst (λ m. before (get_or (x ∷ xs) m d) (get_or xs k d) ≡ false) e i

after_chain : (a b : Row) (rows : List Row) → before a b ≡ true → AllAfter b rows → AllAfter a rows
after_chain a b [] t h = tt
after_chain a b (y ∷ ys) t h = (before_chain a b y t h.0, after_chain a b ys t h.1)

in_order : (xs : List Row) → IsSortedBy before xs → Keyed xs → Ascending xs
in_order [] h kd = tt
in_order (x ∷ []) h kd = (tt, tt)
in_order (x ∷ y ∷ ys) h kd =
    let rest = in_order (y ∷ ys) (tail_sorted x (y ∷ ys) h) kd.1 in
    let none : find_row (key x) (y ∷ ys) ≡ None = kd.0 in
    let other : key y ≡ key x → ⊥ = λ e. (let t = key_eq-at (key y) (key x) e in no_row y (rw t at none)) in
    let b : before x y ≡ true = before_other y x (h 0 x (omega arith) (omega arith)) other in
    ((b, after_chain x y ys b rest.0), rest)

pub sorted_is : (xs ys zs : List Row) → IsPermutation xs ys → IsSortedBy before ys → Keyed xs → Ascending zs → Keyed zs → ((k : Key) → find_row k xs ≡ find_row k zs) → ys ≡ zs
sorted_is xs ys zs p s kx az kz h =
    let ky : Keyed ys = times_keyed ys (λ k. subst (λ n. n ≤ 1) (times_sum k xs ∙ sym (sum_by-IsPermutation (one k) xs ys p) ∙ sym (times_sum k ys)) (keyed_times xs kx k)) in
    same_rows ys zs (in_order ys s ky) ky az kz (λ k. same_found xs ys k p kx ky ∙ h k)
