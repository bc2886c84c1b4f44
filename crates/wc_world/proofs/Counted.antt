-- The rows of all nicklists, counted as one nicklist changes.
use Rattle.std.proofs.Common.{◌≡◌, ℕ, ◌+◌, Bool, true, false, cond, ◌&&◌, List, [], ◌∷◌, length, Option, Some, None, unwrap_or, refl, ap, sym, subst, ◌∙◌, arith, eqb, eq-eqb, eqb-true}
use Rattle.std.specs.Prelude.{T}
use Rattle.std.specs.FinMap.{FinMap, get, insert, remove, entries, find, put, is_sorted, entries_sorted, entries-insert, get-entries, get-insert, get-remove}
use Rattle.std.specs.FinMap.Entries.{by_order, below_all}
use Rattle.std.specs.Ordering.{nat_cmp, eq_by_cmp, is_lt, is_eq}
use Rattle.std.specs.Cmp.{nat_cmp_total}
use Rattle.std.specs.declared.cmp.Ordering.{Ordering}
use Rattle.std.specs.declared.cmp.Ordering.TheVariants.{Less, Equal, Greater}
use Rattle.wc_nicklist.specs.declared.item.Row.{Row}
use Rattle.wc_model.specs.World.{count_rows}
use Rattle.wc_buffers.proofs.GroupLaws.{by_bool}
use Rattle.wc_world.proofs.MapLemmas.{tied, alike}

abbrev pub Lists : Type 0
Lists = FinMap nat_cmp (List Row)

-- the rows of a nicklist that may not be there
abbrev pub some_rows : Option (List Row) → List Row
some_rows o = unwrap_or o []

first : (a b : Bool) → T (a && b) → T a
first true b p = tt
first false b p = p

second : (a b : Bool) → T (a && b) → T b
second true b p = p
second false b p = absurd p

both : (a b : Bool) → T a → T b → T (a && b)
both true b p q = q
both false b p q = p

less : (o : Ordering) → T (is_lt o) → o ≡ Less
less Less p = refl
less Equal p = absurd p
less Greater p = absurd p

below_less : (x y : ℕ) (es : List (ℕ × List Row)) → nat_cmp x y ≡ Less → T (below_all nat_cmp y es) → T (below_all nat_cmp x es)
below_less x y [] p h = tt
below_less x y (e ∷ es) p h = both _ _ (subst (λ r. T (is_lt r)) (sym (nat_cmp_total.trans x y e.0 p (less _ (first _ _ h)))) tt) (below_less x y es p (second _ _ h))

find_below : (q : ℕ) (es : List (ℕ × List Row)) → T (below_all nat_cmp q es) → find nat_cmp q es ≡ None
find_below q [] h = refl
find_below q (e ∷ es) h = ap (λ r. cond (is_eq r) (Some e.1) (find nat_cmp q es)) (less _ (first _ _ h)) ∙ find_below q es (second _ _ h)

count-put : (k : ℕ) (v : List Row) (es : List (ℕ × List Row)) → T (is_sorted nat_cmp es) → count_rows (put nat_cmp k v es) + length (some_rows (find nat_cmp k es)) ≡ count_rows es + length v
count-put k v [] h = omega arith
count-put k v (e ∷ es) h =
    elim (nat_cmp k e.0) as (λ r. nat_cmp k e.0 ≡ r → count_rows (by_order r ((k, v) ∷ e ∷ es) ((e.0, v) ∷ es) (e ∷ put nat_cmp k v es)) + length (some_rows (cond (is_eq r) (Some e.1) (find nat_cmp k es))) ≡ (length e.1 + count_rows es) + length v) [
      | Less ↦ λ p. subst (λ o. (length v + (length e.1 + count_rows es)) + length (some_rows o) ≡ (length e.1 + count_rows es) + length v) (sym (find_below k es (below_less k e.0 es p (first _ _ h)))) (omega arith)
      | Equal ↦ λ p. omega arith
      | Greater ↦ λ p. (let rest : count_rows (put nat_cmp k v es) + length (some_rows (find nat_cmp k es)) ≡ count_rows es + length v = count-put k v es (second _ _ h) in omega arith)
    ] refl

pub count-insert : (m : Lists) (k : ℕ) (v : List Row) → count_rows (entries (insert m k v)) + length (some_rows (get m k)) ≡ count_rows (entries m) + length v
count-insert m k v =
    (λ i. count_rows (entries-insert nat_cmp_total m k v i) + length (some_rows (get-entries m k i)))
    ∙ count-put k v (entries m) (entries_sorted m)

own_key : (k : ℕ) → eq_by_cmp nat_cmp k k ≡ true
own_key k = tied k k ∙ eq-eqb k k refl

-- a nicklist that is taken out and put in again
put_back : (m : Lists) (k : ℕ) (v : List Row) → get m k ≡ Some v → insert (remove m k) k v ≡ m
put_back m k v e = alike (insert (remove m k) k v) m each
  where
    here : (q : ℕ) → eq_by_cmp nat_cmp q k ≡ eqb q k → cond (eq_by_cmp nat_cmp q k) (Some v) (cond (eq_by_cmp nat_cmp q k) None (get m q)) ≡ get m q
    here q t = by_bool (eqb q k) _
        (λ s. rw (t, s) (sym e ∙ ap (get m) (sym (eqb-true q k s))))
        (λ s. rw (t, s) refl)

    each : (q : ℕ) → get (insert (remove m k) k v) q ≡ get m q
    each q =
        get-insert nat_cmp_total (remove m k) k v q
        ∙ ap (cond (eq_by_cmp nat_cmp q k) (Some v)) (get-remove nat_cmp_total m k q)
        ∙ here q (tied q k)

not_there : (m : Lists) (k : ℕ) → get m k ≡ None → remove m k ≡ m
not_there m k e = alike (remove m k) m (λ q. get-remove nat_cmp_total m k q ∙ here q (tied q k))
  where
    here : (q : ℕ) → eq_by_cmp nat_cmp q k ≡ eqb q k → cond (eq_by_cmp nat_cmp q k) None (get m q) ≡ get m q
    here q t = by_bool (eqb q k) _
        (λ s. rw (t, s) (sym e ∙ ap (get m) (sym (eqb-true q k s))))
        (λ s. rw (t, s) refl)

pub count-remove : (m : Lists) (k : ℕ) → count_rows (entries (remove m k)) + length (some_rows (get m k)) ≡ count_rows (entries m)
count-remove m k = by (get m k) refl
  where
    by : (o : Option (List Row)) → get m k ≡ o → count_rows (entries (remove m k)) + length (some_rows (get m k)) ≡ count_rows (entries m)
    by None e = (λ i. count_rows (entries (not_there m k e i)) + length (some_rows (e i))) ∙ (let n : ℕ = count_rows (entries m) in let z : n + 0 ≡ n = omega arith in z)
    by (Some v) e =
        let gone : get (remove m k) k ≡ None = get-remove nat_cmp_total m k k ∙ ap (λ b. cond b None (get m k)) (own_key k) in
        let put : count_rows (entries (insert (remove m k) k v)) + length (some_rows (get (remove m k) k)) ≡ count_rows (entries (remove m k)) + length v = count-insert (remove m k) k v in
        let back : count_rows (entries m) + 0 ≡ count_rows (entries (remove m k)) + length v = sym (λ i. count_rows (entries (put_back m k v e i)) + length (some_rows (gone i))) ∙ put in
        ap (λ o. count_rows (entries (remove m k)) + length (some_rows o)) e ∙ (omega (arith, back))
