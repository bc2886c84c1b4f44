-- What is found after an edit, and that edits keep the order.
use Rattle.std.proofs.Common.{◌≡◌, ℕ, Bool, true, false, cond, Option, Some, None, List, [], ◌∷◌, refl, sym, ap, ◌∙◌}
use Rattle.std.proofs.lemmas.Bool.{true≢false}
use Rattle.wc_nicklist.specs.declared.item.Key.{Key}
use Rattle.wc_nicklist.specs.declared.item.Row.{Row}
use Rattle.wc_nicklist.specs.Order.{key, key_at, before}
use Rattle.wc_nicklist.specs.Rows.{key_eq, find_row, remove_row, insert_row, replace_row, AllAfter, Ascending, Keyed}
use Rattle.wc_nicklist.proofs.OrderLaws.{key_eq-true, key_eq-same, key_eq-other, before_chain, before_one_way, before_other, before_like, before_like_left, by_bool}

pub key_eq-back : (a b : Key) → key_eq a b ≡ false → key_eq b a ≡ false
key_eq-back a b e = key_eq-other b a (λ i. true≢false (sym (key_eq-same a) ∙ ap (key_eq a) (sym i) ∙ e))

pub key_eq-at : (a b : Key) → a ≡ b → key_eq a b ≡ true
key_eq-at a b e = ap (key_eq a) (sym e) ∙ key_eq-same a

pub find_key : (k : Key) (rows : List Row) (r : Row) → find_row k rows ≡ Some r → key r ≡ k
find_key k [] r e = absurd cc
find_key k (x ∷ xs) r e = by_bool (key_eq (key x) k) _
    (λ t. let i : Some x ≡ Some r = rw t at e in let j : x ≡ r = cc in ap key (sym j) ∙ key_eq-true _ _ t)
    (λ t. find_key k xs r (rw t at e))

pub found_by_name : (rows : List Row) (r : Row) (g : Bool) (name : List ℕ) → find_row (key_at g name) rows ≡ Some r → find_row (key_at g r.item.name) rows ≡ Some r
found_by_name rows r g name e = ap (λ k. find_row (key_at g k.name) rows) (find_key (key_at g name) rows r e) ∙ e

-- what is found
pub find-remove : (k q : Key) (rows : List Row) → find_row q (remove_row k rows) ≡ cond (key_eq k q) None (find_row q rows)
find-remove k q [] = elim (key_eq k q) as (λ b. None ≡ cond {A = Option Row} b None None) [ true ↦ refl | false ↦ refl ]
find-remove k q (x ∷ xs) = by_bool (key_eq (key x) k) _
    (λ t. rw (t, find-remove k q xs) (by_bool (key_eq k q) _
    (λ s. rw s refl)
    (λ s. let i : key_eq (key x) q ≡ false = ap (λ z. key_eq z q) (key_eq-true _ _ t) ∙ s in rw (s, i) refl)))
    (λ t. rw (t, find-remove k q xs) (by_bool (key_eq (key x) q) _
    (λ s. let i : key_eq k q ≡ false = ap (key_eq k) (sym (key_eq-true _ _ s)) ∙ key_eq-back _ _ t in rw (s, i) refl)
    (λ s. rw s refl)))

pub find-insert : (r : Row) (q : Key) (rows : List Row) → find_row (key r) rows ≡ None → find_row q (insert_row r rows) ≡ cond (key_eq (key r) q) (Some r) (find_row q rows)
find-insert r q [] e = refl
find-insert r q (x ∷ xs) e = by_bool (before r x) _
    (λ t. rw t refl)
    (λ t. by_bool (key_eq (key x) (key r)) _
    (λ s. absurd (let i : Some x ≡ None = rw s at e in cc))
    (λ s. let i : find_row (key r) xs ≡ None = rw s at e in
    rw (t, find-insert r q xs i) (by_bool (key_eq (key x) q) _
    (λ u. let j : key_eq (key r) q ≡ false = ap (key_eq (key r)) (sym (key_eq-true _ _ u)) ∙ key_eq-back _ _ s in rw (u, j) refl)
    (λ u. rw u refl))))

pub absent_kept : (r : Row) (rows : List Row) → find_row (key r) rows ≡ None → replace_row r rows ≡ rows
absent_kept r [] e = refl
absent_kept r (x ∷ xs) e = by_bool (key_eq (key x) (key r)) _
    (λ s. absurd (let i : Some x ≡ None = rw s at e in cc))
    (λ s. rw s (ap (λ l. x ∷ l) (absent_kept r xs (rw s at e))))

pub find-replace : (r s : Row) (q : Key) (rows : List Row) → find_row (key r) rows ≡ Some s → find_row q (replace_row r rows) ≡ cond (key_eq (key r) q) (Some r) (find_row q rows)
find-replace r s q [] e = absurd cc
find-replace r s q (x ∷ xs) e = by_bool (key_eq (key x) (key r)) _
    (λ t. by_bool (key_eq (key r) q) _
    (λ u. rw (t, u) refl)
    (λ u. let i : key_eq (key x) q ≡ false = ap (λ z. key_eq z q) (key_eq-true _ _ t) ∙ u in rw (t, u, i) (other xs u)))
    (λ t. rw (t, find-replace r s q xs (rw t at e)) (by_bool (key_eq (key x) q) _
    (λ u. let j : key_eq (key r) q ≡ false = ap (key_eq (key r)) (sym (key_eq-true _ _ u)) ∙ key_eq-back _ _ t in rw (u, j) refl)
    (λ u. rw u refl)))
  where
    other : (ys : List Row) → key_eq (key r) q ≡ false → find_row q (replace_row r ys) ≡ find_row q ys
    other [] u = refl
    other (y ∷ ys) u = by_bool (key_eq (key y) (key r)) _
        (λ t. let i : key_eq (key y) q ≡ false = ap (λ z. key_eq z q) (key_eq-true _ _ t) ∙ u in rw (t, u, i) (other ys u))
        (λ t. rw (t, other ys u) refl)

-- each key once
pub keyed-remove : (k : Key) (rows : List Row) → Keyed rows → Keyed (remove_row k rows)
keyed-remove k [] h = tt
keyed-remove k (x ∷ xs) h = by_bool (key_eq (key x) k) _
    (λ t. rw t (keyed-remove k xs h.1))
    (λ t. rw t (find-remove k (key x) xs ∙ rw h.0 (elim (key_eq k (key x)) as (λ b. cond {A = Option Row} b None None ≡ None) [ true ↦ refl | false ↦ refl ]), keyed-remove k xs h.1))

pub keyed-insert : (r : Row) (rows : List Row) → find_row (key r) rows ≡ None → Keyed rows → Keyed (insert_row r rows)
keyed-insert r [] e h = (refl, tt)
keyed-insert r (x ∷ xs) e h = by_bool (before r x) _
    (λ t. rw t (e, h))
    (λ t. by_bool (key_eq (key x) (key r)) _
    (λ s. absurd (let i : Some x ≡ None = rw s at e in cc))
    (λ s. let i : find_row (key r) xs ≡ None = rw s at e in
    rw t (find-insert r (key x) xs i ∙ rw (key_eq-back _ _ s) h.0, keyed-insert r xs i h.1)))

pub keyed-replace : (r : Row) (rows : List Row) → Keyed rows → Keyed (replace_row r rows)
keyed-replace r [] h = tt
keyed-replace r (x ∷ xs) h = by_bool (key_eq (key x) (key r)) _
    (λ t. let k = key_eq-true _ _ t in let e : find_row (key r) xs ≡ None = ap (λ z. find_row z xs) (sym k) ∙ h.0 in rw (t, absent_kept r xs e) (e, h.1))
    (λ t. rw t (kept xs h.0 t, keyed-replace r xs h.1))
  where
    kept : (ys : List Row) → find_row (key x) ys ≡ None → key_eq (key x) (key r) ≡ false → find_row (key x) (replace_row r ys) ≡ None
    kept [] e t = refl
    kept (y ∷ ys) e t = by_bool (key_eq (key y) (key x)) _
        (λ s. absurd (let i : Some y ≡ None = rw s at e in cc))
        (λ s. let i : find_row (key x) ys ≡ None = rw s at e in by_bool (key_eq (key y) (key r)) _
        (λ u. rw (u, key_eq-back _ _ t) (kept ys i t))
        (λ u. rw (u, s) (kept ys i t)))

-- in order
pub after_found : (x : Row) (k : Key) (rows : List Row) (r : Row) → AllAfter x rows → find_row k rows ≡ Some r → before x r ≡ true
after_found x k [] r h e = absurd cc
after_found x k (y ∷ ys) r h e = by_bool (key_eq (key y) k) _
    (λ t. let i : Some y ≡ Some r = rw t at e in let j : y ≡ r = cc in ap (before x) (sym j) ∙ h.0)
    (λ t. after_found x k ys r h.1 (rw t at e))

after_chain : (a b : Row) (rows : List Row) → before a b ≡ true → AllAfter b rows → AllAfter a rows
after_chain a b [] t h = tt
after_chain a b (y ∷ ys) t h = (before_chain a b y t h.0, after_chain a b ys t h.1)

following-remove : (x : Row) (k : Key) (rows : List Row) → AllAfter x rows → AllAfter x (remove_row k rows)
following-remove x k [] h = tt
following-remove x k (y ∷ ys) h = by_bool (key_eq (key y) k) _ (λ t. rw t (following-remove x k ys h.1)) (λ t. rw t (h.0, following-remove x k ys h.1))

following-insert : (x r : Row) (rows : List Row) → before x r ≡ true → AllAfter x rows → AllAfter x (insert_row r rows)
following-insert x r [] t h = (t, tt)
following-insert x r (y ∷ ys) t h = by_bool (before r y) _ (λ s. rw s (t, h)) (λ s. rw s (h.0, following-insert x r ys t h.1))

pub ascending-remove : (k : Key) (rows : List Row) → Ascending rows → Ascending (remove_row k rows)
ascending-remove k [] h = tt
ascending-remove k (x ∷ xs) h = by_bool (key_eq (key x) k) _ (λ t. rw t (ascending-remove k xs h.1)) (λ t. rw t (following-remove x k xs h.0, ascending-remove k xs h.1))

pub ascending-insert : (r : Row) (rows : List Row) → find_row (key r) rows ≡ None → Ascending rows → Ascending (insert_row r rows)
ascending-insert r [] e h = (tt, tt)
ascending-insert r (x ∷ xs) e h = by_bool (before r x) _
    (λ t. rw t ((t, after_chain r x xs t h.0), h))
    (λ t. by_bool (key_eq (key x) (key r)) _
    (λ s. absurd (let i : Some x ≡ None = rw s at e in cc))
    (λ s. let i : find_row (key r) xs ≡ None = rw s at e in
    let b : before x r ≡ true = before_other r x t (λ j. true≢false (sym (key_eq-at (key x) (key r) (sym j)) ∙ s)) in
    rw t (following-insert x r xs b h.0, ascending-insert r xs i h.1)))

-- the row that a replaced one stands for has its path
following-replace : (x r s : Row) (rows : List Row) → find_row (key r) rows ≡ Some s → s.path ≡ r.path → Keyed rows → AllAfter x rows → AllAfter x (replace_row r rows)
following-replace x r s [] e p kd h = absurd cc
following-replace x r s (y ∷ ys) e p kd h = by_bool (key_eq (key y) (key r)) _
    (λ t. let k = key_eq-true _ _ t in
    let i : Some y ≡ Some s = rw t at e in let j : y ≡ s = cc in
    let n : find_row (key r) ys ≡ None = ap (λ z. find_row z ys) (sym k) ∙ kd.0 in
    rw (t, absent_kept r ys n) (sym (before_like x y r (ap (λ z. z.path) j ∙ p) k) ∙ h.0, h.1))
    (λ t. rw t (h.0, following-replace x r s ys (rw t at e) p kd.1 h.1))

after_like : (a b : Row) (rows : List Row) → a.path ≡ b.path → key a ≡ key b → AllAfter a rows → AllAfter b rows
after_like a b [] p k h = tt
after_like a b (y ∷ ys) p k h = (sym (before_like_left a b y p k) ∙ h.0, after_like a b ys p k h.1)

pub ascending-replace : (r s : Row) (rows : List Row) → find_row (key r) rows ≡ Some s → s.path ≡ r.path → Keyed rows → Ascending rows → Ascending (replace_row r rows)
ascending-replace r s [] e p kd h = absurd cc
ascending-replace r s (x ∷ xs) e p kd h = by_bool (key_eq (key x) (key r)) _
    (λ t. let k = key_eq-true _ _ t in
    let i : Some x ≡ Some s = rw t at e in let j : x ≡ s = cc in
    let n : find_row (key r) xs ≡ None = ap (λ z. find_row z xs) (sym k) ∙ kd.0 in
    rw (t, absent_kept r xs n) (after_like x r xs (ap (λ z. z.path) j ∙ p) k h.0, h.1))
    (λ t. rw t (following-replace x r s xs (rw t at e) p kd.1 h.0, ascending-replace r s xs (rw t at e) p kd.1 h.1))

-- two lists in order that have the same rows are one
pub same_rows : (a b : List Row) → Ascending a → Keyed a → Ascending b → Keyed b → ((k : Key) → find_row k a ≡ find_row k b) → a ≡ b
same_rows [] [] sa ka sb kb h = refl
same_rows [] (y ∷ ys) sa ka sb kb h = absurd (let i : None ≡ Some y = (let e = h (key y) in rw (key_eq-same (key y)) at e) in cc)
same_rows (x ∷ xs) [] sa ka sb kb h = absurd (let i : Some x ≡ None = (let e = h (key x) in rw (key_eq-same (key x)) at e) in cc)
same_rows (x ∷ xs) (y ∷ ys) sa ka sb kb h =
    let first : x ≡ y = by_bool (key_eq (key y) (key x)) _
    (λ t. let e = h (key x) in let i : Some x ≡ Some y = rw (key_eq-same (key x), t) at e in cc)
    (λ t.
    let e = h (key x) in let i : Some x ≡ find_row (key x) ys = rw (key_eq-same (key x), t) at e in
    let f = h (key y) in let j : find_row (key y) xs ≡ Some y = rw (key_eq-back _ _ t, key_eq-same (key y)) at f in
    absurd (true≢false (sym (after_found x (key y) xs y sa.0 j) ∙ before_one_way y x (after_found y (key x) ys x sb.0 (sym i))))) in
    let rest : (k : Key) → find_row k xs ≡ find_row k ys = λ k. by_bool (key_eq (key x) k) _
    (λ t. let e = key_eq-true _ _ t in
    ap (λ z. find_row z xs) (sym e) ∙ ka.0 ∙ sym (ap (λ z. find_row z ys) (sym e ∙ ap key first) ∙ kb.0))
    (λ t. let e = h k in let u : key_eq (key y) k ≡ false = ap (λ z. key_eq (key z) k) (sym first) ∙ t in rw (t, u) at e) in
    λ i. first i ∷ same_rows xs ys sa.1 ka.1 sb.1 kb.1 rest i
