-- A list of rows in order, split at a row; a filtered one; a reversed one.
use Rattle.std.proofs.Common.{◌≡◌, Bool, true, false, cond, ◌||◌, Option, Some, None, List, [], ◌∷◌, ◌++◌, refl, sym, ap, ◌∙◌, subst}
use Rattle.std.specs.Prelude.{filter, reverse, is_some}
use Rattle.std.proofs.lemmas.Bool.{true≢false}
use Rattle.std.proofs.lemmas.List.{reverse-append, reverse-reverse}
use Rattle.wc_nicklist.specs.declared.item.Key.{Key}
use Rattle.wc_nicklist.specs.declared.item.Row.{Row}
use Rattle.wc_nicklist.specs.Order.{key, before}
use Rattle.wc_nicklist.specs.Rows.{key_eq, find_row, AllAfter, Ascending, Keyed}
use Rattle.wc_nickdiff.specs.Compared.{keep}
use Rattle.wc_nicklist.proofs.OrderLaws.{by_bool, key_eq-true, key_eq-same, before_one_way, before_itself}
use Rattle.wc_nicklist.proofs.RowLaws.{after_found}
use Rattle.wc_nicklist.proofs.Held.{by_row}

-- the first of two rows
abbrev pub or_row : Option Row → Option Row → Option Row
or_row None o = o
or_row (Some r) o = Some r

pub find-append : (q : Key) (xs ys : List Row) → find_row q (xs ++ ys) ≡ or_row (find_row q xs) (find_row q ys)
find-append q [] ys = refl
find-append q (x ∷ xs) ys = by_bool (key_eq (key x) q) _ (λ t. rw t refl) (λ t. rw t (find-append q xs ys))

find_own : (r : Row) (b : List Row) → find_row (key r) (r ∷ b) ≡ Some r
find_own r b = rw (key_eq-same (key r)) refl

pub one_row : (x y : Row) → Some x ≡ Some y → x ≡ y
one_row x y e = cc

pub no_row : {P : Type 0} (x : Row) → Some x ≡ None → P
no_row x e = absurd cc

pub after_append : (x r : Row) (xs b : List Row) → AllAfter x (xs ++ r ∷ b) → before x r ≡ true
after_append x r [] b h = h.0
after_append x r (y ∷ ys) b h = after_append x r ys b h.1

ascending_right : (a ys : List Row) → Ascending (a ++ ys) → Ascending ys
ascending_right [] ys h = h
ascending_right (x ∷ xs) ys h = ascending_right xs ys h.1

keyed_right : (a ys : List Row) → Keyed (a ++ ys) → Keyed ys
keyed_right [] ys h = h
keyed_right (x ∷ xs) ys h = keyed_right xs ys h.1

left_before : (a : List Row) (r : Row) (b : List Row) → Ascending (a ++ r ∷ b) → (q : Key) (x : Row) → find_row q a ≡ Some x → before x r ≡ true
left_before [] r b h q x e = absurd cc
left_before (y ∷ ys) r b h q x e = by_bool (key_eq (key y) q) _
    (λ t. let i : y ≡ x = one_row y x (rw t at e) in ap (λ z. before z r) (sym i) ∙ after_append y r ys b h.0)
    (λ t. left_before ys r b h.1 q x (rw t at e))

not_left : (a : List Row) (r : Row) (b : List Row) → Keyed (a ++ r ∷ b) → find_row (key r) a ≡ None
not_left [] r b h = refl
not_left (y ∷ ys) r b h = by_bool (key_eq (key y) (key r)) _
    (λ t.
    let e : or_row (find_row (key r) ys) (Some r) ≡ None = ap (or_row (find_row (key r) ys)) (sym (find_own r b)) ∙ sym (find-append (key r) ys (r ∷ b)) ∙ ap (λ z. find_row z (ys ++ r ∷ b)) (sym (key_eq-true _ _ t)) ∙ h.0 in
    by_row (find_row (key r) ys) _ (λ n. no_row r (rw n at e)) (λ z n. no_row z (rw n at e)))
    (λ t. rw t (not_left ys r b h.1))

right_in : (a : List Row) (r : Row) (b : List Row) → Keyed (a ++ r ∷ b) → (q : Key) (x : Row) → find_row q b ≡ Some x → find_row q (a ++ r ∷ b) ≡ Some x
right_in [] r b h q x e = by_bool (key_eq (key r) q) _
    (λ t. no_row x (sym e ∙ ap (λ z. find_row z b) (sym (key_eq-true _ _ t)) ∙ h.0))
    (λ t. rw t e)
right_in (y ∷ ys) r b h q x e = by_bool (key_eq (key y) q) _
    (λ t. no_row x (sym (right_in ys r b h.1 q x e) ∙ ap (λ z. find_row z (ys ++ r ∷ b)) (sym (key_eq-true _ _ t)) ∙ h.0))
    (λ t. rw t (right_in ys r b h.1 q x e))

keyed_left : (a ys : List Row) → Keyed (a ++ ys) → Keyed a
keyed_left [] ys h = tt
keyed_left (x ∷ xs) ys h =
    let e : or_row (find_row (key x) xs) (find_row (key x) ys) ≡ None = sym (find-append (key x) xs ys) ∙ h.0 in
    (by_row (find_row (key x) xs) _ (λ n. n) (λ r n. no_row r (rw n at e)), keyed_left xs ys h.1)

pub record IsSplit (rs a : List Row) (r : Row) (b : List Row) : Type 0 where
  pub there : find_row (key r) rs ≡ Some r
  pub left_keyed : Keyed a
  pub not_left : find_row (key r) a ≡ None
  pub not_right : find_row (key r) b ≡ None
  pub left_in : (q : Key) (x : Row) → find_row q a ≡ Some x → find_row q rs ≡ Some x
  pub right_in : (q : Key) (x : Row) → find_row q b ≡ Some x → find_row q rs ≡ Some x
  pub left_before : (q : Key) (x : Row) → find_row q a ≡ Some x → before x r ≡ true
  pub right_after : (q : Key) (x : Row) → find_row q b ≡ Some x → before r x ≡ true
  pub left : (q : Key) (x : Row) → find_row q rs ≡ Some x → before x r ≡ true → find_row q a ≡ Some x
  pub right : (q : Key) (x : Row) → find_row q rs ≡ Some x → before r x ≡ true → find_row q b ≡ Some x

both_ways : {P : Type 0} (x r : Row) → before x r ≡ true → before r x ≡ true → P
both_ways x r s t = absurd (true≢false (sym t ∙ before_one_way x r s))

split_at : (a : List Row) (r : Row) (b : List Row) → Ascending (a ++ r ∷ b) → Keyed (a ++ r ∷ b) → IsSplit (a ++ r ∷ b) a r b
split_at a r b asc kd =
    let ka : find_row (key r) a ≡ None = not_left a r b kd in
    let rb = keyed_right a (r ∷ b) kd in
    let ab = ascending_right a (r ∷ b) asc in
    let rest : (q : Key) (x : Row) → find_row q a ≡ None → find_row q (a ++ r ∷ b) ≡ Some x → find_row q (r ∷ b) ≡ Some x = λ q x n e. (let i = sym (find-append q a (r ∷ b)) ∙ e in rw n at i) in
    record {
      there = find-append (key r) a (r ∷ b) ∙ rw ka (find_own r b);
      left_keyed = keyed_left a (r ∷ b) kd;
      not_left = ka;
      not_right = rb.0;
      left_in = λ q x e. find-append q a (r ∷ b) ∙ rw e refl;
      right_in = right_in a r b kd;
      left_before = left_before a r b asc;
      right_after = λ q x e. after_found r q b x ab.0 e;
      left = λ q x e t. by_row (find_row q a) _
          (λ n. by_bool (key_eq (key r) q) _
          (λ s. let i : r ≡ x = one_row r x (let j = rest q x n e in rw s at j) in absurd (true≢false (sym t ∙ ap (λ z. before z r) (sym i) ∙ before_itself r)))
          (λ s. both_ways x r t (after_found r q b x ab.0 (let j = rest q x n e in rw s at j))))
          (λ y n. let i : y ≡ x = one_row y x (let j = sym (find-append q a (r ∷ b)) ∙ e in rw n at j) in n ∙ ap Some i);
      right = λ q x e t. by_row (find_row q a) _
          (λ n. by_bool (key_eq (key r) q) _
          (λ s. let i : r ≡ x = one_row r x (let j = rest q x n e in rw s at j) in absurd (true≢false (sym t ∙ ap (before r) (sym i) ∙ before_itself r)))
          (λ s. let j = rest q x n e in rw s at j))
          (λ y n. let i : y ≡ x = one_row y x (let j = sym (find-append q a (r ∷ b)) ∙ e in rw n at j) in both_ways x r (left_before a r b asc q x (n ∙ ap Some i)) t);
    }

pub split_of : (rs a : List Row) (r : Row) (b : List Row) → rs ≡ a ++ r ∷ b → Ascending rs → Keyed rs → IsSplit rs a r b
split_of rs a r b e asc kd = subst (λ l. IsSplit l a r b) (sym e) (split_at a r b (subst Ascending e asc) (subst Keyed e kd))

-- a filter
pub find-filter : (p : Row → Bool) (q : Key) (rows : List Row) → Keyed rows → find_row q (filter p rows) ≡ keep p (find_row q rows)
find-filter p q [] kd = refl
find-filter p q (x ∷ xs) kd = by_bool (p x) _
    (λ t. rw t (by_bool (key_eq (key x) q) _ (λ s. rw (s, t) refl) (λ s. rw s (find-filter p q xs kd.1))))
    (λ t. rw t (find-filter p q xs kd.1 ∙ by_bool (key_eq (key x) q) _
    (λ s. let n : find_row q xs ≡ None = ap (λ z. find_row z xs) (sym (key_eq-true _ _ s)) ∙ kd.0 in rw (s, n, t) refl)
    (λ s. rw s refl)))

pub keyed-filter : (p : Row → Bool) (rows : List Row) → Keyed rows → Keyed (filter p rows)
keyed-filter p [] kd = tt
keyed-filter p (x ∷ xs) kd = by_bool (p x) _
    (λ t. rw t (find-filter p (key x) xs kd.1 ∙ ap (keep p) kd.0, keyed-filter p xs kd.1))
    (λ t. rw t (keyed-filter p xs kd.1))

following-filter : (p : Row → Bool) (x : Row) (rows : List Row) → AllAfter x rows → AllAfter x (filter p rows)
following-filter p x [] h = tt
following-filter p x (y ∷ ys) h = by_bool (p y) _ (λ t. rw t (h.0, following-filter p x ys h.1)) (λ t. rw t (following-filter p x ys h.1))

pub ascending-filter : (p : Row → Bool) (rows : List Row) → Ascending rows → Ascending (filter p rows)
ascending-filter p [] h = tt
ascending-filter p (x ∷ xs) h = by_bool (p x) _ (λ t. rw t (following-filter p x xs h.0, ascending-filter p xs h.1)) (λ t. rw t (ascending-filter p xs h.1))

-- what a filtered list has
pub keep_some : (p : Row → Bool) (o : Option Row) (x : Row) → keep p o ≡ Some x → (o ≡ Some x) × (p x ≡ true)
keep_some p None x e = absurd cc
keep_some p (Some r) x e = by_bool (p r) _
    (λ t. let i : r ≡ x = one_row r x (rw t at e) in (ap Some i, ap p (sym i) ∙ t))
    (λ t. absurd (let i : None ≡ Some x = rw t at e in cc))

-- a reverse
pub reverse_split : (rs pre : List Row) (r : Row) (post : List Row) → reverse rs ≡ pre ++ r ∷ post → rs ≡ reverse post ++ r ∷ reverse pre
reverse_split rs pre r post e = sym (reverse-reverse rs) ∙ ap reverse e ∙ reverse-append pre (r ∷ post) ∙ ap (λ l. l ++ reverse pre) (reverse-append (r ∷ []) post) ∙ snoc (reverse post) (reverse pre)
  where
    snoc : (xs ys : List Row) → (xs ++ r ∷ []) ++ ys ≡ xs ++ r ∷ ys
    snoc [] ys = refl
    snoc (x ∷ xs) ys = ap (λ l. x ∷ l) (snoc xs ys)

is_some-or : (a b : Option Row) → is_some (or_row a b) ≡ (is_some a || is_some b)
is_some-or None b = refl
is_some-or (Some r) b = refl

or_turned : (a b : Bool) → (a || b) ≡ (b || a)
or_turned true true = refl
or_turned true false = refl
or_turned false true = refl
or_turned false false = refl

pub is_some-reverse : (q : Key) (rs : List Row) → is_some (find_row q (reverse rs)) ≡ is_some (find_row q rs)
is_some-reverse q [] = refl
is_some-reverse q (x ∷ xs) = ap (λ l. is_some (find_row q l)) (reverse-append (x ∷ []) xs) ∙ ap is_some (find-append q (reverse xs) (x ∷ [])) ∙ is_some-or _ _ ∙ ap (λ b. b || is_some (find_row q (x ∷ []))) (is_some-reverse q xs)
    ∙ by_bool (key_eq (key x) q) _ (λ t. rw t (or_turned _ true)) (λ t. rw t (or_turned _ false))
