-- The keys of a buffer that were touched.
use Rattle.std.proofs.Common.{◌≡◌, ℕ, zero, suc, ◌+◌, ◌<◌, ◌≤◌, Bool, true, false, cond, not, ◌||◌, Option, Some, None, List, [], ◌∷◌, ◌++◌, length, get_or, refl, sym, ap, ◌∙◌, arith, IsSome}
use Rattle.std.specs.Prelude.{filter, option_map, is_some}
use Rattle.std.specs.List.{list_any}
use Rattle.std.proofs.lemmas.Bool.{true≢false, false≢true}
use Rattle.wc_nicklist.specs.declared.item.Key.{Key}
use Rattle.wc_nicklist.specs.declared.item.Row.{Row}
use Rattle.wc_nicklist.specs.Rows.{key_eq}
use Rattle.wc_nicklist.specs.Touched.{earlier_or}
use Rattle.wc_nicklist.proofs.OrderLaws.{by_bool, key_eq-true, key_eq-same}
use Rattle.wc_nicklist.proofs.RowLaws.{key_eq-back}
use Rattle.wc_nickdiff.specs.declared.diff_item.FirstTouch.{FirstTouch}
use Rattle.wc_nickdiff.specs.declared.index.Index.{Index}
use Rattle.wc_nickdiff.specs.Held.{before_at, EachOnce, with_touch, keep_first, AreAmong}
use Rattle.wc_nickdiff.specs.Index.{place_in, place_of, IndexesTouches}

abbrev Before : Type 0
Before = Option (Option Row)

by_option : {A : Type 0} (o : Option A) (P : Type 0) → (o ≡ None → P) → ((a : A) → o ≡ Some a → P) → P
by_option None P none some = none refl
by_option (Some a) P none some = some a refl

-- a place is that of a touch
within_more : (o : Option ℕ) (len n : ℕ) → ((m : ℕ) → o ≡ Some m → m < len) → option_map suc o ≡ Some n → n < suc len
within_more None len n h q = absurd cc
within_more (Some m) len n h q = let j : suc m ≡ n = cc in let l : m < len = h m refl in omega arith

pub place_within : (k : Key) (ts : List FirstTouch) (n : ℕ) → place_of k ts ≡ Some n → n < length ts
place_within k [] n e = absurd cc
place_within k (t ∷ ts) n e = by_bool (key_eq t.key k) _
    (λ s. let i : Some 0 ≡ Some n = rw s at e in let j : 0 ≡ n = cc in omega arith)
    (λ s. let i : option_map suc (place_of k ts) ≡ Some n = rw s at e in within_more (place_of k ts) (length ts) n (place_within k ts) i)

before_more : (k : Key) (u : FirstTouch) (us : List FirstTouch) (o : Option ℕ) (n : ℕ) (t : FirstTouch) → ((m : ℕ) (v : FirstTouch) → o ≡ Some m → v ≡ get_or us m v → Some v.before ≡ before_at k us) → option_map suc o ≡ Some n → t ≡ get_or (u ∷ us) n t → Some t.before ≡ before_at k us
before_more k u us None n t h q g = absurd cc
before_more k u us (Some m) n t h q g = let j : suc m ≡ n = cc in h m t refl (g ∙ ap (λ l. get_or (u ∷ us) l t) (sym j))

pub place_before : (k : Key) (ts : List FirstTouch) (n : ℕ) (t : FirstTouch) → place_of k ts ≡ Some n → t ≡ get_or ts n t → Some t.before ≡ before_at k ts
place_before k [] n t e g = absurd cc
place_before k (u ∷ us) n t e g = by_bool (key_eq u.key k) _
    (λ s.
    let i : Some 0 ≡ Some n = rw s at e in
    let j : 0 ≡ n = cc in
    let same : t ≡ u = g ∙ ap (λ m. get_or (u ∷ us) m t) (sym j) in
    rw s (ap (λ z. Some z.before) same))
    (λ s. let i : option_map suc (place_of k us) ≡ Some n = rw s at e in rw s (before_more k u us (place_of k us) n t (place_before k us) i g))

pub place_none : (k : Key) (ts : List FirstTouch) → place_of k ts ≡ None → before_at k ts ≡ None
place_none k [] e = refl
place_none k (t ∷ ts) e = by_bool (key_eq t.key k) _
    (λ s. absurd (let i : Some 0 ≡ None = rw s at e in cc))
    (λ s. rw s (place_none k ts (go (place_of k ts) (rw s at e))))
  where
    go : (o : Option ℕ) → option_map suc o ≡ None → o ≡ None
    go None p = refl
    go (Some m) p = absurd cc

none_place : (k : Key) (ts : List FirstTouch) → before_at k ts ≡ None → place_of k ts ≡ None
none_place k [] e = refl
none_place k (t ∷ ts) e = by_bool (key_eq t.key k) _
    (λ s. absurd (let i : Some t.before ≡ None = rw s at e in cc))
    (λ s. rw (s, none_place k ts (rw s at e)) refl)

-- a key that was touched before, and one that was not
pub touched_again : (k : Key) (row : Option Row) (ts : List FirstTouch) → is_some (place_of k ts) ≡ true → ts ≡ with_touch k row ts
touched_again k row ts e = by_option (before_at k ts) _
    (λ n. absurd (false≢true (ap is_some (sym (none_place k ts n)) ∙ e)))
    (λ b n. ap (λ o. keep_first o (record { key = k; before = row }) ts) (sym n))

pub touched_first : (k : Key) (row : Option Row) (ts : List FirstTouch) → place_of k ts ≡ None → ts ++ record { key = k; before = row } ∷ [] ≡ with_touch k row ts
touched_first k row ts e = ap (λ o. keep_first o (record { key = k; before = row }) ts) (sym (place_none k ts e))

-- one touch more
before_push : (q : Key) (ts : List FirstTouch) (t : FirstTouch) → before_at q ts ≡ None → before_at q (ts ++ t ∷ []) ≡ cond (key_eq t.key q) (Some t.before) None
before_push q [] t e = refl
before_push q (u ∷ us) t e = by_bool (key_eq u.key q) _
    (λ s. absurd (let i : Some u.before ≡ None = rw s at e in cc))
    (λ s. rw s (before_push q us t (rw s at e)))

before_kept : (q : Key) (ts : List FirstTouch) (t : FirstTouch) (b : Option Row) → before_at q ts ≡ Some b → before_at q (ts ++ t ∷ []) ≡ Some b
before_kept q [] t b e = absurd cc
before_kept q (u ∷ us) t b e = by_bool (key_eq u.key q) _
    (λ s. rw s (rw s at e))
    (λ s. rw s (before_kept q us t b (rw s at e)))

pub once_push : (ts : List FirstTouch) (t : FirstTouch) → EachOnce ts → before_at t.key ts ≡ None → EachOnce (ts ++ t ∷ [])
once_push [] t h e = (refl, tt)
once_push (u ∷ us) t h e = by_bool (key_eq u.key t.key) _
    (λ s. absurd (let i : Some u.before ≡ None = rw s at e in cc))
    (λ s. (before_push u.key us t h.0 ∙ rw (key_eq-back u.key t.key s) refl, once_push us t h.1 (rw s at e)))

place_push : (q : Key) (ts : List FirstTouch) (t : FirstTouch) → before_at t.key ts ≡ None → place_of q (ts ++ t ∷ []) ≡ cond (key_eq t.key q) (Some (length ts)) (place_of q ts)
place_push q [] t e = refl
place_push q (u ∷ us) t e = by_bool (key_eq u.key t.key) _
    (λ s. absurd (let i : Some u.before ≡ None = rw s at e in cc))
    (λ s.
    let more = place_push q us t (rw s at e) in
    by_bool (key_eq u.key q) _
    (λ v.
    let w : key_eq t.key q ≡ false = ap (key_eq t.key) (sym (key_eq-true u.key q v)) ∙ key_eq-back u.key t.key s in
    rw (v, w) refl)
    (λ v. rw (v, more) (by_bool (key_eq t.key q) _ (λ w. rw w refl) (λ w. rw w refl))))

pub index_push : (ts : List FirstTouch) (old new : Index) (t : FirstTouch) → before_at t.key ts ≡ None → IndexesTouches ts old → ((q : Key) → place_in new q ≡ cond (key_eq t.key q) (Some (length ts)) (place_in old q)) → IndexesTouches (ts ++ t ∷ []) new
index_push ts old new t e h n q = n q ∙ ap (cond (key_eq t.key q) (Some (length ts))) (h q) ∙ sym (place_push q ts t e)

-- what is at first touches after one more
pub before_touched : (k : Key) (row : Option Row) (ts : List FirstTouch) (q : Key) → before_at q (with_touch k row ts) ≡ cond (key_eq k q) (earlier_or (before_at q ts) row) (before_at q ts)
before_touched k row ts q = by_option (before_at k ts) _
    (λ n. ap (λ o. before_at q (keep_first o (record { key = k; before = row }) ts)) n ∙ by_bool (key_eq k q) _
    (λ s.
    let m : before_at q ts ≡ None = ap (λ z. before_at z ts) (sym (key_eq-true k q s)) ∙ n in
    before_push q ts (record { key = k; before = row }) m ∙ rw (s, m) refl)
    (λ s. by_option (before_at q ts) _
    (λ m. before_push q ts (record { key = k; before = row }) m ∙ rw (s, m) refl)
    (λ b m. before_kept q ts (record { key = k; before = row }) b m ∙ rw (s, m) refl)))
    (λ b n. ap (λ o. before_at q (keep_first o (record { key = k; before = row }) ts)) n ∙ by_bool (key_eq k q) _
    (λ s. let m : before_at q ts ≡ Some b = ap (λ z. before_at z ts) (sym (key_eq-true k q s)) ∙ n in rw (s, m) refl)
    (λ s. rw s refl))

-- No more keys are kept than were touched.
length_filter : (p : Key → Bool) (keys : List Key) → length (filter p keys) ≤ length keys
length_filter p [] = omega arith
length_filter p (k ∷ ks) = let more = length_filter p ks in by_bool (p k) _ (λ t. rw t (omega arith)) (λ t. rw t (omega arith))

one_less : (j : Key) (keys : List Key) → list_any (λ q. key_eq q j) keys ≡ true → length (filter (λ q. not (key_eq q j)) keys) + 1 ≤ length keys
one_less j [] e = absurd (false≢true e)
one_less j (k ∷ ks) e = by_bool (key_eq k j) _
    (λ t. rw t (let more = length_filter (λ q. not (key_eq q j)) ks in omega arith))
    (λ t. rw t (let more = one_less j ks (rw t at e) in omega arith))

still_there : (j k : Key) (keys : List Key) → key_eq j k ≡ false → list_any (λ q. key_eq q k) keys ≡ true → list_any (λ q. key_eq q k) (filter (λ q. not (key_eq q j)) keys) ≡ true
still_there j k [] n e = absurd (false≢true e)
still_there j k (x ∷ xs) n e = by_bool (key_eq x j) _
    (λ t.
    let w : key_eq x k ≡ false = ap (λ z. key_eq z k) (key_eq-true x j t) ∙ n in
    rw t (still_there j k xs n (rw w at e)))
    (λ t. rw t (by_bool (key_eq x k) _ (λ w. rw w refl) (λ w. rw w (still_there j k xs n (rw w at e)))))

pub held_bound : (ts : List FirstTouch) (keys : List Key) → EachOnce ts → AreAmong ts keys → length ts ≤ length keys
held_bound [] keys once h = omega arith
held_bound (t ∷ ts) keys once h =
    let own : list_any (λ q. key_eq q t.key) keys ≡ true = h t.key (rw (key_eq-same t.key) refl) in
    let less = one_less t.key keys own in
    let rest : AreAmong ts (filter (λ q. not (key_eq q t.key)) keys) = λ k s. by_bool (key_eq t.key k) _
    (λ v. absurd (let i : before_at k ts ≡ None = ap (λ z. before_at z ts) (sym (key_eq-true t.key k v)) ∙ once.0 in false≢true (ap is_some (sym i) ∙ s)))
    (λ v. still_there t.key k keys v (h k (rw v s))) in
    let more = held_bound ts (filter (λ q. not (key_eq q t.key)) keys) once.1 rest in
    omega arith

pub none_some : {A : Type 0} (o : Option A) → is_some o ≡ false → o ≡ None
none_some None e = refl
none_some (Some a) e = absurd (true≢false e)
