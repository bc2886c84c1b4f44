-- The order of a list, kept where something is put in, and where some is taken out or changed.
use Rattle.std.proofs.Common.{◌≡◌, ℕ, zero, suc, ◌+◌, ◌<◌, ◌≤◌, Bool, true, false, not, List, [], ◌∷◌, ◌++◌, length, map, take, drop, get_or, arith, refl, sym, ap, ◌∙◌, append_assoc}
use Rattle.std.specs.Prelude.{filter, insert, ◌&&◌, if◌then◌else◌}
use Rattle.std.specs.List.{list_all}
use Rattle.std.proofs.lemmas.Bool.{and_parts, and_from}
use Rattle.std.proofs.lemmas.List.{take_more, take_all, drop_all}
use Rattle.std.proofs.Math.Seq.{drop-cons}
use Rattle.wc_hooks.specs.declared.slot.Slot.{Slot}
use Rattle.wc_hooks.specs.Ranks.{Rank, precedes, put_by, falls_by}
use Rattle.wc_hooks.specs.Slots.{slot_rank}
use Rattle.wc_hooks.proofs.Lists.{by_bool, not_true, keeps_first, drops_first, all_filter, all_map, all_weaker, all_take}
use Rattle.wc_hooks.proofs.Orders.{ranks_total, not_after, higher_last, not_both}

pub put_before : {A : Type 0} (rank : A → Rank) (a x : A) (xs : List A) → precedes (rank a) (rank x) ≡ true → put_by rank a (x ∷ xs) ≡ a ∷ (x ∷ xs)
put_before rank a x xs t = rw t refl

pub put_after : {A : Type 0} (rank : A → Rank) (a x : A) (xs : List A) → precedes (rank a) (rank x) ≡ false → put_by rank a (x ∷ xs) ≡ x ∷ put_by rank a xs
put_after rank a x xs t = rw t refl

pub length-put : {A : Type 0} (rank : A → Rank) (a : A) (xs : List A) → length (put_by rank a xs) ≡ suc (length xs)
length-put rank a [] = refl
length-put rank a (x ∷ xs) = by_bool (precedes (rank a) (rank x))
    (λ t. ap length (put_before rank a x xs t))
    (λ t. ap length (put_after rank a x xs t) ∙ ap suc (length-put rank a xs))

pub all_put : {A : Type 0} (rank : A → Rank) (q : A → Bool) (a : A) (xs : List A) → q a ≡ true → list_all q xs ≡ true → list_all q (put_by rank a xs) ≡ true
all_put rank q a [] t h = and_from _ _ t refl
all_put rank q a (x ∷ xs) t h = let parts = and_parts (q x) (list_all q xs) h in by_bool (precedes (rank a) (rank x))
    (λ lt. ap (list_all q) (put_before rank a x xs lt) ∙ and_from _ _ t h)
    (λ ge. ap (list_all q) (put_after rank a x xs ge) ∙ and_from _ _ parts.0 (all_put rank q a xs t parts.1))

-- what precedes one precedes all that do not precede that one
before_all : {A : Type 0} (rank : A → Rank) (a x y : A) → precedes (rank a) (rank x) ≡ true → not (precedes (rank y) (rank x)) ≡ true → precedes (rank a) (rank y) ≡ true
before_all rank a x y lt h = higher_last ranks_total (rank a) (rank x) (rank y) lt (not_after ranks_total (rank x) (rank y) (not_true _ h))

put_first : {A : Type 0} (rank : A → Rank) (a x : A) (xs : List A) → precedes (rank a) (rank x) ≡ true → list_all (λ y. not (precedes (rank y) (rank x))) xs ≡ true → put_by rank a xs ≡ a ∷ xs
put_first rank a x [] lt h = refl
put_first rank a x (y ∷ ys) lt h = let parts = and_parts (not (precedes (rank y) (rank x))) (list_all (λ y. not (precedes (rank y) (rank x))) ys) h in put_before rank a y ys (before_all rank a x y lt parts.0)

pub filter_kept : {A : Type 0} (rank : A → Rank) (p : A → Bool) (a : A) (xs : List A) → p a ≡ true → falls_by rank xs ≡ true → filter p (put_by rank a xs) ≡ put_by rank a (filter p xs)
filter_kept rank p a [] k h = rw k refl
filter_kept rank p a (x ∷ xs) k h =
    let parts = and_parts (list_all (λ y. not (precedes (rank y) (rank x))) xs) (falls_by rank xs) h in
    by_bool (precedes (rank a) (rank x))
    (λ lt. let low : list_all (λ y. not (precedes (rank y) (rank x))) (filter p xs) ≡ true = all_filter (λ y. not (precedes (rank y) (rank x))) p xs parts.0 in
    ap (filter p) (put_before rank a x xs lt) ∙ keeps_first p a (x ∷ xs) k ∙ by_bool (p x)
    (λ c. ap (λ l. a ∷ l) (keeps_first p x xs c) ∙ sym (put_before rank a x (filter p xs) lt) ∙ ap (put_by rank a) (sym (keeps_first p x xs c)))
    (λ c. ap (λ l. a ∷ l) (drops_first p x xs c) ∙ sym (put_first rank a x (filter p xs) lt low) ∙ ap (put_by rank a) (sym (drops_first p x xs c))))
    (λ ge. by_bool (p x)
    (λ c. ap (filter p) (put_after rank a x xs ge) ∙ keeps_first p x (put_by rank a xs) c ∙ ap (λ l. x ∷ l) (filter_kept rank p a xs k parts.1) ∙ sym (put_after rank a x (filter p xs) ge) ∙ ap (put_by rank a) (sym (keeps_first p x xs c)))
    (λ c. ap (filter p) (put_after rank a x xs ge) ∙ drops_first p x (put_by rank a xs) c ∙ filter_kept rank p a xs k parts.1 ∙ ap (put_by rank a) (sym (drops_first p x xs c))))

pub filter_dropped : {A : Type 0} (rank : A → Rank) (p : A → Bool) (a : A) (xs : List A) → p a ≡ false → filter p (put_by rank a xs) ≡ filter p xs
filter_dropped rank p a [] k = rw k refl
filter_dropped rank p a (x ∷ xs) k = by_bool (precedes (rank a) (rank x))
    (λ lt. ap (filter p) (put_before rank a x xs lt) ∙ drops_first p a (x ∷ xs) k)
    (λ ge. by_bool (p x)
    (λ c. ap (filter p) (put_after rank a x xs ge) ∙ keeps_first p x (put_by rank a xs) c ∙ ap (λ l. x ∷ l) (filter_dropped rank p a xs k) ∙ sym (keeps_first p x xs c))
    (λ c. ap (filter p) (put_after rank a x xs ge) ∙ drops_first p x (put_by rank a xs) c ∙ filter_dropped rank p a xs k ∙ sym (drops_first p x xs c)))

-- among those that pass a test, one goes where it goes among all
pub filter-put : {A : Type 0} (rank : A → Rank) (p : A → Bool) (a : A) (xs : List A) → falls_by rank xs ≡ true → filter p (put_by rank a xs) ≡ (if p a then put_by rank a (filter p xs) else filter p xs)
filter-put rank p a xs h = by_bool (p a) (λ k. rw k (filter_kept rank p a xs k h)) (λ k. rw k (filter_dropped rank p a xs k))

pub count_kept : {A : Type 0} (rank : A → Rank) (p : A → Bool) (a : A) (xs : List A) → p a ≡ true → falls_by rank xs ≡ true → length (filter p (put_by rank a xs)) ≡ suc (length (filter p xs))
count_kept rank p a xs k h = ap length (filter_kept rank p a xs k h) ∙ length-put rank a (filter p xs)

pub count_dropped : {A : Type 0} (rank : A → Rank) (p : A → Bool) (a : A) (xs : List A) → p a ≡ false → length (filter p (put_by rank a xs)) ≡ length (filter p xs)
count_dropped rank p a xs k = ap length (filter_dropped rank p a xs k)

pub falls_put : {A : Type 0} (rank : A → Rank) (a : A) (xs : List A) → falls_by rank xs ≡ true → falls_by rank (put_by rank a xs) ≡ true
falls_put rank a [] h = refl
falls_put rank a (x ∷ xs) h =
    let parts = and_parts (list_all (λ y. not (precedes (rank y) (rank x))) xs) (falls_by rank xs) h in
    by_bool (precedes (rank a) (rank x))
    (λ lt. ap (falls_by rank) (put_before rank a x xs lt)
    ∙ and_from _ _ (and_from _ _ (ap not (not_both ranks_total (rank a) (rank x) lt))
    (all_weaker (λ y. not (precedes (rank y) (rank x))) (λ y. not (precedes (rank y) (rank a))) (λ y k. ap not (not_both ranks_total (rank a) (rank y) (before_all rank a x y lt k))) xs parts.0)) h)
    (λ ge. ap (falls_by rank) (put_after rank a x xs ge)
    ∙ and_from _ _ (all_put rank (λ y. not (precedes (rank y) (rank x))) a xs (ap not ge) parts.0) (falls_put rank a xs parts.1))

pub falls_filter : {A : Type 0} (rank : A → Rank) (p : A → Bool) (xs : List A) → falls_by rank xs ≡ true → falls_by rank (filter p xs) ≡ true
falls_filter rank p [] h = refl
falls_filter rank p (x ∷ xs) h = let parts = and_parts (list_all (λ y. not (precedes (rank y) (rank x))) xs) (falls_by rank xs) h in by_bool (p x)
    (λ a. ap (falls_by rank) (keeps_first p x xs a) ∙ and_from _ _ (all_filter (λ y. not (precedes (rank y) (rank x))) p xs parts.0) (falls_filter rank p xs parts.1))
    (λ a. ap (falls_by rank) (drops_first p x xs a) ∙ falls_filter rank p xs parts.1)

pub falls_map : {A B : Type 0} (rank : A → Rank) (rank_b : B → Rank) (f : A → B) → ((x : A) → rank_b (f x) ≡ rank x) → (xs : List A) → falls_by rank_b (map f xs) ≡ falls_by rank xs
falls_map rank rank_b f same [] = refl
falls_map rank rank_b f same (x ∷ xs) = (λ i. all_map (λ y. not (precedes (rank y) (rank x))) (λ y. not (precedes (rank_b y) (rank_b (f x)))) f (λ y j. not (precedes (same y j) (same x j))) xs i && falls_map rank rank_b f same xs i)

pub falls_take : {A : Type 0} (rank : A → Rank) (n : ℕ) (xs : List A) → falls_by rank xs ≡ true → falls_by rank (take n xs) ≡ true
falls_take rank zero xs h = refl
falls_take rank (suc n) [] h = refl
falls_take rank (suc n) (x ∷ xs) h =
    let parts = and_parts (list_all (λ y. not (precedes (rank y) (rank x))) xs) (falls_by rank xs) h in
    and_from _ _ (all_take (λ y. not (precedes (rank y) (rank x))) n xs parts.0) (falls_take rank n xs parts.1)

pub falls_drop : {A : Type 0} (rank : A → Rank) (n : ℕ) (xs : List A) → falls_by rank xs ≡ true → falls_by rank (drop n xs) ≡ true
falls_drop rank zero xs h = h
falls_drop rank (suc n) [] h = refl
falls_drop rank (suc n) (x ∷ xs) h = falls_drop rank n xs (and_parts (list_all (λ y. not (precedes (rank y) (rank x))) xs) (falls_by rank xs) h).1

pub put_map : {A B : Type 0} (rank : A → Rank) (rank_b : B → Rank) (f : A → B) → ((x : A) → rank_b (f x) ≡ rank x) → (a : A) (xs : List A) → map f (put_by rank a xs) ≡ put_by rank_b (f a) (map f xs)
put_map rank rank_b f same a [] = refl
put_map rank rank_b f same a (x ∷ xs) =
    let e : precedes (rank_b (f a)) (rank_b (f x)) ≡ precedes (rank a) (rank x) = (λ i. precedes (same a i) (same x i)) in
    by_bool (precedes (rank a) (rank x))
    (λ t. ap (map f) (put_before rank a x xs t) ∙ sym (put_before rank_b (f a) (f x) (map f xs) (e ∙ t)))
    (λ t. ap (map f) (put_after rank a x xs t) ∙ ap (λ l. f x ∷ l) (put_map rank rank_b f same a xs) ∙ sym (put_after rank_b (f a) (f x) (map f xs) (e ∙ t)))

-- the search for a slot's place went past those that it does not precede
pub put_front : (a : Slot) (xs : List Slot) (i : ℕ) (x : Slot) → i < length xs → x ≡ get_or xs i x → precedes (slot_rank a) (slot_rank x) ≡ false → put_by slot_rank a xs ≡ take i xs ++ put_by slot_rank a (drop i xs) → put_by slot_rank a xs ≡ take (i + 1) xs ++ put_by slot_rank a (drop (i + 1) xs)
put_front a xs i x lt is t e =
    let rest = drop (suc i) xs in
    let c : drop i xs ≡ x ∷ rest = drop-cons xs i x lt ∙ ap (λ y. y ∷ rest) (sym is) in
    let s : put_by slot_rank a (drop i xs) ≡ x ∷ put_by slot_rank a rest = ap (put_by slot_rank a) c ∙ put_after slot_rank a x rest t in
    let n : suc i ≡ i + 1 = omega arith in
    let m : take (i + 1) xs ≡ take i xs ++ x ∷ [] = take_more xs i x lt ∙ ap (λ y. take i xs ++ y ∷ []) (sym is) in
    e ∙ ap (λ l. take i xs ++ l) s ∙ sym (append_assoc (take i xs) (x ∷ []) (put_by slot_rank a rest)) ∙ (λ j. sym m j ++ put_by slot_rank a (drop (n j) xs))

pub put_here : (a : Slot) (xs : List Slot) (i : ℕ) (x : Slot) → i < length xs → x ≡ get_or xs i x → precedes (slot_rank a) (slot_rank x) ≡ true → put_by slot_rank a xs ≡ take i xs ++ put_by slot_rank a (drop i xs) → insert xs i a ≡ put_by slot_rank a xs
put_here a xs i x lt is t e =
    let rest = drop (suc i) xs in
    let c : drop i xs ≡ x ∷ rest = drop-cons xs i x lt ∙ ap (λ y. y ∷ rest) (sym is) in
    let s : put_by slot_rank a (drop i xs) ≡ a ∷ drop i xs = ap (put_by slot_rank a) c ∙ put_before slot_rank a x rest t ∙ ap (λ l. a ∷ l) (sym c) in
    sym (e ∙ ap (λ l. take i xs ++ l) s)

pub put_last : (a : Slot) (xs : List Slot) (i : ℕ) → length xs ≤ i → put_by slot_rank a xs ≡ take i xs ++ put_by slot_rank a (drop i xs) → insert xs (length xs) a ≡ put_by slot_rank a xs
put_last a xs i le e =
    let n : length xs ≤ length xs = omega arith in
    sym (e ∙ (λ j. (take_all i xs le ∙ sym (take_all (length xs) xs n)) j ++ put_by slot_rank a (drop_all i xs le j)) ∙ ap (λ l. take (length xs) xs ++ a ∷ l) (sym (drop_all (length xs) xs n)))

-- what `place_of` needs
pub ruleset place_of_facts = (put_front, put_here, put_last)
