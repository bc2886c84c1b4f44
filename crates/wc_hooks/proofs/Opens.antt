-- A pass that opens: where its slots are, and what it takes of them.
use Rattle.std.proofs.Common.{◌≡◌, ℕ, zero, suc, ◌+◌, ◌-◌, ◌<◌, ◌≤◌, Bool, true, false, not, Some, None, List, [], ◌∷◌, ◌++◌, length, map, take, drop, get_or, arith, refl, sym, ap, ◌∙◌, length-drop}
use Rattle.std.specs.Prelude.{filter, ◌&&◌, ◌||◌, ◌==◌, nat_le, if◌then◌else◌}
use Rattle.std.specs.List.{list_all}
use Rattle.std.specs.List.Sorted.{IsPartitionedBy, IsPartitionPoint}
use Rattle.std.specs.Ordering.{is_lt}
use Rattle.std.proofs.lemmas.Bool.{and_parts, and_from, false≢true}
use Rattle.std.proofs.lemmas.Bool.Decides.{nat_tests}
use Rattle.std.proofs.Math.Seq.{drop-nil}
use Rattle.std.proofs.lemmas.List.{map-append}
use Rattle.wc_hooks.specs.declared.entry.Entry.{Entry}
use Rattle.wc_hooks.specs.declared.kind.HookKind.{HookKind}
use Rattle.wc_hooks.specs.declared.slot.Slot.{Slot}
use Rattle.wc_hooks.specs.Ranks.{topic_order, precedes, falls_by}
use Rattle.wc_hooks.specs.Rows.{entry_of, is_for, rows_filed}
use Rattle.wc_hooks.specs.Filings.{filed_under}
use Rattle.wc_hooks.specs.Passes.{hooks_on}
use Rattle.wc_hooks.specs.Table.{topic_in}
use Rattle.wc_hooks.specs.Slots.{slot_rank, slot_entry, slot_filing, row_of, is_live, is_slot_for, live_rows, was_of, in_snapshot, with_opening, seen_opening, first_topic, one_topic, is_known, IsRange}
use Rattle.wc_hooks.proofs.Lists.{by_bool, not_true, keeps_first, drops_first, all_at, all_drop, all_kept, filter_all, filter_none, map_none}
use Rattle.wc_hooks.proofs.Orders.{is_topic, topic_rank, topics_total, lower_first, topics_fall, before_is_none, between_is_one, topic_same}
use Rattle.wc_hooks.proofs.Puts.{falls_drop}
use Rattle.wc_hooks.proofs.Bits.{opened_here}

-- a test that no slot passes after one that fails it
partitioned : (p : Slot → Bool) → ((x y : Slot) → precedes (slot_rank y) (slot_rank x) ≡ false → p y ≡ true → p x ≡ true) → (xs : List Slot) → falls_by slot_rank xs ≡ true → IsPartitionedBy p xs
partitioned p down [] h i j d le lt t = absurd (omega arith)
partitioned p down (x ∷ xs) h zero zero d le lt t = t
partitioned p down (x ∷ xs) h zero (suc j) d le lt t = down x (get_or xs j d) (not_true _ (all_at (λ y. not (precedes (slot_rank y) (slot_rank x))) xs j d (omega (arith, lt)) (and_parts (list_all (λ y. not (precedes (slot_rank y) (slot_rank x))) xs) (falls_by slot_rank xs) h).0)) t
partitioned p down (x ∷ xs) h (suc i) zero d le lt t = absurd (omega (arith, le))
partitioned p down (x ∷ xs) h (suc i) (suc j) d le lt t = partitioned p down xs (and_parts (list_all (λ y. not (precedes (slot_rank y) (slot_rank x))) xs) (falls_by slot_rank xs) h).1 i j d (omega (arith, le)) (omega (arith, lt)) t

abbrev pub is_first : HookKind → List ℕ → Slot → Bool
is_first kind key s = is_lt (topic_order s.kind s.key kind key)

pub first_partition : (kind : HookKind) (key : List ℕ) (xs : List Slot) → falls_by slot_rank xs ≡ true → IsPartitionedBy (is_first kind key) xs
first_partition kind key xs h = partitioned (is_first kind key) (λ x y fall t. lower_first topics_total (slot_rank x) (slot_rank y) (topic_rank kind key) (topics_fall (slot_rank x) (slot_rank y) fall) t) xs h

-- from the places to the parts of the list
front_passes : (p : Slot → Bool) (xs : List Slot) (i : ℕ) → i ≤ length xs → ((k : ℕ) (d : Slot) → k < i → p (get_or xs k d) ≡ true) → list_all p (take i xs) ≡ true
front_passes p xs zero le h = refl
front_passes p [] (suc i) le h = refl
front_passes p (x ∷ xs) (suc i) le h = and_from _ _ (h 0 x (omega arith)) (front_passes p xs i (omega (arith, le)) (λ k d lt. h (suc k) d (omega (arith, lt))))

back_passes : (p : Slot → Bool) (xs : List Slot) (i : ℕ) → ((k : ℕ) (d : Slot) → i ≤ k → k < length xs → p (get_or xs k d) ≡ true) → list_all p (drop i xs) ≡ true
back_passes p [] zero h = refl
back_passes p [] (suc i) h = refl
back_passes p (x ∷ xs) zero h = and_from _ _ (h 0 x (omega arith) (omega arith)) (back_passes p xs zero (λ k d le lt. h (suc k) d (omega arith) (omega (arith, lt))))
back_passes p (x ∷ xs) (suc i) h = back_passes p xs i (λ k d le lt. h (suc k) d (omega (arith, le)) (omega (arith, lt)))

all_less : (p q : Slot → Bool) → ((s : Slot) → p s ≡ true → q s ≡ true) → (xs : List Slot) → list_all p xs ≡ true → list_all q xs ≡ true
all_less p q more [] h = refl
all_less p q more (x ∷ xs) h = let parts = and_parts (p x) (list_all p xs) h in and_from _ _ (more x parts.0) (all_less p q more xs parts.1)

-- of those that are not before the kind and key, its slots come first
here_partition : (kind : HookKind) (key : List ℕ) (xs : List Slot) → falls_by slot_rank xs ≡ true → list_all (λ s. not (is_first kind key s)) xs ≡ true → IsPartitionedBy (is_slot_for kind key) xs
here_partition kind key [] h low i j d le lt t = absurd (omega arith)
here_partition kind key (x ∷ xs) h low zero zero d le lt t = t
here_partition kind key (x ∷ xs) h low zero (suc j) d le lt t =
    between_is_one kind key (slot_rank x) (slot_rank (get_or xs j d))
    (not_true _ (and_parts (not (is_first kind key x)) (list_all (λ s. not (is_first kind key s)) xs) low).0)
    (not_true _ (all_at (λ y. not (precedes (slot_rank y) (slot_rank x))) xs j d (omega (arith, lt)) (and_parts (list_all (λ y. not (precedes (slot_rank y) (slot_rank x))) xs) (falls_by slot_rank xs) h).0))
    t
here_partition kind key (x ∷ xs) h low (suc i) zero d le lt t = absurd (omega (arith, le))
here_partition kind key (x ∷ xs) h low (suc i) (suc j) d le lt t =
    here_partition kind key xs (and_parts (list_all (λ y. not (precedes (slot_rank y) (slot_rank x))) xs) (falls_by slot_rank xs) h).1 (and_parts (not (is_first kind key x)) (list_all (λ s. not (is_first kind key s)) xs) low).1 i j d (omega (arith, le)) (omega (arith, lt)) t

drop_more : (s n : ℕ) (xs : List Slot) → drop n (drop s xs) ≡ drop (s + n) xs
drop_more zero n xs = let e : n ≡ 0 + n = omega arith in ap (λ k. drop k xs) e
drop_more (suc s) n [] = drop-nil n ∙ sym (drop-nil (suc s + n))
drop_more (suc s) n (x ∷ xs) = drop_more s n xs ∙ (let e : suc (s + n) ≡ suc s + n = omega arith in ap (λ k. drop k (x ∷ xs)) e)

pub not_first : (kind : HookKind) (key : List ℕ) (xs : List Slot) (start : ℕ) → IsPartitionPoint (λ y. is_first kind key y ≡ true) (λ y. is_first kind key y ≡ false) xs start → list_all (λ s. not (is_first kind key s)) (drop start xs) ≡ true
not_first kind key xs start h = back_passes (λ s. not (is_first kind key s)) xs start (λ k d le lt. ap not (h.1 k d le lt))

pub others_partition : (kind : HookKind) (key : List ℕ) (xs : List Slot) (start : ℕ) → falls_by slot_rank xs ≡ true → IsPartitionPoint (λ y. is_first kind key y ≡ true) (λ y. is_first kind key y ≡ false) xs start → IsPartitionedBy (is_slot_for kind key) (drop start xs)
others_partition kind key xs start h point = here_partition kind key (drop start xs) (falls_drop slot_rank start xs h) (not_first kind key xs start point)

pub is_range : (kind : HookKind) (key : List ℕ) (xs : List Slot) (start count : ℕ) → start ≤ length xs → count ≤ length (drop start xs) → IsPartitionPoint (λ y. is_first kind key y ≡ true) (λ y. is_first kind key y ≡ false) xs start → IsPartitionPoint (λ y. is_slot_for kind key y ≡ true) (λ y. is_slot_for kind key y ≡ false) (drop start xs) count → IsRange kind key xs start count
is_range kind key xs start count le lt first here =
    let n = length-drop start xs in record {
      inside = omega (arith, n, le, lt);
      front = all_less (is_first kind key) (λ s. not (is_slot_for kind key s)) (λ s t. ap not (before_is_none kind key (slot_rank s) t)) (take start xs) (front_passes (is_first kind key) xs start le (λ k d below. first.0 k d (omega arith) below));
      here = front_passes (is_slot_for kind key) (drop start xs) count lt (λ k d below. here.0 k d (omega arith) below);
      rest = ap (list_all (λ s. not (is_slot_for kind key s))) (sym (drop_more start count xs)) ∙ back_passes (λ s. not (is_slot_for kind key s)) (drop start xs) count (λ k d above below. ap not (here.1 k d above below));
    }

-- the slots of the range are those of the kind and key
filter-append : (p : Slot → Bool) (xs ys : List Slot) → filter p (xs ++ ys) ≡ filter p xs ++ filter p ys
filter-append p [] ys = refl
filter-append p (x ∷ xs) ys = by_bool (p x)
    (λ t. keeps_first p x (xs ++ ys) t ∙ ap (λ l. x ∷ l) (filter-append p xs ys) ∙ ap (λ l. l ++ filter p ys) (sym (keeps_first p x xs t)))
    (λ t. drops_first p x (xs ++ ys) t ∙ filter-append p xs ys ∙ ap (λ l. l ++ filter p ys) (sym (drops_first p x xs t)))

pub cut_in_two : (n : ℕ) (xs : List Slot) → take n xs ++ drop n xs ≡ xs
cut_in_two zero xs = refl
cut_in_two (suc n) [] = refl
cut_in_two (suc n) (x ∷ xs) = ap (λ l. x ∷ l) (cut_in_two n xs)

none_after : (xs : List Slot) → xs ++ [] ≡ xs
none_after [] = refl
none_after (x ∷ xs) = ap (λ l. x ∷ l) (none_after xs)

pub range_is : (kind : HookKind) (key : List ℕ) (xs : List Slot) (start count : ℕ) → IsRange kind key xs start count → filter (is_slot_for kind key) xs ≡ take count (drop start xs)
range_is kind key xs start count r =
    let p = is_slot_for kind key in
    let rest : filter p (drop start xs) ≡ take count (drop start xs) =
    ap (filter p) (sym (cut_in_two count (drop start xs)))
    ∙ filter-append p (take count (drop start xs)) (drop count (drop start xs))
    ∙ (λ i. filter_all p (take count (drop start xs)) r.here i ++ (ap (filter p) (drop_more start count xs) ∙ filter_none p (drop (start + count) xs) r.rest) i)
    ∙ none_after (take count (drop start xs)) in
    ap (filter p) (sym (cut_in_two start xs))
    ∙ filter-append p (take start xs) (drop start xs)
    ∙ (λ i. filter_none p (take start xs) r.front i ++ rest i)

-- all slots of a kind and a key are of one
one_of : (kind : HookKind) (key : List ℕ) (xs : List Slot) → list_all (is_slot_for kind key) xs ≡ true → one_topic xs ≡ true
one_of kind key [] h = refl
one_of kind key (x ∷ xs) h =
    let parts = and_parts (is_slot_for kind key x) (list_all (is_slot_for kind key) xs) h in
    let same = topic_same kind key (slot_rank x) parts.0 in
    (λ i. list_all (is_slot_for (same.0 i) (same.1 i)) xs) ∙ parts.1

pub range_one : (kind : HookKind) (key : List ℕ) (xs : List Slot) (start count : ℕ) → IsRange kind key xs start count → one_topic (take count (drop start xs)) ≡ true
range_one kind key xs start count r = one_of kind key (take count (drop start xs)) r.here

-- what a pass takes: those that are enabled
opens : (k : ℕ) (kind : HookKind) (key : List ℕ) (s : Slot) → is_slot_for kind key s ≡ true → with_opening k kind key s ≡ seen_opening k s
opens k kind key s t = ap (λ b. if b then seen_opening k s else s) t

now_seen : (k hooked : ℕ) (kind : HookKind) (key : List ℕ) (s : Slot) → k < 32 → is_slot_for kind key s ≡ true → nat_le s.id.0 hooked ≡ true → in_snapshot k hooked (with_opening k kind key s) ≡ s.enabled
now_seen k hooked kind key s le t known = ap (in_snapshot k hooked) (opens k kind key s t) ∙ ap (λ b. b && was_of k (seen_opening k s)) known ∙ opened_here s.past k s.enabled le

not_both_true : (g e : Bool) → (not g || not e) ≡ true → not g ≡ false → e ≡ false
not_both_true true true k t = absurd (false≢true k)
not_both_true true false k t = refl
not_both_true false e k t = absurd (false≢true (sym t))

abbrev rows_on : HookKind → List ℕ → List Slot → List Entry
rows_on kind key xs = hooks_on kind key (live_rows xs)

rows_out : (kind : HookKind) (key : List ℕ) (x : Slot) (xs : List Slot) → is_slot_for kind key x ≡ false → rows_on kind key (x ∷ xs) ≡ rows_on kind key xs
rows_out kind key x xs t = by_bool (is_live x)
    (λ l. ap (λ ys. hooks_on kind key (map row_of ys)) (keeps_first is_live x xs l) ∙ ap (λ rows. map entry_of (filter (λ row. row.enabled) rows)) (drops_first (is_for kind key) (row_of x) (live_rows xs) t))
    (λ l. ap (λ ys. hooks_on kind key (map row_of ys)) (drops_first is_live x xs l))

rows_disabled : (kind : HookKind) (key : List ℕ) (x : Slot) (xs : List Slot) → is_slot_for kind key x ≡ true → x.enabled ≡ false → rows_on kind key (x ∷ xs) ≡ rows_on kind key xs
rows_disabled kind key x xs t e = by_bool (is_live x)
    (λ l. ap (λ ys. hooks_on kind key (map row_of ys)) (keeps_first is_live x xs l)
    ∙ ap (λ rows. map entry_of (filter (λ row. row.enabled) rows)) (keeps_first (is_for kind key) (row_of x) (live_rows xs) t)
    ∙ ap (map entry_of) (drops_first (λ row. row.enabled) (row_of x) (rows_filed kind key (live_rows xs)) e))
    (λ l. ap (λ ys. hooks_on kind key (map row_of ys)) (drops_first is_live x xs l))

rows_enabled : (kind : HookKind) (key : List ℕ) (x : Slot) (xs : List Slot) → is_slot_for kind key x ≡ true → is_live x ≡ true → x.enabled ≡ true → rows_on kind key (x ∷ xs) ≡ slot_entry x ∷ rows_on kind key xs
rows_enabled kind key x xs t l e =
    ap (λ ys. hooks_on kind key (map row_of ys)) (keeps_first is_live x xs l)
    ∙ ap (λ rows. map entry_of (filter (λ row. row.enabled) rows)) (keeps_first (is_for kind key) (row_of x) (live_rows xs) t)
    ∙ ap (map entry_of) (keeps_first (λ row. row.enabled) (row_of x) (rows_filed kind key (live_rows xs)) e)

pub takes_enabled : (k hooked : ℕ) (kind : HookKind) (key : List ℕ) (xs : List Slot) → k < 32 → list_all (is_known hooked) xs ≡ true → map slot_entry (filter (in_snapshot k hooked) (map (with_opening k kind key) (filter (is_slot_for kind key) xs))) ≡ hooks_on kind key (live_rows xs)
takes_enabled k hooked kind key [] le known = refl
takes_enabled k hooked kind key (x ∷ xs) le known =
    let parts = and_parts (is_known hooked x) (list_all (is_known hooked) xs) known in
    let x_parts = and_parts (nat_le x.id.0 hooked) (not x.gone || not x.enabled) parts.0 in
    let f = with_opening k kind key in
    let p = is_slot_for kind key in
    let q = in_snapshot k hooked in
    let ih = takes_enabled k hooked kind key xs le parts.1 in
    by_bool (p x)
    (λ t. let sees = now_seen k hooked kind key x le t x_parts.0 in
    ap (λ l. map slot_entry (filter q (map f l))) (keeps_first p x xs t) ∙ by_bool x.enabled
    (λ e. ap (map slot_entry) (keeps_first q (f x) (map f (filter p xs)) (sees ∙ e))
    ∙ (λ i. slot_entry (opens k kind key x t i) ∷ ih i)
    ∙ sym (rows_enabled kind key x xs t (by_bool (is_live x) (λ l. l) (λ l. absurd (false≢true (sym (not_both_true x.gone x.enabled x_parts.1 l) ∙ e)))) e))
    (λ e. ap (map slot_entry) (drops_first q (f x) (map f (filter p xs)) (sees ∙ e)) ∙ ih ∙ sym (rows_disabled kind key x xs t e)))
    (λ t. ap (λ l. map slot_entry (filter q (map f l))) (drops_first p x xs t) ∙ ih ∙ sym (rows_out kind key x xs t))

-- and what it goes through
topic_first : (kind : HookKind) (key : List ℕ) (ws : List Slot) → list_all (is_slot_for kind key) ws ≡ true → first_topic ws ≡ (if length ws == 0 then None else Some (record { kind = kind; key = key }))
topic_first kind key [] h = refl
topic_first kind key (x ∷ xs) h =
    let parts = and_parts (is_slot_for kind key x) (list_all (is_slot_for kind key) xs) h in
    let same = topic_same kind key (slot_rank x) parts.0 in
    let some : (length (x ∷ xs) == 0) ≡ false = grind (arith, nat_tests) in
    (λ i. Some (record { kind = same.0 i; key = same.1 i })) ∙ sym (ap (λ b. if b then None else Some (record { kind = kind; key = key })) some)

pub filed_are : (kind : HookKind) (key : List ℕ) (xs : List Slot) → length (filed_under kind key (map slot_filing xs)) ≡ length (filter (is_slot_for kind key) xs)
filed_are kind key [] = refl
filed_are kind key (x ∷ xs) = by_bool (is_slot_for kind key x)
    (λ t. ap length (keeps_first (λ f. is_topic kind key (record { kind = f.kind; key = f.key; priority = f.priority })) (slot_filing x) (map slot_filing xs) t) ∙ ap suc (filed_are kind key xs) ∙ sym (ap length (keeps_first (is_slot_for kind key) x xs t)))
    (λ t. ap length (drops_first (λ f. is_topic kind key (record { kind = f.kind; key = f.key; priority = f.priority })) (slot_filing x) (map slot_filing xs) t) ∙ filed_are kind key xs ∙ sym (ap length (drops_first (is_slot_for kind key) x xs t)))

pub topic_is_over : (kind : HookKind) (key : List ℕ) (xs : List Slot) → first_topic (filter (is_slot_for kind key) xs) ≡ topic_in kind key (map slot_filing xs)
topic_is_over kind key xs =
    topic_first kind key (filter (is_slot_for kind key) xs) (all_kept (is_slot_for kind key) (is_slot_for kind key) (λ s t. t) xs)
    ∙ ap (λ n. if n == 0 then None else Some (record { kind = kind; key = key })) (sym (filed_are kind key xs))

-- outside of the range nothing opens
pub opens_none : (k : ℕ) (kind : HookKind) (key : List ℕ) (xs : List Slot) → list_all (λ s. not (is_slot_for kind key s)) xs ≡ true → map (with_opening k kind key) xs ≡ xs
opens_none k kind key xs h = map_none (is_slot_for kind key) (with_opening k kind key) (λ s t. ap (λ b. if b then seen_opening k s else s) t) xs h

pub opened_all : (k : ℕ) (kind : HookKind) (key : List ℕ) (xs : List Slot) (start count at : ℕ) → IsRange kind key xs start count → start + count ≤ at → map (with_opening k kind key) (take at xs) ++ drop at xs ≡ map (with_opening k kind key) xs
opened_all k kind key xs start count at r le =
    let f = with_opening k kind key in
    let e : start + count + (at - (start + count)) ≡ at = omega (arith, le) in
    let past : drop (at - (start + count)) (drop (start + count) xs) ≡ drop at xs = drop_more (start + count) (at - (start + count)) xs ∙ ap (λ n. drop n xs) e in
    let none : list_all (λ s. not (is_slot_for kind key s)) (drop at xs) ≡ true = ap (list_all (λ s. not (is_slot_for kind key s))) (sym past) ∙ all_drop (λ s. not (is_slot_for kind key s)) (at - (start + count)) (drop (start + count) xs) r.rest in
    ap (λ l. map f (take at xs) ++ l) (sym (opens_none k kind key (drop at xs) none)) ∙ sym (map-append f (take at xs) (drop at xs)) ∙ ap (map f) (cut_in_two at xs)
