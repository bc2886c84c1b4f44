-- What open passes see, while a slot is put in.
use Rattle.std.proofs.Common.{◌≡◌, ℕ, zero, suc, ◌+◌, ◌-◌, ◌<◌, ◌≤◌, Bool, true, false, not, Option, Some, None, List, [], ◌∷◌, length, map, take, drop, arith, refl, sym, ap, ◌∙◌, subst}
use Rattle.std.specs.Prelude.{filter, insert, ◌&&◌, nat_lt, nat_le, if◌then◌else◌}
use Rattle.std.specs.List.{list_all}
use Rattle.std.proofs.lemmas.Bool.{and_parts, and_from}
use Rattle.std.proofs.lemmas.Bool.Decides.{nat_tests}
use Rattle.std.proofs.lemmas.List.Edits.{length-insert}
use Rattle.std.proofs.Math.Seq.{drop-nil}
use Rattle.std.proofs.Common.{length-drop}
use Rattle.std.proofs.lemmas.List.{length-take-le}
use Rattle.wc_hooks.specs.declared.cursor.Cursor.{Cursor}
use Rattle.wc_hooks.specs.declared.kind.HookKind.{HookKind}
use Rattle.wc_hooks.specs.declared.slot.Slot.{Slot}
use Rattle.wc_hooks.specs.Ranks.{precedes, falls_by}
use Rattle.wc_hooks.specs.Table.{Going}
use Rattle.wc_hooks.specs.Slots.{slot_rank, slot_entry, is_slot_for, was_of, in_snapshot, window, first_topic, going_at, goings, moved_cursor, moved_place, one_topic, CursorFits, AllCursorsFit, is_low}
use Rattle.wc_hooks.proofs.Lists.{by_bool, not_true, keeps_first, drops_first}
use Rattle.wc_hooks.proofs.Orders.{amid_is_one, topic_self}
use Rattle.wc_hooks.proofs.Puts.{falls_take, falls_drop}

filter_insert : (p : Slot → Bool) (xs : List Slot) (i : ℕ) (new : Slot) → p new ≡ false → filter p (insert xs i new) ≡ filter p xs
filter_insert p xs zero new f = drops_first p new xs f
filter_insert p [] (suc i) new f = drops_first p new [] f
filter_insert p (x ∷ xs) (suc i) new f = by_bool (p x)
    (λ t. keeps_first p x (insert xs i new) t ∙ ap (λ l. x ∷ l) (filter_insert p xs i new f) ∙ sym (keeps_first p x xs t))
    (λ t. drops_first p x (insert xs i new) t ∙ filter_insert p xs i new f ∙ sym (drops_first p x xs t))

-- put in at a place or after it: it is no part of the snapshot
insert_after : (p : Slot → Bool) (xs : List Slot) (i at : ℕ) (new : Slot) → p new ≡ false → at ≤ i → filter p (drop at (insert xs i new)) ≡ filter p (drop at xs)
insert_after p xs i zero new f le = filter_insert p xs i new f
insert_after p xs zero (suc at) new f le = absurd (omega arith)
insert_after p [] (suc i) (suc at) new f le = ap (filter p) (drop-nil at)
insert_after p (x ∷ xs) (suc i) (suc at) new f le = insert_after p xs i at new f (omega arith)

-- put in in front of it: one goes one place on
insert_before : (xs : List Slot) (i at : ℕ) (new : Slot) → i ≤ at → at ≤ length xs → drop (at + 1) (insert xs i new) ≡ drop at xs
insert_before xs zero at new le in_list = let n : suc at ≡ at + 1 = omega arith in sym (ap (λ k. drop k (new ∷ xs)) n)
insert_before xs (suc i) zero new le in_list = absurd (omega arith)
insert_before [] (suc i) (suc at) new le in_list = absurd (omega arith)
insert_before (x ∷ xs) (suc i) (suc at) new le in_list = let n : suc (at + 1) ≡ suc at + 1 = omega arith in sym (ap (λ k. drop k (x ∷ insert xs i new)) n) ∙ insert_before xs i at new (omega arith) (omega arith)

drop_insert : (s i j : ℕ) (xs : List Slot) (new : Slot) → i ≡ s + j → s ≤ length xs → drop s (insert xs i new) ≡ insert (drop s xs) j new
drop_insert zero i j xs new e le = let n : i ≡ j = omega arith in ap (λ k. insert xs k new) n
drop_insert (suc s) i j [] new e le = absurd (omega arith)
drop_insert (suc s) zero j (x ∷ xs) new e le = absurd (omega arith)
drop_insert (suc s) (suc i) j (x ∷ xs) new e le = drop_insert s i j xs new (omega arith) (omega arith)

take_within : (n j : ℕ) (xs : List Slot) (new : Slot) → j ≤ n → n ≤ length xs → take (n + 1) (insert xs j new) ≡ insert (take n xs) j new
take_within n zero xs new le in_list = let m : suc n ≡ n + 1 = omega arith in sym (ap (λ k. take k (new ∷ xs)) m)
take_within zero (suc j) xs new le in_list = absurd (omega arith)
take_within (suc n) (suc j) [] new le in_list = absurd (omega arith)
take_within (suc n) (suc j) (x ∷ xs) new le in_list = let m : suc (n + 1) ≡ suc n + 1 = omega arith in sym (ap (λ k. take k (x ∷ insert xs j new)) m) ∙ ap (λ l. x ∷ l) (take_within n j xs new (omega arith) (omega arith))

take_beyond : (n j : ℕ) (xs : List Slot) (new : Slot) → n ≤ j → n ≤ length xs → take n (insert xs j new) ≡ take n xs
take_beyond zero j xs new le in_list = refl
take_beyond (suc n) zero xs new le in_list = absurd (omega arith)
take_beyond (suc n) (suc j) [] new le in_list = absurd (omega arith)
take_beyond (suc n) (suc j) (x ∷ xs) new le in_list = ap (λ l. x ∷ l) (take_beyond n j xs new (omega arith) (omega arith))

first_stays : (xs : List Slot) (j : ℕ) (new : Slot) → 0 < j → 0 < length xs → first_topic (insert xs j new) ≡ first_topic xs
first_stays [] j new lt some = absurd (omega arith)
first_stays (x ∷ xs) zero new lt some = absurd (omega arith)
first_stays (x ∷ xs) (suc j) new lt some = refl

-- where it is put in between two of a kind and key, it is of them
amid : (kind : HookKind) (key : List ℕ) (x a : Slot) (ws : List Slot) (k : ℕ) → k < length ws → is_slot_for kind key x ≡ true → list_all (is_slot_for kind key) ws ≡ true → falls_by slot_rank (x ∷ insert ws k a) ≡ true → list_all (is_slot_for kind key) (insert ws k a) ≡ true
amid kind key x a [] k lt hx h f = absurd (omega arith)
amid kind key x a (w ∷ ws) zero lt hx h f =
    let all = and_parts (is_slot_for kind key w) (list_all (is_slot_for kind key) ws) h in
    let under_x = and_parts (list_all (λ y. not (precedes (slot_rank y) (slot_rank x))) (a ∷ w ∷ ws)) (falls_by slot_rank (a ∷ w ∷ ws)) f in
    let a_x = and_parts (not (precedes (slot_rank a) (slot_rank x))) (list_all (λ y. not (precedes (slot_rank y) (slot_rank x))) (w ∷ ws)) under_x.0 in
    let under_a = and_parts (list_all (λ y. not (precedes (slot_rank y) (slot_rank a))) (w ∷ ws)) (falls_by slot_rank (w ∷ ws)) under_x.1 in
    let w_a = and_parts (not (precedes (slot_rank w) (slot_rank a))) (list_all (λ y. not (precedes (slot_rank y) (slot_rank a))) ws) under_a.0 in
    and_from _ _ (amid_is_one kind key (slot_rank x) (slot_rank a) (slot_rank w) hx (not_true _ a_x.0) (not_true _ w_a.0) all.0) h
amid kind key x a (w ∷ ws) (suc k) lt hx h f =
    let all = and_parts (is_slot_for kind key w) (list_all (is_slot_for kind key) ws) h in
    let under_x = and_parts (list_all (λ y. not (precedes (slot_rank y) (slot_rank x))) (w ∷ insert ws k a)) (falls_by slot_rank (w ∷ insert ws k a)) f in
    and_from _ _ all.0 (amid kind key w a ws k (omega arith) all.0 all.1 under_x.1)

one_stays : (xs : List Slot) (j : ℕ) (a : Slot) → 0 < j → j < length xs → one_topic xs ≡ true → falls_by slot_rank (insert xs j a) ≡ true → one_topic (insert xs j a) ≡ true
one_stays [] j a lo hi h f = absurd (omega arith)
one_stays (x ∷ xs) zero a lo hi h f = absurd (omega arith)
one_stays (x ∷ xs) (suc k) a lo hi h f = amid x.kind x.key x a xs k (omega arith) (topic_self x.kind x.key) h f

-- the three ways in which a cursor meets a slot that is put in
moved_on : (i : ℕ) (c : Cursor) → nat_le i c.start ≡ true → moved_cursor i c ≡ record c { start = c.start + 1 }
moved_on i c t = rw t refl

moved_amid : (i : ℕ) (c : Cursor) → nat_le i c.start ≡ false → nat_lt i (c.start + c.count) ≡ true → moved_cursor i c ≡ record c { count = c.count + 1; seen = if nat_lt i (c.start + c.seen) then c.seen + 1 else c.seen }
moved_amid i c t u = rw (t, u) refl

moved_not : (i : ℕ) (c : Cursor) → nat_le i c.start ≡ false → nat_lt i (c.start + c.count) ≡ false → moved_cursor i c ≡ c
moved_not i c t u = rw (t, u) refl

window_on : (i : ℕ) (xs : List Slot) (a : Slot) (c : Cursor) → i ≤ c.start → c.start + c.count ≤ length xs → window (record c { start = c.start + 1 }) (insert xs i a) ≡ window c xs
window_on i xs a c le inside = ap (take c.count) (insert_before xs i c.start a le (omega arith))

window_amid : (i : ℕ) (xs : List Slot) (a : Slot) (c : Cursor) (seen : ℕ) → c.start < i → i < c.start + c.count → c.start + c.count ≤ length xs → window (record c { count = c.count + 1; seen = seen }) (insert xs i a) ≡ insert (window c xs) (i - c.start) a
window_amid i xs a c seen lo hi inside =
    let n = length-drop c.start xs in
    ap (take (c.count + 1)) (drop_insert c.start i (i - c.start) xs a (omega arith) (omega arith))
    ∙ take_within c.count (i - c.start) (drop c.start xs) a (omega arith) (omega (arith, n))

window_not : (i : ℕ) (xs : List Slot) (a : Slot) (c : Cursor) → c.start + c.count ≤ i → c.start + c.count ≤ length xs → window c (insert xs i a) ≡ window c xs
window_not i xs a c le inside =
    let n = length-drop c.start xs in
    ap (take c.count) (drop_insert c.start i (i - c.start) xs a (omega arith) (omega arith))
    ∙ take_beyond c.count (i - c.start) (drop c.start xs) a (omega arith) (omega (arith, n))

pub length_window : (xs : List Slot) (c : Cursor) → c.start + c.count ≤ length xs → length (window c xs) ≡ c.count
length_window xs c inside = let n = length-drop c.start xs in length-take-le c.count (drop c.start xs) (omega (arith, n))

-- what a pass is seen as, by the slots that it goes through
abbrev pub going_in : ℕ → ℕ → ℕ → ℕ → List Slot → Going
going_in p hooked seen looked ws = record { left = map slot_entry (filter (in_snapshot p hooked) (drop seen ws)); looked = looked; over = first_topic ws }

left_amid : (p hooked seen i start : ℕ) (ws : List Slot) (a : Slot) → in_snapshot p hooked a ≡ false → seen ≤ length ws → start < i → filter (in_snapshot p hooked) (drop (if nat_lt i (start + seen) then seen + 1 else seen) (insert ws (i - start) a)) ≡ filter (in_snapshot p hooked) (drop seen ws)
left_amid p hooked seen i start ws a out le lo = by_bool (nat_lt i (start + seen))
    (λ t. let lt : i < start + seen = grind (arith, nat_tests) in rw t (ap (filter (in_snapshot p hooked)) (insert_before ws (i - start) seen a (omega arith) le)))
    (λ t. let ge : start + seen ≤ i = grind (arith, nat_tests) in rw t (insert_after (in_snapshot p hooked) ws (i - start) seen a out (omega arith)))

going_moved : (p i hooked : ℕ) (xs : List Slot) (a : Slot) (c : Cursor) → hooked < a.id.0 → CursorFits hooked xs c → going_at p (moved_cursor i c) (insert xs i a) ≡ going_at p c xs
going_moved p i hooked xs a c new s =
    let inside = s.inside in let within = s.within in let drawn = s.drawn in
    let late : nat_le a.id.0 c.hooked ≡ false = grind (arith, nat_tests) in
    let out : in_snapshot p c.hooked a ≡ false = ap (λ b. b && was_of p a) late in
    by_bool (nat_le i c.start)
    (λ t. let le : i ≤ c.start = grind (arith, nat_tests) in
    ap (λ d. going_at p d (insert xs i a)) (moved_on i c t) ∙ ap (going_in p c.hooked c.seen c.looked) (window_on i xs a c le inside))
    (λ t. by_bool (nat_lt i (c.start + c.count))
    (λ u. let lo : c.start < i = grind (arith, nat_tests) in let hi : i < c.start + c.count = grind (arith, nat_tests) in
    let seen = if nat_lt i (c.start + c.seen) then c.seen + 1 else c.seen in
    let n = length_window xs c inside in
    ap (λ d. going_at p d (insert xs i a)) (moved_amid i c t u)
    ∙ ap (going_in p c.hooked seen c.looked) (window_amid i xs a c seen lo hi inside)
    ∙ (λ j. record { left = map slot_entry (left_amid p c.hooked c.seen i c.start (window c xs) a out (omega (arith, n)) lo j); looked = c.looked; over = first_stays (window c xs) (i - c.start) a (omega arith) (omega (arith, n)) j }))
    (λ u. let ge : c.start + c.count ≤ i = grind (arith, nat_tests) in
    ap (λ d. going_at p d (insert xs i a)) (moved_not i c t u) ∙ ap (going_in p c.hooked c.seen c.looked) (window_not i xs a c ge inside)))

pub goings_moved : (p i hooked : ℕ) (xs : List Slot) (a : Slot) (cs : List (Option Cursor)) → hooked < a.id.0 → AllCursorsFit hooked xs cs → goings p (insert xs i a) (map (moved_place i) cs) ≡ goings p xs cs
goings_moved p i hooked xs a [] new s = refl
goings_moved p i hooked xs a (None ∷ cs) new s = ap (λ l. None ∷ l) (goings_moved (p + 1) i hooked xs a cs new s)
goings_moved p i hooked xs a (Some c ∷ cs) new s = (λ j. Some (going_moved p i hooked xs a c new s.0 j) ∷ goings_moved (p + 1) i hooked xs a cs new s.1 j)

stands_moved : (i hooked next : ℕ) (xs : List Slot) (a : Slot) (c : Cursor) → i ≤ length xs → hooked ≤ next → falls_by slot_rank (insert xs i a) ≡ true → CursorFits hooked xs c → CursorFits next (insert xs i a) (moved_cursor i c)
stands_moved i hooked next xs a c il up f s =
    let inside = s.inside in let within = s.within in let counted = s.counted in let drawn = s.drawn in
    let more = length-insert xs i a il in
    by_bool (nat_le i c.start)
    (λ t. let le : i ≤ c.start = grind (arith, nat_tests) in
    subst (CursorFits next (insert xs i a)) (sym (moved_on i c t)) (record {
      inside = omega (arith, more);
      within = within;
      counted = counted;
      drawn = omega arith;
      topic = ap one_topic (window_on i xs a c le inside) ∙ s.topic;
    }))
    (λ t. by_bool (nat_lt i (c.start + c.count))
    (λ u. let lo : c.start < i = grind (arith, nat_tests) in let hi : i < c.start + c.count = grind (arith, nat_tests) in
    let n = length_window xs c inside in
    let w = λ (seen : ℕ). window_amid i xs a c seen lo hi inside in
    let fall : falls_by slot_rank (insert (window c xs) (i - c.start) a) ≡ true = ap (falls_by slot_rank) (sym (w 0)) ∙ falls_take slot_rank (c.count + 1) (drop c.start (insert xs i a)) (falls_drop slot_rank c.start (insert xs i a) f) in
    let one : one_topic (insert (window c xs) (i - c.start) a) ≡ true = one_stays (window c xs) (i - c.start) a (omega arith) (omega (arith, n)) s.topic fall in
    subst (CursorFits next (insert xs i a)) (sym (moved_amid i c t u)) (amid_stands (c.start + c.seen) more w one))
    (λ u. let ge : c.start + c.count ≤ i = grind (arith, nat_tests) in
    subst (CursorFits next (insert xs i a)) (sym (moved_not i c t u)) (record {
      inside = omega (arith, more);
      within = within;
      counted = counted;
      drawn = omega arith;
      topic = ap one_topic (window_not i xs a c ge inside) ∙ s.topic;
    }))) where
      amid_stands : (edge : ℕ) → length (insert xs i a) ≡ length xs + 1 → ((seen : ℕ) → window (record c { count = c.count + 1; seen = seen }) (insert xs i a) ≡ insert (window c xs) (i - c.start) a) → one_topic (insert (window c xs) (i - c.start) a) ≡ true → CursorFits next (insert xs i a) (record c { count = c.count + 1; seen = if nat_lt i edge then c.seen + 1 else c.seen })
      amid_stands edge more w one =
          let inside = s.inside in let within = s.within in let counted = s.counted in let drawn = s.drawn in
          by_bool (nat_lt i edge)
          (λ t. rw t (record { inside = omega (arith, more); within = omega arith; counted = omega arith; drawn = omega arith; topic = ap one_topic (w (c.seen + 1)) ∙ one }))
          (λ t. rw t (record { inside = omega (arith, more); within = omega arith; counted = counted; drawn = omega arith; topic = ap one_topic (w c.seen) ∙ one }))

pub all_stand_moved : (i hooked next : ℕ) (xs : List Slot) (a : Slot) (cs : List (Option Cursor)) → i ≤ length xs → hooked ≤ next → falls_by slot_rank (insert xs i a) ≡ true → AllCursorsFit hooked xs cs → AllCursorsFit next (insert xs i a) (map (moved_place i) cs)
all_stand_moved i hooked next xs a [] il up f s = tt
all_stand_moved i hooked next xs a (None ∷ cs) il up f s = all_stand_moved i hooked next xs a cs il up f s
all_stand_moved i hooked next xs a (Some c ∷ cs) il up f s = (stands_moved i hooked next xs a c il up f s.0, all_stand_moved i hooked next xs a cs il up f s.1)

-- the ends of cursors can be moved
pub all_low : (hooked : ℕ) (xs : List Slot) (cs : List (Option Cursor)) → length xs < 18446744073709551615 → AllCursorsFit hooked xs cs → list_all is_low cs ≡ true
all_low hooked xs [] lt s = refl
all_low hooked xs (None ∷ cs) lt s = all_low hooked xs cs lt s
all_low hooked xs (Some c ∷ cs) lt s =
    let here = s.0 in
    let inside = here.inside in let within = here.within in
    let a : nat_lt (c.start + c.count) 18446744073709551615 ≡ true = grind (arith, nat_tests) in
    let b : nat_le c.seen c.count ≡ true = grind (arith, nat_tests) in
    and_from _ _ (and_from _ _ a b) (all_low hooked xs cs lt s.1)
