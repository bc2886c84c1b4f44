-- A pass that goes on over the slots, and what it gives.
use Rattle.std.proofs.Common.{◌≡◌, ℕ, zero, suc, ◌+◌, ◌<◌, ◌≤◌, Bool, true, false, not, Some, None, List, [], ◌∷◌, length, map, take, drop, get_or, arith, refl, sym, ap, ◌∙◌, subst, length-drop}
use Rattle.std.specs.Prelude.{filter, find, ◌&&◌, ◌||◌, ◌==◌, nat_le}
use Rattle.std.specs.List.{list_all, list_any}
use Rattle.std.proofs.lemmas.Bool.{and_parts, false≢true, true≢false, eq-eqb}
use Rattle.std.proofs.lemmas.Bool.Decides.{nat_tests}
use Rattle.std.proofs.lemmas.List.{drop_all}
use Rattle.std.proofs.Math.Seq.{drop-nil}
use Rattle.wc_hooks.specs.declared.cursor.Cursor.{Cursor}
use Rattle.wc_hooks.specs.declared.entry.Entry.{Entry}
use Rattle.wc_hooks.specs.declared.entry.HookId.{HookId}
use Rattle.wc_hooks.specs.declared.slot.Slot.{Slot}
use Rattle.wc_hooks.specs.Rows.{is_id, is_on}
use Rattle.wc_hooks.specs.Passes.{runs, may_run, following}
use Rattle.wc_hooks.specs.Slots.{slot_entry, is_slot, is_live, live_rows, in_snapshot, may_go, window, ahead, are_apart, is_known, found_entry, Walked}
use Rattle.wc_hooks.proofs.Lists.{by_bool, not_true, keeps_first, drops_first, any_first, any_rest}
use Rattle.wc_hooks.proofs.LiveRows.{any_live}

-- the slot at a place of the list
drop_at : (xs : List Slot) (i : ℕ) (s : Slot) → i < length xs → s ≡ get_or xs i s → drop i xs ≡ s ∷ drop (i + 1) xs
drop_at [] i s lt e = absurd (omega arith)
drop_at (x ∷ xs) zero s lt e = ap (λ y. y ∷ xs) (sym e)
drop_at (x ∷ xs) (suc i) s lt e = let n : suc (i + 1) ≡ suc i + 1 = omega arith in drop_at xs i s (omega arith) e ∙ ap (λ k. s ∷ drop k (x ∷ xs)) n

get_window : (xs : List Slot) (start count i : ℕ) (s : Slot) → i < count → start + count ≤ length xs → get_or (take count (drop start xs)) i s ≡ get_or xs (start + i) s
get_window xs zero count i s lt inside = in_front count i xs lt ∙ (let n : i ≡ 0 + i = omega arith in ap (λ k. get_or xs k s) n) where
  in_front : (n k : ℕ) (ys : List Slot) → k < n → get_or (take n ys) k s ≡ get_or ys k s
  in_front zero k ys lt = absurd (omega arith)
  in_front (suc n) k [] lt = refl
  in_front (suc n) zero (y ∷ ys) lt = refl
  in_front (suc n) (suc k) (y ∷ ys) lt = in_front n k ys (omega arith)
get_window [] (suc start) count i s lt inside = absurd (omega arith)
get_window (x ∷ xs) (suc start) count i s lt inside = get_window xs start count i s lt (omega arith) ∙ (let n : suc (start + i) ≡ suc start + i = omega arith in ap (λ k. get_or (x ∷ xs) k s) n)

-- on the way, none that was looked at may run
pub record OnWay (slots : List Slot) (marks : List Entry) (place : ℕ) (old new : Cursor) : Type 0 where
  pub given : find (may_go marks) (ahead place new slots) ≡ find (may_go marks) (ahead place old slots)
  pub left : following (may_go marks) (ahead place new slots) ≡ following (may_go marks) (ahead place old slots)
  pub start : new.start ≡ old.start
  pub count : new.count ≡ old.count
  pub hooked : new.hooked ≡ old.hooked
  pub within : new.seen ≤ new.count
  pub counted : new.looked ≤ new.seen
  pub onward : old.looked ≤ new.looked

pub on_way : (slots : List Slot) (marks : List Entry) (place : ℕ) (c : Cursor) → c.seen ≤ c.count → c.looked ≤ c.seen → OnWay slots marks place c c
on_way slots marks place c a b = record { given = refl; left = refl; start = refl; count = refl; hooked = refl; within = a; counted = b; onward = omega arith }

abbrev stepped : Cursor → Cursor
stepped c = record c { seen = c.seen + 1; looked = c.looked + 1 }

-- what a look at the next slot does to what is ahead
ahead_first : (slots : List Slot) (place : ℕ) (c : Cursor) (s : Slot) → c.seen < c.count → c.start + c.count ≤ length slots → s ≡ get_or slots (c.start + c.seen) s → ahead place c slots ≡ filter (in_snapshot place c.hooked) (s ∷ drop (c.seen + 1) (window c slots))
ahead_first slots place c s lt inside e =
    let n = length-drop c.start slots in
    let m : length (window c slots) ≡ c.count = length_of (drop c.start slots) c.count (omega (arith, n)) in
    ap (filter (in_snapshot place c.hooked)) (drop_at (window c slots) c.seen s (omega (arith, m)) (e ∙ sym (get_window slots c.start c.count c.seen s lt inside))) where
      length_of : (ys : List Slot) (n : ℕ) → n ≤ length ys → length (take n ys) ≡ n
      length_of ys zero le = refl
      length_of [] (suc n) le = absurd (omega arith)
      length_of (y ∷ ys) (suc n) le = let k = length_of ys n (omega arith) in omega arith

abbrev seen_and : ℕ → List Entry → Cursor → Slot → Bool
seen_and place marks c s = in_snapshot place c.hooked s && may_go marks s

find_skips : (p q : Slot → Bool) (s : Slot) (ss : List Slot) → (p s && q s) ≡ false → find q (filter p (s ∷ ss)) ≡ find q (filter p ss)
find_skips p q s ss out = by_bool (p s)
    (λ t. ap (find q) (keeps_first p s ss t) ∙ (let f : q s ≡ false = sym (ap (λ b. b && q s) t) ∙ out in rw f refl))
    (λ t. ap (find q) (drops_first p s ss t))

after_skips : (p q : Slot → Bool) (s : Slot) (ss : List Slot) → (p s && q s) ≡ false → following q (filter p (s ∷ ss)) ≡ following q (filter p ss)
after_skips p q s ss out = by_bool (p s)
    (λ t. ap (following q) (keeps_first p s ss t) ∙ (let f : q s ≡ false = sym (ap (λ b. b && q s) t) ∙ out in rw f refl))
    (λ t. ap (following q) (drops_first p s ss t))

find_takes : (p q : Slot → Bool) (s : Slot) (ss : List Slot) → p s ≡ true → q s ≡ true → find q (filter p (s ∷ ss)) ≡ Some s
find_takes p q s ss a b = ap (find q) (keeps_first p s ss a) ∙ rw b refl

after_takes : (p q : Slot → Bool) (s : Slot) (ss : List Slot) → p s ≡ true → q s ≡ true → following q (filter p (s ∷ ss)) ≡ filter p ss
after_takes p q s ss a b = ap (following q) (keeps_first p s ss a) ∙ rw b refl

pub way_past : (slots : List Slot) (marks : List Entry) (place : ℕ) (old c d : Cursor) (s : Slot) → c.seen < c.count → old.start + old.count ≤ length slots → OnWay slots marks place old c → s ≡ get_or slots (c.start + c.seen) s → d ≡ record c { seen = c.seen + 1; looked = c.looked + 1 } → (in_snapshot place c.hooked s && may_go marks s) ≡ false → OnWay slots marks place old d
way_past slots marks place old c d s lt inside w e n out =
    let a = w.start in let b = w.count in let k = w.counted in let u = w.onward in
    let next : OnWay slots marks place old (stepped c) =
    (let first = ahead_first slots place c s lt (omega arith) e in record {
      given = sym (ap (find (may_go marks)) first ∙ find_skips (in_snapshot place c.hooked) (may_go marks) s (drop (c.seen + 1) (window c slots)) out) ∙ w.given;
      left = sym (ap (following (may_go marks)) first ∙ after_skips (in_snapshot place c.hooked) (may_go marks) s (drop (c.seen + 1) (window c slots)) out) ∙ w.left;
      start = w.start;
      count = w.count;
      hooked = w.hooked;
      within = omega arith;
      counted = omega arith;
      onward = omega arith;
    }) in
    subst (OnWay slots marks place old) (sym n) next

pub way_found : (slots : List Slot) (marks : List Entry) (place : ℕ) (old c d : Cursor) (s : Slot) → c.seen < c.count → old.start + old.count ≤ length slots → OnWay slots marks place old c → s ≡ get_or slots (c.start + c.seen) s → d ≡ record c { seen = c.seen + 1; looked = c.looked + 1 } → in_snapshot place c.hooked s ≡ true → may_go marks s ≡ true → Walked slots marks place old d (Some (slot_entry s))
way_found slots marks place old c d s lt inside w e n f g =
    let a = w.start in let b = w.count in let k = w.counted in let u = w.onward in
    let next : Walked slots marks place old (stepped c) (Some (slot_entry s)) =
    (let first = ahead_first slots place c s lt (omega arith) e in record {
      given = ap found_entry (sym (sym w.given ∙ ap (find (may_go marks)) first ∙ find_takes (in_snapshot place c.hooked) (may_go marks) s (drop (c.seen + 1) (window c slots)) f g));
      left = sym (sym w.left ∙ ap (following (may_go marks)) first ∙ after_takes (in_snapshot place c.hooked) (may_go marks) s (drop (c.seen + 1) (window c slots)) f g);
      start = w.start;
      count = w.count;
      hooked = w.hooked;
      within = omega arith;
      counted = omega arith;
      onward = omega arith;
    }) in
    subst (λ (v : Cursor). Walked slots marks place old v (Some (slot_entry s))) (sym n) next

pub way_end : (slots : List Slot) (marks : List Entry) (place : ℕ) (old c : Cursor) → c.count ≤ c.seen → old.start + old.count ≤ length slots → OnWay slots marks place old c → Walked slots marks place old c None
way_end slots marks place old c le inside w =
    let short : length (window c slots) ≤ c.seen = taken_short c.count (drop c.start slots) c.seen le in
    let z : ahead place c slots ≡ [] = ap (filter (in_snapshot place c.hooked)) (drop_all c.seen (window c slots) short) in record {
      given = ap found_entry (sym (ap (find (may_go marks)) z) ∙ w.given);
      left = z ∙ sym (ap (following (may_go marks)) z) ∙ w.left;
      start = w.start;
      count = w.count;
      hooked = w.hooked;
      within = w.within;
      counted = w.counted;
      onward = w.onward;
    } where
      taken_short : (n : ℕ) (ys : List Slot) (m : ℕ) → n ≤ m → length (take n ys) ≤ m
      taken_short zero ys m le = omega arith
      taken_short (suc n) [] m le = omega arith
      taken_short (suc n) (y ∷ ys) zero le = absurd (omega arith)
      taken_short (suc n) (y ∷ ys) (suc m) le = let k = taken_short n ys m (omega arith) in omega arith

-- each slot tells by itself what the rows tell of its number
abbrev pub Each : (Slot → Type 0) → List Slot → Type 0
Each P [] = Unit {0}
Each P (x ∷ xs) = P x × Each P xs

each_both : (P Q R : Slot → Type 0) → ((x : Slot) → P x → Q x → R x) → (xs : List Slot) → Each P xs → Each Q xs → Each R xs
each_both P Q R f [] d e = tt
each_both P Q R f (x ∷ xs) d e = (f x d.0 e.0, each_both P Q R f xs d.1 e.1)

each_filter : (P : Slot → Type 0) (p : Slot → Bool) (xs : List Slot) → Each P xs → Each P (filter p xs)
each_filter P p [] e = tt
each_filter P p (x ∷ xs) e = by_bool (p x) (λ t. rw t (e.0, each_filter P p xs e.1)) (λ t. rw t (each_filter P p xs e.1))

each_drop : (P : Slot → Type 0) (n : ℕ) (xs : List Slot) → Each P xs → Each P (drop n xs)
each_drop P n [] e = subst (λ (l : List Slot). Each P l) (sym (drop-nil n)) tt
each_drop P zero (x ∷ xs) e = e
each_drop P (suc n) (x ∷ xs) e = each_drop P n xs e.1

each_take : (P : Slot → Type 0) (n : ℕ) (xs : List Slot) → Each P xs → Each P (take n xs)
each_take P zero xs e = tt
each_take P (suc n) [] e = tt
each_take P (suc n) (x ∷ xs) e = (e.0, each_take P n xs e.1)

-- one with this number is enabled
abbrev on_in : HookId → List Slot → Bool
on_in id xs = list_any (λ u. is_slot id u && u.enabled) xs

other_numbers : (id : HookId) (xs : List Slot) → list_any (is_slot id) xs ≡ false → Each (λ u. is_slot u.id (record u { id = id }) ≡ false) xs
other_numbers id [] h = tt
other_numbers id (x ∷ xs) h = by_bool (is_slot id x)
    (λ t. absurd (true≢false (sym (any_first (is_slot id) x xs t) ∙ h)))
    (λ t. (grind (arith, nat_tests), other_numbers id xs (sym (any_rest (is_slot id) x xs t) ∙ h)))

none_on : (id : HookId) (xs : List Slot) → list_any (is_slot id) xs ≡ false → on_in id xs ≡ false
none_on id [] h = refl
none_on id (x ∷ xs) h = by_bool (is_slot id x)
    (λ t. absurd (true≢false (sym (any_first (is_slot id) x xs t) ∙ h)))
    (λ t. any_rest (λ u. is_slot id u && u.enabled) x xs (ap (λ b. b && x.enabled) t) ∙ none_on id xs (sym (any_rest (is_slot id) x xs t) ∙ h))

or_none : (a : Bool) → (a || false) ≡ a
or_none true = refl
or_none false = refl

tells : (xs : List Slot) → are_apart xs ≡ true → Each (λ s. on_in s.id xs ≡ s.enabled) xs
tells [] h = tt
tells (x ∷ xs) h =
    let q = and_parts (not (list_any (is_slot x.id) xs)) (are_apart xs) h in
    let none : list_any (is_slot x.id) xs ≡ false = not_true (list_any (is_slot x.id) xs) q.0 in
    let here : (x.id.0 == x.id.0) ≡ true = eq-eqb x.id.0 x.id.0 refl in (
      (λ i. (here i && x.enabled) || none_on x.id xs none i) ∙ or_none x.enabled,
      each_both (λ u. is_slot u.id (record u { id = x.id }) ≡ false) (λ s. on_in s.id xs ≡ s.enabled) (λ s. on_in s.id (x ∷ xs) ≡ s.enabled)
          (λ s n t. (λ i. (n i && x.enabled) || t i))
          xs (other_numbers x.id xs none) (tells xs q.1),
    )

-- one that is gone is not enabled, so that the rows that live tell the same
alone : (a e g : Bool) → (not g || not e) ≡ true → ((a && e) && not g) ≡ (a && e)
alone true true true k = absurd (false≢true k)
alone true true false k = refl
alone true false g k = refl
alone false e g k = refl

on_alone : (id : HookId) (hooked : ℕ) (ys : List Slot) → list_all (is_known hooked) ys ≡ true → list_any (λ s. (is_slot id s && s.enabled) && is_live s) ys ≡ on_in id ys
on_alone id hooked [] k = refl
on_alone id hooked (y ∷ ys) k =
    let parts = and_parts (is_known hooked y) (list_all (is_known hooked) ys) k in
    let y_parts = and_parts (nat_le y.id.0 hooked) (not y.gone || not y.enabled) parts.0 in
    λ i. alone (is_slot id y) y.enabled y.gone y_parts.1 i || on_alone id hooked ys parts.1 i

on_is : (id : HookId) (hooked : ℕ) (xs : List Slot) → list_all (is_known hooked) xs ≡ true → is_on id (live_rows xs) ≡ on_in id xs
on_is id hooked xs h = sym (any_live (λ row. is_id id row && row.enabled) xs) ∙ on_alone id hooked xs h

-- among the slots and among the entries the same may run
find_both : (p : Entry → Bool) (q : Slot → Bool) (ss : List Slot) → Each (λ s. p (slot_entry s) ≡ q s) ss → find p (map slot_entry ss) ≡ found_entry (find q ss)
find_both p q [] e = refl
find_both p q (s ∷ ss) e = by_bool (q s)
    (λ t. (let f : p (slot_entry s) ≡ true = e.0 ∙ t in rw (t, f) refl))
    (λ t. (let f : p (slot_entry s) ≡ false = e.0 ∙ t in rw (t, f) (find_both p q ss e.1)))

after_both : (p : Entry → Bool) (q : Slot → Bool) (ss : List Slot) → Each (λ s. p (slot_entry s) ≡ q s) ss → following p (map slot_entry ss) ≡ map slot_entry (following q ss)
after_both p q [] e = refl
after_both p q (s ∷ ss) e = by_bool (q s)
    (λ t. (let f : p (slot_entry s) ≡ true = e.0 ∙ t in rw (t, f) refl))
    (λ t. (let f : p (slot_entry s) ≡ false = e.0 ∙ t in rw (t, f) (after_both p q ss e.1)))

same_tests : (hooked : ℕ) (xs : List Slot) (marks : List Entry) → are_apart xs ≡ true → list_all (is_known hooked) xs ≡ true → Each (λ s. may_run (live_rows xs) marks (slot_entry s) ≡ may_go marks s) xs
same_tests hooked xs marks apart known = each_map xs (tells xs apart) where
  each_map : (ys : List Slot) → Each (λ s. on_in s.id xs ≡ s.enabled) ys → Each (λ s. may_run (live_rows xs) marks (slot_entry s) ≡ may_go marks s) ys
  each_map [] e = tt
  each_map (y ∷ ys) e = (ap (λ b. b && not (runs y.owner marks)) (on_is y.id hooked xs known ∙ e.0), each_map ys e.1)

pub ahead_tests : (hooked : ℕ) (xs : List Slot) (marks : List Entry) (place : ℕ) (c : Cursor) → are_apart xs ≡ true → list_all (is_known hooked) xs ≡ true → Each (λ s. may_run (live_rows xs) marks (slot_entry s) ≡ may_go marks s) (ahead place c xs)
ahead_tests hooked xs marks place c apart known =
    let P = λ (s : Slot). may_run (live_rows xs) marks (slot_entry s) ≡ may_go marks s in
    each_filter P (in_snapshot place c.hooked) (drop c.seen (window c xs)) (each_drop P c.seen (window c xs) (each_take P c.count (drop c.start xs) (each_drop P c.start xs (same_tests hooked xs marks apart known))))

pub gives_due : (hooked : ℕ) (xs : List Slot) (marks : List Entry) (place : ℕ) (c : Cursor) → are_apart xs ≡ true → list_all (is_known hooked) xs ≡ true → find (may_run (live_rows xs) marks) (map slot_entry (ahead place c xs)) ≡ found_entry (find (may_go marks) (ahead place c xs))
gives_due hooked xs marks place c apart known = find_both (may_run (live_rows xs) marks) (may_go marks) (ahead place c xs) (ahead_tests hooked xs marks place c apart known)

pub leaves_after : (hooked : ℕ) (xs : List Slot) (marks : List Entry) (place : ℕ) (c : Cursor) → are_apart xs ≡ true → list_all (is_known hooked) xs ≡ true → following (may_run (live_rows xs) marks) (map slot_entry (ahead place c xs)) ≡ map slot_entry (following (may_go marks) (ahead place c xs))
leaves_after hooked xs marks place c apart known = after_both (may_run (live_rows xs) marks) (may_go marks) (ahead place c xs) (ahead_tests hooked xs marks place c apart known)

-- what `next` needs
pub ruleset next_facts = (on_way, way_past, way_found, way_end)
