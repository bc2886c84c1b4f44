-- What always holds of the table, as contracts see it, and what a call of `next` makes of it.
use Rattle.std.proofs.Common.{◌≡◌, ℕ, zero, suc, ◌+◌, ◌<◌, ◌≤◌, Bool, true, false, not, Option, Some, None, List, [], ◌∷◌, ◌++◌, length, map, take, drop, get_or, set, arith, refl, sym, ap, ◌∙◌, subst}
use Rattle.std.specs.Prelude.{filter, find, is_some, ◌&&◌, ◌||◌, ◌==◌, nat_le, IsTrue}
use Rattle.std.specs.List.{list_all, list_any}
use Rattle.std.proofs.lemmas.Bool.{and_parts, and_from, false≢true, true≢false, eqb-true, eq-eqb}
use Rattle.std.proofs.lemmas.Bool.Decides.{nat_tests}
use Rattle.std.proofs.lemmas.List.{length-map, length_push}
use Rattle.wc_hooks.specs.declared.cursor.Cursor.{Cursor}
use Rattle.wc_hooks.specs.declared.entry.Entry.{Entry}
use Rattle.wc_hooks.specs.declared.entry.HookId.{HookId}
use Rattle.wc_hooks.specs.declared.entry.Owner.{Owner}
use Rattle.wc_hooks.specs.declared.entry.Owner.TheVariants.{Session, Trigger}
use Rattle.wc_hooks.specs.declared.slot.Slot.{Slot}
use Rattle.wc_hooks.specs.Kinds.{is_relay, same_owner}
use Rattle.wc_hooks.specs.Rows.{HookRow, is_id}
use Rattle.wc_hooks.specs.Filings.{filed_under}
use Rattle.wc_hooks.specs.Passes.{runs, may_run, following, with_given}
use Rattle.wc_hooks.specs.Table.{Going, IsHookTable, left_of, looked_of, over_of, is_within, is_bounded, are_drawn, next_of, after_next}
use Rattle.wc_hooks.specs.Slots.{slot_filing, slot_entry, row_of, is_slot, is_live, is_slot_for, live_rows, in_snapshot, may_go, window, ahead, first_topic, going_at, goings, one_topic, are_apart, is_known, found_entry, IsOrdered, CursorFits, AllCursorsFit, Walked}
use Rattle.wc_hooks.specs.Inside.{seen_as, is_marked_in, IsMarked, IsCounted, IsPurged}
use Rattle.wc_hooks.proofs.Lists.{by_bool, not_true, keeps_first, drops_first, any_first, any_rest, any_more, all_filter, all_map, all_weaker, all_drop, all_take, filter_map, length_filter, count_drop, count_take, parts_of, filter_all}
use Rattle.wc_hooks.proofs.Orders.{topic_self}
use Rattle.wc_hooks.proofs.Windows.{length_window}
use Rattle.wc_hooks.proofs.LiveRows.{filings_all_live, any_live}
use Rattle.wc_hooks.proofs.Walks.{gives_due, leaves_after}
use Rattle.wc_hooks.proofs.Opens.{filed_are}
use Rattle.wc_hooks.proofs.Marked.{marks_live, most_marks, marked_given, marked_none}
use Rattle.wc_hooks.proofs.Counts.{length-goings, any-goings, goings-set, goings-get, going_of}
use Rattle.wc_hooks.proofs.Sounds.{rows_falling}

-- each number lives once
none_of : (id : HookId) (xs : List Slot) → list_any (is_slot id) xs ≡ false → length (filter (is_slot id) xs) ≡ 0
none_of id [] h = refl
none_of id (x ∷ xs) h = by_bool (is_slot id x)
    (λ t. absurd (true≢false (sym (any_first (is_slot id) x xs t) ∙ h)))
    (λ t. ap length (drops_first (is_slot id) x xs t) ∙ none_of id xs (sym (any_rest (is_slot id) x xs t) ∙ h))

slots_once : (id : HookId) (xs : List Slot) → are_apart xs ≡ true → length (filter (is_slot id) xs) ≤ 1
slots_once id [] h = omega arith
slots_once id (x ∷ xs) h =
    let parts = and_parts (not (list_any (is_slot x.id) xs)) (are_apart xs) h in
    by_bool (is_slot id x)
    (λ t. let e : x.id.0 ≡ id.0 = eqb-true x.id.0 id.0 t in
    let none : list_any (is_slot id) xs ≡ false = ap (λ n. list_any (λ u. u.id.0 == n) xs) (sym e) ∙ not_true _ parts.0 in
    let z = none_of id xs none in
    let n = ap length (keeps_first (is_slot id) x xs t) in
    omega (arith, z, n))
    (λ t. let n = ap length (drops_first (is_slot id) x xs t) in let ih = slots_once id xs parts.1 in omega (arith, n, ih))

rows_once : (id : HookId) (xs : List Slot) → are_apart xs ≡ true → length (filter (is_id id) (live_rows xs)) ≤ 1
rows_once id xs h =
    let n = ap length (filter_map row_of (is_slot id) (is_id id) (λ s. refl) (filter is_live xs)) in
    let m = length-map (filter (is_slot id) (filter is_live xs)) row_of in
    let k = length_filter (is_slot id) is_live xs in
    let o = slots_once id xs h in
    omega (arith, n, m, k, o)

-- all numbers were drawn
slots_drawn : (hooked : ℕ) (xs : List Slot) → list_all (is_known hooked) xs ≡ true → list_all (λ s. nat_le s.id.0 hooked) xs ≡ true
slots_drawn hooked xs h = all_weaker (is_known hooked) (λ s. nat_le s.id.0 hooked) (λ s k. (and_parts (nat_le s.id.0 hooked) (not s.gone || not s.enabled) k).0) xs h

left_drawn : (hooked p : ℕ) (c : Cursor) (xs : List Slot) → list_all (is_known hooked) xs ≡ true → are_drawn hooked (map slot_entry (ahead p c xs)) ≡ true
left_drawn hooked p c xs h =
    let drawn = λ (s : Slot). nat_le s.id.0 hooked in
    all_map drawn (λ e. nat_le e.id.0 hooked) slot_entry (λ s. refl) (ahead p c xs)
    ∙ all_filter drawn (in_snapshot p c.hooked) (drop c.seen (window c xs)) (all_drop drawn c.seen (window c xs) (all_take drawn c.count (drop c.start xs) (all_drop drawn c.start xs (slots_drawn hooked xs h))))

passes_drawn : (hooked p : ℕ) (xs : List Slot) (cs : List (Option Cursor)) → list_all (is_known hooked) xs ≡ true → list_all (λ pass. are_drawn hooked (left_of pass)) (goings p xs cs) ≡ true
passes_drawn hooked p xs [] h = refl
passes_drawn hooked p xs (None ∷ cs) h = passes_drawn hooked (p + 1) xs cs h
passes_drawn hooked p xs (Some c ∷ cs) h = and_from _ _ (left_drawn hooked p c xs h) (passes_drawn hooked (p + 1) xs cs h)

-- no pass looked at more than are filed under its kind and key
one_kind : (x : Slot) (ws : List Slot) → one_topic (x ∷ ws) ≡ true → list_all (is_slot_for x.kind x.key) (x ∷ ws) ≡ true
one_kind x ws h = and_from _ _ (topic_self x.kind x.key) h

within_by : (xs ws : List Slot) (looked : ℕ) → one_topic ws ≡ true → looked ≤ length ws → ((p : Slot → Bool) → length (filter p ws) ≤ length (filter p xs)) → is_within (map slot_filing xs) (first_topic ws) looked ≡ true
within_by xs [] looked h le part = grind (arith, nat_tests)
within_by xs (x ∷ ws) looked h le part =
    let n = filed_are x.kind x.key xs in
    let all : length (filter (is_slot_for x.kind x.key) (x ∷ ws)) ≡ length (x ∷ ws) = ap length (filter_all (is_slot_for x.kind x.key) (x ∷ ws) (one_kind x ws h)) in
    let some = part (is_slot_for x.kind x.key) in
    let most : looked ≤ length (filed_under x.kind x.key (map slot_filing xs)) = omega (arith, n, all, some, le) in
    le_true looked (length (filed_under x.kind x.key (map slot_filing xs))) most where
      le_true : (a b : ℕ) → a ≤ b → nat_le a b ≡ true
      le_true a b le = grind (arith, nat_tests)

going_within : (hooked p : ℕ) (xs : List Slot) (c : Cursor) → CursorFits hooked xs c → is_within (map slot_filing xs) (first_topic (window c xs)) c.looked ≡ true
going_within hooked p xs c s =
    let a = s.within in let b = s.counted in
    let n = length_window xs c s.inside in
    within_by xs (window c xs) c.looked s.topic (omega (arith, a, b, n)) (λ q. let k = count_take q c.count (drop c.start xs) in let m = count_drop q c.start xs in omega (arith, k, m))

pass_within : (hooked p i : ℕ) (xs : List Slot) (cs : List (Option Cursor)) → AllCursorsFit hooked xs cs → is_within (map slot_filing xs) (over_of (get_or (goings p xs cs) i None)) (looked_of (get_or (goings p xs cs) i None)) ≡ true
pass_within hooked p zero xs [] s = refl
pass_within hooked p (suc i) xs [] s = refl
pass_within hooked p zero xs (None ∷ cs) s = refl
pass_within hooked p zero xs (Some c ∷ cs) s = going_within hooked p xs c s.0
pass_within hooked p (suc i) xs (None ∷ cs) s = pass_within hooked (p + 1) i xs cs s
pass_within hooked p (suc i) xs (Some c ∷ cs) s = pass_within hooked (p + 1) i xs cs s.1

pub bounded : (hooked i : ℕ) (xs : List Slot) (cs : List (Option Cursor)) (marks : List Entry) → AllCursorsFit hooked xs cs → is_bounded (seen_as xs cs marks hooked) i ≡ true
bounded hooked i xs cs marks s = pass_within hooked 0 i xs cs s

pub is_table : (xs : List Slot) (cs : List (Option Cursor)) (marks : List Entry) (hooked n m : ℕ) (has_gone : Bool) → IsOrdered hooked xs → AllCursorsFit hooked xs cs → length cs ≡ 17 → IsMarked (live_rows xs) marks → IsCounted (live_rows xs) n m → IsPurged xs cs has_gone → IsHookTable (seen_as xs cs marks hooked)
is_table xs cs marks hooked n m has_gone o s places marked c p = record {
  falls = rows_falling xs o.falls;
  once = λ id. rows_once id xs o.apart;
  rows_drawn = all_map (λ s. nat_le s.id.0 hooked) (λ r. nat_le r.id.0 hooked) row_of (λ s. refl) (filter is_live xs) ∙ all_filter (λ s. nat_le s.id.0 hooked) is_live xs (slots_drawn hooked xs o.known);
  passes_drawn = passes_drawn hooked 0 xs cs o.known;
  marks_live = marks_live (live_rows xs) marks marked;
  most_relays = (let a = c.relays in let b = c.most_relays in omega (arith, a, b));
  most_others = (let a = c.others in let b = c.most_others in omega (arith, a, b));
  places = length-goings 0 xs cs ∙ places;
  within = λ place. bounded hooked place xs cs marks s;
  all_live = λ closed. filings_all_live xs (p.live (p.closed (sym (any-goings 0 xs cs) ∙ closed)));
}

-- no more are marked than can live
pub few_live : (rows : List HookRow) (n m : ℕ) → IsCounted rows n m → length rows ≤ 1024
few_live rows n m c = let k = parts_of (λ r. is_relay r.kind) rows in let a = c.relays in let b = c.others in let d = c.most_relays in let e = c.most_others in omega (arith, k, a, b, d, e)

-- the entry that is given lives, and no entry of its owner is marked
found_passes : (q : Slot → Bool) (ss : List Slot) (s : Slot) → find q ss ≡ Some s → q s ≡ true
found_passes q [] s e = absurd cc
found_passes q (x ∷ ss) s e = by_bool (q x)
    (λ t. let f : find q (x ∷ ss) ≡ Some x = rw t refl in let k : x ≡ s = (let g : Some x ≡ Some s = sym f ∙ e in cc) in ap q (sym k) ∙ t)
    (λ t. let f : find q (x ∷ ss) ≡ find q ss = rw t refl in found_passes q ss s (sym f ∙ e))

found_among : (q r : Slot → Bool) (ss : List Slot) (s : Slot) → find q ss ≡ Some s → r s ≡ true → list_any r ss ≡ true
found_among q r [] s e h = absurd cc
found_among q r (x ∷ ss) s e h = by_bool (q x)
    (λ t. let f : find q (x ∷ ss) ≡ Some x = rw t refl in let k : x ≡ s = (let g : Some x ≡ Some s = sym f ∙ e in cc) in any_first r x ss (ap r k ∙ h))
    (λ t. let f : find q (x ∷ ss) ≡ find q ss = rw t refl in any_more r x ss (found_among q r ss s (sym f ∙ e) h))

found_known : (q r : Slot → Bool) (ss : List Slot) (s : Slot) → find q ss ≡ Some s → list_all r ss ≡ true → r s ≡ true
found_known q r [] s e h = absurd cc
found_known q r (x ∷ ss) s e h =
    let parts = and_parts (r x) (list_all r ss) h in
    by_bool (q x)
    (λ t. let f : find q (x ∷ ss) ≡ Some x = rw t refl in let k : x ≡ s = (let g : Some x ≡ Some s = sym f ∙ e in cc) in ap r (sym k) ∙ parts.0)
    (λ t. let f : find q (x ∷ ss) ≡ find q ss = rw t refl in found_known q r ss s (sym f ∙ e) parts.1)

any_of_filter : (r p : Slot → Bool) (xs : List Slot) → list_any r (filter p xs) ≡ true → list_any r xs ≡ true
any_of_filter r p [] h = absurd (false≢true h)
any_of_filter r p (x ∷ xs) h = by_bool (r x)
    (λ t. any_first r x xs t)
    (λ t. any_more r x xs (any_of_filter r p xs (by_bool (p x)
    (λ u. sym (any_rest r x (filter p xs) t) ∙ ap (list_any r) (sym (keeps_first p x xs u)) ∙ h)
    (λ u. ap (list_any r) (sym (drops_first p x xs u)) ∙ h))))

any_of_take : (r : Slot → Bool) (n : ℕ) (xs : List Slot) → list_any r (take n xs) ≡ true → list_any r xs ≡ true
any_of_take r zero xs h = absurd (false≢true h)
any_of_take r (suc n) [] h = absurd (false≢true h)
any_of_take r (suc n) (x ∷ xs) h = by_bool (r x)
    (λ t. any_first r x xs t)
    (λ t. any_more r x xs (any_of_take r n xs (sym (any_rest r x (take n xs) t) ∙ h)))

any_of_drop : (r : Slot → Bool) (n : ℕ) (xs : List Slot) → list_any r (drop n xs) ≡ true → list_any r xs ≡ true
any_of_drop r zero xs h = h
any_of_drop r (suc n) [] h = absurd (false≢true h)
any_of_drop r (suc n) (x ∷ xs) h = any_more r x xs (any_of_drop r n xs h)

any_ahead : (r : Slot → Bool) (p : ℕ) (c : Cursor) (xs : List Slot) → list_any r (ahead p c xs) ≡ true → list_any r xs ≡ true
any_ahead r p c xs h = any_of_drop r c.start xs (any_of_take r c.count (drop c.start xs) (any_of_drop r c.seen (window c xs) (any_of_filter r (in_snapshot p c.hooked) (drop c.seen (window c xs)) h)))

all_ahead : (r : Slot → Bool) (p : ℕ) (c : Cursor) (xs : List Slot) → list_all r xs ≡ true → list_all r (ahead p c xs) ≡ true
all_ahead r p c xs h = all_filter r (in_snapshot p c.hooked) (drop c.seen (window c xs)) (all_drop r c.seen (window c xs) (all_take r c.count (drop c.start xs) (all_drop r c.start xs h)))

same_self : (o : Owner) → same_owner o o ≡ true
same_self (Session a) = eq-eqb a.0 a.0 refl
same_self (Trigger a) = eq-eqb a a refl

lives_if_on : (g e : Bool) → (not g || not e) ≡ true → e ≡ true → not g ≡ true
lives_if_on true true k h = absurd (false≢true k)
lives_if_on true false k h = absurd (false≢true h)
lives_if_on false e k h = refl

slot_marked : (hooked p : ℕ) (c : Cursor) (xs : List Slot) (marks : List Entry) (s : Slot) → list_all (is_known hooked) xs ≡ true → find (may_go marks) (ahead p c xs) ≡ Some s → is_marked_in (live_rows xs) (slot_entry s) ≡ true
slot_marked hooked p c xs marks s known e =
    let go = and_parts s.enabled (not (runs s.owner marks)) (found_passes (may_go marks) (ahead p c xs) s e) in
    let k = and_parts (nat_le s.id.0 hooked) (not s.gone || not s.enabled) (found_known (may_go marks) (is_known hooked) (ahead p c xs) s e (all_ahead (is_known hooked) p c xs known)) in
    let row_test = λ (row : HookRow). is_id s.id row && same_owner row.owner s.owner in
    let r = λ (u : Slot). row_test (row_of u) && is_live u in
    let here : r s ≡ true = and_from _ _ (and_from _ _ (eq-eqb s.id.0 s.id.0 refl) (same_self s.owner)) (lives_if_on s.gone s.enabled k.1 go.0) in
    sym (any_live row_test xs) ∙ any_ahead r p c xs (found_among (may_go marks) r (ahead p c xs) s e here)

pub marked_next : (hooked p : ℕ) (c : Cursor) (xs : List Slot) (marks : List Entry) (result : Option Entry) → list_all (is_known hooked) xs ≡ true → IsMarked (live_rows xs) marks → result ≡ found_entry (find (may_go marks) (ahead p c xs)) → IsMarked (live_rows xs) (with_given result marks)
marked_next hooked p c xs marks result known m e = subst (λ (r : Option Entry). IsMarked (live_rows xs) (with_given r marks)) (sym e) (by_found (find (may_go marks) (ahead p c xs)) refl) where
  by_found : (o : Option Slot) → find (may_go marks) (ahead p c xs) ≡ o → IsMarked (live_rows xs) (with_given (found_entry o) marks)
  by_found None f = marked_none (live_rows xs) marks m
  by_found (Some s) f =
      let go = and_parts s.enabled (not (runs s.owner marks)) (found_passes (may_go marks) (ahead p c xs) s f) in
      marked_given (live_rows xs) marks (slot_entry s) m (slot_marked hooked p c xs marks s known f) (not_true (runs s.owner marks) go.1)

pub room_for : (rows : List HookRow) (marks : List Entry) (result : Option Entry) (n m : ℕ) → IsCounted rows n m → IsMarked rows (with_given result marks) → IsTrue (is_some result) → length marks < 1024
room_for rows marks None n m c k t = absurd (false≢true t)
room_for rows marks (Some e) n m c k t =
    let a = few_live rows n m c in
    let b = most_marks rows (marks ++ e ∷ []) k in
    let d = length_push marks e in
    omega (arith, a, b, d)

-- a call of `next`
abbrev here : ℕ → List Slot → List (Option Cursor) → Option Going
here k xs cs = get_or (goings 0 xs cs) k None

pass_here : (k : ℕ) (xs : List Slot) (cs : List (Option Cursor)) (c : Cursor) → get_or cs k None ≡ Some c → here k xs cs ≡ Some (going_at k c xs)
pass_here k xs cs c e = goings-get 0 k xs cs ∙ ap (going_of (0 + k) xs) e ∙ (let n : 0 + k ≡ k = omega arith in ap (λ q. Some (going_at q c xs)) n)

pub next_given : (hooked k : ℕ) (xs : List Slot) (cs : List (Option Cursor)) (marks : List Entry) (c d : Cursor) (result : Option Entry) → IsOrdered hooked xs → get_or cs k None ≡ Some c → Walked xs marks k c d result → result ≡ next_of (seen_as xs cs marks hooked) k
next_given hooked k xs cs marks c d result o e w =
    w.given ∙ sym (gives_due hooked xs marks k c o.apart o.known) ∙ ap (λ p. find (may_run (live_rows xs) marks) (left_of p)) (sym (pass_here k xs cs c e))

going_next : (hooked k n : ℕ) (xs : List Slot) (cs : List (Option Cursor)) (marks : List Entry) (c d : Cursor) (result : Option Entry) → IsOrdered hooked xs → get_or cs k None ≡ Some c → Walked xs marks k c d result → d.looked ≡ c.looked + n → going_at k d xs ≡ record { left = following (may_run (live_rows xs) marks) (left_of (here k xs cs)); looked = looked_of (here k xs cs) + n; over = over_of (here k xs cs) }
going_next hooked k n xs cs marks c d result o e w steps =
    let p = sym (pass_here k xs cs c e) in
    λ i. record {
      left = (ap (map slot_entry) w.left ∙ sym (leaves_after hooked xs marks k c o.apart o.known) ∙ ap (λ q. following (may_run (live_rows xs) marks) (left_of q)) p) i;
      looked = (steps ∙ ap (λ q. looked_of q + n) p) i;
      over = ((λ j. first_topic (take (w.count j) (drop (w.start j) xs))) ∙ ap over_of p) i;
    }

pub view_next : (hooked k n : ℕ) (xs : List Slot) (cs : List (Option Cursor)) (marks : List Entry) (c d : Cursor) (result : Option Entry) → IsOrdered hooked xs → get_or cs k None ≡ Some c → Walked xs marks k c d result → d.looked ≡ c.looked + n → seen_as xs (set cs k (Some d)) (with_given result marks) hooked ≡ after_next (seen_as xs cs marks hooked) k n
view_next hooked k n xs cs marks c d result o e w steps =
    let same : 0 + k ≡ k = omega arith in
    λ i. record {
      rows = live_rows xs;
      marks = with_given (next_given hooked k xs cs marks c d result o e w i) marks;
      hooked = hooked;
      filed = map slot_filing xs;
      passes = (goings-set 0 k xs cs (Some d) ∙ ap (λ q. set (goings 0 xs cs) k (Some (going_at q d xs))) same ∙ ap (λ g. set (goings 0 xs cs) k (Some g)) (going_next hooked k n xs cs marks c d result o e w steps)) i;
    }

pub stands_next : (hooked k : ℕ) (xs : List Slot) (marks : List Entry) (c d : Cursor) (result : Option Entry) → CursorFits hooked xs c → Walked xs marks k c d result → CursorFits hooked xs d
stands_next hooked k xs marks c d result s w =
    let a = w.start in let b = w.count in let h = w.hooked in let inside = s.inside in let drawn = s.drawn in record {
      inside = omega (arith, a, b, inside);
      within = w.within;
      counted = w.counted;
      drawn = omega (arith, h, drawn);
      topic = (λ j. one_topic (take (w.count j) (drop (w.start j) xs))) ∙ s.topic;
    }

pub looked_here : (k : ℕ) (xs : List Slot) (cs : List (Option Cursor)) (c : Cursor) → get_or cs k None ≡ Some c → looked_of (get_or (goings 0 xs cs) k None) ≡ c.looked
looked_here k xs cs c e = ap looked_of (pass_here k xs cs c e)
