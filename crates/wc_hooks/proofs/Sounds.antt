-- What always holds of the slots, kept by each call, and what contracts see of a call.
use Rattle.std.proofs.Common.{◌≡◌, ℕ, zero, suc, ◌+◌, ◌<◌, Bool, true, false, not, Option, Some, None, List, [], ◌∷◌, length, map, get_or, set, arith, refl, sym, ap, ◌∙◌, subst}
use Rattle.std.specs.Prelude.{filter, insert, is_some, ◌&&◌, ◌||◌, ◌==◌, nat_le, if◌then◌else◌}
use Rattle.std.specs.List.{list_all, list_any}
use Rattle.std.proofs.lemmas.Bool.{and_parts, and_from, true≢false}
use Rattle.std.proofs.lemmas.Bool.Decides.{nat_tests}
use Rattle.wc_hooks.specs.declared.cursor.Cursor.{Cursor}
use Rattle.wc_hooks.specs.declared.entry.Entry.{Entry}
use Rattle.wc_hooks.specs.declared.entry.HookId.{HookId}
use Rattle.wc_hooks.specs.declared.kind.HookKind.{HookKind}
use Rattle.wc_hooks.specs.declared.slot.Slot.{Slot}
use Rattle.wc_hooks.specs.Kinds.{is_relay}
use Rattle.wc_hooks.specs.Ranks.{precedes, put_by, falls_by}
use Rattle.wc_hooks.specs.Rows.{HookRow, rank_of, put_in, without, rows_switched, falls, relays, others}
use Rattle.wc_hooks.specs.Filings.{without_filing, filing_of}
use Rattle.wc_hooks.specs.Passes.{without_mark, hooks_on}
use Rattle.wc_hooks.specs.Table.{with_row, with_rows, without_row, with_pass, without_pass, opening, any_open}
use Rattle.wc_hooks.specs.Slots.{slot_rank, slot_filing, slot_entry, row_of, is_slot, is_live, is_slot_for, live_rows, in_snapshot, with_enabled, with_slot_switch, gone_from, with_leave, left_slots, seen_opening, with_opening, window, first_topic, going_at, goings, moved_place, are_apart, is_known, IsOrdered, IsRange, CursorFits, AllCursorsFit}
use Rattle.wc_hooks.specs.Inside.{seen_as, IsCounted, IsPurged}
use Rattle.wc_hooks.proofs.Lists.{by_bool, not_true, keeps_first, drops_first, any_first, any_rest, any_map, all_filter, all_map, all_weaker, length_filter}
use Rattle.wc_hooks.proofs.Puts.{put_before, put_after, all_put, falls_put, falls_filter, falls_map, count_kept, count_dropped}
use Rattle.wc_hooks.proofs.Windows.{goings_moved}
use Rattle.wc_hooks.proofs.Alikes.{Alike, alike_switch, alike_leave, alike_opening, goings_alike, all_stand_alike, filings_alike, falls_alike, apart_alike, window_alike, all_free, free_at}
use Rattle.wc_hooks.proofs.LiveRows.{live_put, filing_put, live_switched, live_still, live_left, live_opened, live_purged, filings_live, filings_all_live, filings_left}
use Rattle.wc_hooks.proofs.Opens.{range_is, range_one, takes_enabled, topic_is_over}
use Rattle.wc_hooks.proofs.Counts.{any-goings, none-goings, goings-set}

-- the slots stay in order, each number once
any_put : (id : HookId) (a : Slot) (xs : List Slot) → is_slot id a ≡ false → list_any (is_slot id) (put_by slot_rank a xs) ≡ list_any (is_slot id) xs
any_put id a [] f = any_rest (is_slot id) a [] f
any_put id a (x ∷ xs) f = by_bool (precedes (slot_rank a) (slot_rank x))
    (λ t. ap (list_any (is_slot id)) (put_before slot_rank a x xs t) ∙ any_rest (is_slot id) a (x ∷ xs) f)
    (λ t. ap (list_any (is_slot id)) (put_after slot_rank a x xs t) ∙ ap (λ b. is_slot id x || b) (any_put id a xs f))

none_new : (hooked : ℕ) (a : Slot) (xs : List Slot) → hooked < a.id.0 → list_all (is_known hooked) xs ≡ true → list_any (is_slot a.id) xs ≡ false
none_new hooked a [] lt h = refl
none_new hooked a (x ∷ xs) lt h =
    let q = and_parts (is_known hooked x) (list_all (is_known hooked) xs) h in
    let r = and_parts (nat_le x.id.0 hooked) (not x.gone || not x.enabled) q.0 in
    let k : nat_le x.id.0 hooked ≡ true = r.0 in
    let n : is_slot a.id x ≡ false = grind (arith, nat_tests) in
    any_rest (is_slot a.id) x xs n ∙ none_new hooked a xs lt q.1

apart_put : (hooked : ℕ) (a : Slot) (xs : List Slot) → hooked < a.id.0 → list_all (is_known hooked) xs ≡ true → are_apart xs ≡ true → are_apart (put_by slot_rank a xs) ≡ true
apart_put hooked a [] lt h p = refl
apart_put hooked a (x ∷ xs) lt h p =
    let q = and_parts (is_known hooked x) (list_all (is_known hooked) xs) h in
    let r = and_parts (nat_le x.id.0 hooked) (not x.gone || not x.enabled) q.0 in
    let k : nat_le x.id.0 hooked ≡ true = r.0 in
    let n : is_slot x.id a ≡ false = grind (arith, nat_tests) in
    let s = and_parts (not (list_any (is_slot x.id) xs)) (are_apart xs) p in
    by_bool (precedes (slot_rank a) (slot_rank x))
    (λ t. ap are_apart (put_before slot_rank a x xs t) ∙ and_from _ _ (ap not (none_new hooked a (x ∷ xs) lt h)) p)
    (λ t. ap are_apart (put_after slot_rank a x xs t) ∙ and_from _ _ (ap not (any_put x.id a xs n) ∙ s.0) (apart_put hooked a xs lt q.1 s.1))

later : (hooked : ℕ) (x : Slot) → is_known hooked x ≡ true → is_known (hooked + 1) x ≡ true
later hooked x h =
    let r = and_parts (nat_le x.id.0 hooked) (not x.gone || not x.enabled) h in
    let k : nat_le x.id.0 hooked ≡ true = r.0 in
    let m : nat_le x.id.0 (hooked + 1) ≡ true = grind (arith, nat_tests) in
    and_from _ _ m r.1

pub ordered_put : (hooked : ℕ) (a : Slot) (xs : List Slot) → a.id.0 ≡ hooked + 1 → a.gone ≡ false → IsOrdered hooked xs → IsOrdered (hooked + 1) (put_by slot_rank a xs)
ordered_put hooked a xs number live o =
    let lt : hooked < a.id.0 = omega (arith, number) in
    let here : nat_le a.id.0 (hooked + 1) ≡ true = grind (arith, nat_tests) in record {
      falls = falls_put slot_rank a xs o.falls;
      apart = apart_put hooked a xs lt o.known o.apart;
      known = all_put slot_rank (is_known (hooked + 1)) a xs (and_from _ _ here (ap (λ g. not g || not a.enabled) live)) (all_weaker (is_known hooked) (is_known (hooked + 1)) (later hooked) xs o.known);
    }

-- a change that passes do not see
ordered_map : (hooked k : ℕ) (f : Slot → Slot) (a : Alike k f) (xs : List Slot) → ((x : Slot) → is_known hooked x ≡ true → is_known hooked (f x) ≡ true) → IsOrdered hooked xs → IsOrdered hooked (map f xs)
ordered_map hooked k f a xs knows o = record {
  falls = falls_alike k f a xs ∙ o.falls;
  apart = apart_alike k f a xs ∙ o.apart;
  known = known_map xs o.known;
} where
  known_map : (ys : List Slot) → list_all (is_known hooked) ys ≡ true → list_all (is_known hooked) (map f ys) ≡ true
  known_map [] h = refl
  known_map (y ∷ ys) h = let q = and_parts (is_known hooked y) (list_all (is_known hooked) ys) h in and_from _ _ (knows y q.0) (known_map ys q.1)

or_true : (b : Bool) → (b || true) ≡ true
or_true true = refl
or_true false = refl

known_switch : (hooked : ℕ) (id : HookId) (on : Bool) (x : Slot) → is_known hooked x ≡ true → is_known hooked (with_slot_switch id on x) ≡ true
known_switch hooked id on x h = by_bool (is_slot id x && is_live x)
    (λ t. let live = (and_parts (is_slot id x) (is_live x) t).1 in
    ap (λ b. is_known hooked (if b then with_enabled on x else x)) t ∙ and_from _ _ (and_parts (nat_le x.id.0 hooked) (not x.gone || not x.enabled) h).0 (ap (λ b. b || not on) live))
    (λ t. ap (λ b. is_known hooked (if b then with_enabled on x else x)) t ∙ h)

known_leave : (hooked : ℕ) (id : HookId) (x : Slot) → is_known hooked x ≡ true → is_known hooked (with_leave id x) ≡ true
known_leave hooked id x h = by_bool (is_slot id x)
    (λ t. ap (λ b. is_known hooked (if b then gone_from x else x)) t ∙ and_from _ _ (and_parts (nat_le x.id.0 hooked) (not x.gone || not x.enabled) h).0 refl)
    (λ t. ap (λ b. is_known hooked (if b then gone_from x else x)) t ∙ h)

known_opening : (hooked k : ℕ) (kind : HookKind) (key : List ℕ) (x : Slot) → is_known hooked x ≡ true → is_known hooked (with_opening k kind key x) ≡ true
known_opening hooked k kind key x h = by_bool (is_slot_for kind key x)
    (λ t. ap (λ b. is_known hooked (if b then seen_opening k x else x)) t ∙ h)
    (λ t. ap (λ b. is_known hooked (if b then seen_opening k x else x)) t ∙ h)

pub ordered_switched : (hooked : ℕ) (id : HookId) (on : Bool) (xs : List Slot) → IsOrdered hooked xs → IsOrdered hooked (map (with_slot_switch id on) xs)
ordered_switched hooked id on xs o = ordered_map hooked 32 (with_slot_switch id on) (alike_switch 32 id on) xs (known_switch hooked id on) o

pub ordered_opened : (hooked k : ℕ) (kind : HookKind) (key : List ℕ) (xs : List Slot) → k < 32 → IsOrdered hooked xs → IsOrdered hooked (map (with_opening k kind key) xs)
ordered_opened hooked k kind key xs le o = ordered_map hooked k (with_opening k kind key) (alike_opening k kind key le) xs (known_opening hooked k kind key) o

any_filtered : (p q : Slot → Bool) (xs : List Slot) → list_any p xs ≡ false → list_any p (filter q xs) ≡ false
any_filtered p q [] h = refl
any_filtered p q (x ∷ xs) h = by_bool (p x)
    (λ t. absurd (true≢false (sym (any_first p x xs t) ∙ h)))
    (λ t. let ih = any_filtered p q xs (sym (any_rest p x xs t) ∙ h) in by_bool (q x)
    (λ u. ap (list_any p) (keeps_first q x xs u) ∙ any_rest p x (filter q xs) t ∙ ih)
    (λ u. ap (list_any p) (drops_first q x xs u) ∙ ih))

apart_filter : (q : Slot → Bool) (xs : List Slot) → are_apart xs ≡ true → are_apart (filter q xs) ≡ true
apart_filter q [] h = refl
apart_filter q (x ∷ xs) h =
    let parts = and_parts (not (list_any (is_slot x.id) xs)) (are_apart xs) h in
    by_bool (q x)
    (λ u. ap are_apart (keeps_first q x xs u) ∙ and_from _ _ (ap not (any_filtered (is_slot x.id) q xs (not_true _ parts.0))) (apart_filter q xs parts.1))
    (λ u. ap are_apart (drops_first q x xs u) ∙ apart_filter q xs parts.1)

pub ordered_filter : (hooked : ℕ) (q : Slot → Bool) (xs : List Slot) → IsOrdered hooked xs → IsOrdered hooked (filter q xs)
ordered_filter hooked q xs o = record { falls = falls_filter slot_rank q xs o.falls; apart = apart_filter q xs o.apart; known = all_filter (is_known hooked) q xs o.known }

pub ordered_left : (hooked : ℕ) (id : HookId) (stays : Bool) (xs : List Slot) → IsOrdered hooked xs → IsOrdered hooked (left_slots id stays xs)
ordered_left hooked id true xs o = ordered_map hooked 32 (with_leave id) (alike_leave 32 id) xs (known_leave hooked id) o
ordered_left hooked id false xs o = ordered_filter hooked (λ s. not (is_slot id s)) xs o

-- the cursors are
pub stand_none : (hooked : ℕ) (xs : List Slot) (cs : List (Option Cursor)) → list_any is_some cs ≡ false → AllCursorsFit hooked xs cs
stand_none hooked xs [] h = tt
stand_none hooked xs (None ∷ cs) h = stand_none hooked xs cs h
stand_none hooked xs (Some c ∷ cs) h = absurd (true≢false h)

pub stand_left : (hooked : ℕ) (id : HookId) (stays : Bool) (xs : List Slot) (cs : List (Option Cursor)) → stays ≡ list_any is_some cs → AllCursorsFit hooked xs cs → AllCursorsFit hooked (left_slots id stays xs) cs
stand_left hooked id true xs cs e s = all_stand_alike 32 (with_leave id) (alike_leave 32 id) hooked xs cs s
stand_left hooked id false xs cs e s = stand_none hooked (left_slots id false xs) cs (sym e)

pub stand_switched : (hooked : ℕ) (id : HookId) (on : Bool) (xs : List Slot) (cs : List (Option Cursor)) → AllCursorsFit hooked xs cs → AllCursorsFit hooked (map (with_slot_switch id on) xs) cs
stand_switched hooked id on xs cs s = all_stand_alike 32 (with_slot_switch id on) (alike_switch 32 id on) hooked xs cs s

pub stand_set : (hooked : ℕ) (xs : List Slot) (cs : List (Option Cursor)) (i : ℕ) (c : Cursor) → CursorFits hooked xs c → AllCursorsFit hooked xs cs → AllCursorsFit hooked xs (set cs i (Some c))
stand_set hooked xs [] i c here s = tt
stand_set hooked xs (None ∷ cs) zero c here s = (here, s)
stand_set hooked xs (Some d ∷ cs) zero c here s = (here, s.1)
stand_set hooked xs (None ∷ cs) (suc i) c here s = stand_set hooked xs cs i c here s
stand_set hooked xs (Some d ∷ cs) (suc i) c here s = (s.0, stand_set hooked xs cs i c here s.1)

pub stand_closed : (hooked : ℕ) (xs : List Slot) (cs : List (Option Cursor)) (i : ℕ) → AllCursorsFit hooked xs cs → AllCursorsFit hooked xs (set cs i None)
stand_closed hooked xs [] i s = tt
stand_closed hooked xs (None ∷ cs) zero s = s
stand_closed hooked xs (Some d ∷ cs) zero s = s.1
stand_closed hooked xs (None ∷ cs) (suc i) s = stand_closed hooked xs cs i s
stand_closed hooked xs (Some d ∷ cs) (suc i) s = (s.0, stand_closed hooked xs cs i s.1)

pub lies_at : (hooked : ℕ) (xs : List Slot) (cs : List (Option Cursor)) (i : ℕ) (c : Cursor) → get_or cs i None ≡ Some c → AllCursorsFit hooked xs cs → CursorFits hooked xs c
lies_at hooked xs [] zero c e s = absurd cc
lies_at hooked xs [] (suc i) c e s = absurd cc
lies_at hooked xs (None ∷ cs) zero c e s = absurd cc
lies_at hooked xs (Some d ∷ cs) zero c e s = let k : d ≡ c = cc in subst (CursorFits hooked xs) k s.0
lies_at hooked xs (None ∷ cs) (suc i) c e s = lies_at hooked xs cs i c e s
lies_at hooked xs (Some d ∷ cs) (suc i) c e s = lies_at hooked xs cs i c e s.1

-- what is gone
pub purged_put : (a : Slot) (xs : List Slot) (cs : List (Option Cursor)) (at : ℕ) (has_gone : Bool) → a.gone ≡ false → IsPurged xs cs has_gone → IsPurged (put_by slot_rank a xs) (map (moved_place at) cs) has_gone
purged_put a xs cs at has_gone live p = record {
  live = λ h. all_put slot_rank is_live a xs (ap not live) (p.live h);
  closed = λ h. p.closed (sym (any_map is_some is_some (moved_place at) some_moved cs) ∙ h);
} where
  some_moved : (o : Option Cursor) → is_some (moved_place at o) ≡ is_some o
  some_moved None = refl
  some_moved (Some c) = refl

pub purged_switched : (id : HookId) (on : Bool) (xs : List Slot) (cs : List (Option Cursor)) (has_gone : Bool) → IsPurged xs cs has_gone → IsPurged (map (with_slot_switch id on) xs) cs has_gone
purged_switched id on xs cs has_gone p = record { live = λ h. all_map is_live is_live (with_slot_switch id on) (live_still id on) xs ∙ p.live h; closed = p.closed }

pub purged_left : (id : HookId) (xs : List Slot) (cs : List (Option Cursor)) (has_gone stays : Bool) → stays ≡ list_any is_some cs → IsPurged xs cs has_gone → IsPurged (left_slots id stays xs) cs stays
purged_left id xs cs has_gone true e p = record { live = λ h. absurd (true≢false h); closed = λ h. e ∙ h }
purged_left id xs cs has_gone false e p = record { live = λ h. all_filter is_live (λ s. not (is_slot id s)) xs (p.live (p.closed (sym e))); closed = λ h. refl }

some_set : (cs : List (Option Cursor)) (i : ℕ) (c : Cursor) → i < length cs → list_any is_some (set cs i (Some c)) ≡ true
some_set [] i c lt = absurd (omega arith)
some_set (None ∷ cs) zero c lt = refl
some_set (Some d ∷ cs) zero c lt = refl
some_set (None ∷ cs) (suc i) c lt = some_set cs i c (omega (arith, lt))
some_set (Some d ∷ cs) (suc i) c lt = refl

pub purged_set : (xs : List Slot) (cs : List (Option Cursor)) (has_gone : Bool) (i : ℕ) (c : Cursor) → i < length cs → IsPurged xs cs has_gone → IsPurged xs (set cs i (Some c)) has_gone
purged_set xs cs has_gone i c lt p = record { live = p.live; closed = λ h. absurd (true≢false (sym (some_set cs i c lt) ∙ h)) }

pub purged_opened : (k : ℕ) (kind : HookKind) (key : List ℕ) (xs : List Slot) (cs : List (Option Cursor)) (has_gone : Bool) → IsPurged xs cs has_gone → IsPurged (map (with_opening k kind key) xs) cs has_gone
purged_opened k kind key xs cs has_gone p = record { live = λ h. all_map is_live is_live (with_opening k kind key) same xs ∙ p.live h; closed = p.closed } where
  same : (s : Slot) → is_live (with_opening k kind key s) ≡ is_live s
  same s = by_bool (is_slot_for kind key s) (λ t. ap (λ b. is_live (if b then seen_opening k s else s)) t) (λ t. ap (λ b. is_live (if b then seen_opening k s else s)) t)

-- how many live
rows_fall : (xs : List Slot) → falls_by slot_rank xs ≡ true → falls (live_rows xs) ≡ true
rows_fall xs h = falls_map slot_rank rank_of row_of (λ s. refl) (filter is_live xs) ∙ falls_filter slot_rank is_live xs h

pub rows_falling : (xs : List Slot) → falls_by slot_rank xs ≡ true → falls (live_rows xs) ≡ true
rows_falling xs h = rows_fall xs h

pub counted_put : (a : HookRow) (rows : List HookRow) (n m : ℕ) → falls rows ≡ true → IsCounted rows n m → (is_relay a.kind ≡ true → n < 64) → (is_relay a.kind ≡ false → m < 960) → IsCounted (put_in a rows) (if is_relay a.kind then n + 1 else n) (if not (is_relay a.kind) then m + 1 else m)
counted_put a rows n m fall c few free =
    let n_is = c.relays in let m_is = c.others in let n_most = c.most_relays in let m_most = c.most_others in
    by_bool (is_relay a.kind)
    (λ t. let less = few t in
    let more = count_kept rank_of (λ r. is_relay r.kind) a rows t fall in
    let same = count_dropped rank_of (λ r. not (is_relay r.kind)) a rows (ap not t) in
    rw t (record { relays = omega (arith, n_is, more); others = m_is ∙ sym same; most_relays = omega (arith, less); most_others = m_most }))
    (λ t. let less = free t in
    let same = count_dropped rank_of (λ r. is_relay r.kind) a rows t in
    let more = count_kept rank_of (λ r. not (is_relay r.kind)) a rows (ap not t) fall in
    rw t (record { relays = n_is ∙ sym same; others = omega (arith, m_is, more); most_relays = n_most; most_others = omega (arith, less) }))

pub counted_left : (id : HookId) (rows : List HookRow) (n m : ℕ) → IsCounted rows n m → IsCounted (without id rows) (relays (without id rows)) (others (without id rows))
counted_left id rows n m c =
    let n_is = c.relays in let m_is = c.others in let n_most = c.most_relays in let m_most = c.most_others in
    let p = λ (r : HookRow). not (r.id.0 == id.0) in
    let a = length_filter (λ r. is_relay r.kind) p rows in
    let b = length_filter (λ r. not (is_relay r.kind)) p rows in record {
      relays = refl;
      others = refl;
      most_relays = omega (arith, n_is, n_most, a);
      most_others = omega (arith, m_is, m_most, b);
    }

pub counted_switched : (id : HookId) (on : Bool) (rows : List HookRow) (n m : ℕ) → relays (rows_switched id on rows) ≡ relays rows → others (rows_switched id on rows) ≡ others rows → IsCounted rows n m → IsCounted (rows_switched id on rows) n m
counted_switched id on rows n m a b c = record { relays = c.relays ∙ sym a; others = c.others ∙ sym b; most_relays = c.most_relays; most_others = c.most_others }

-- what contracts see
pub view_put : (a : Slot) (xs : List Slot) (at hooked : ℕ) (cs : List (Option Cursor)) (marks : List Entry) → insert xs at a ≡ put_by slot_rank a xs → a.id.0 ≡ hooked + 1 → a.gone ≡ false → IsOrdered hooked xs → AllCursorsFit hooked xs cs → seen_as (insert xs at a) (map (moved_place at) cs) marks (hooked + 1) ≡ with_row (row_of a) (seen_as xs cs marks hooked)
view_put a xs at hooked cs marks e number live o s =
    let lt : hooked < a.id.0 = omega (arith, number) in
    λ i. record {
      rows = (ap live_rows e ∙ live_put a xs o.falls (ap not live)) i;
      marks = marks;
      hooked = hooked + 1;
      filed = (ap (map slot_filing) e ∙ filing_put a xs) i;
      passes = goings_moved 0 at hooked xs a cs lt s i;
    }

pub view_switched : (id : HookId) (on : Bool) (xs : List Slot) (cs : List (Option Cursor)) (marks : List Entry) (hooked : ℕ) → length cs ≡ 17 → seen_as (map (with_slot_switch id on) xs) cs marks hooked ≡ with_rows (rows_switched id on (live_rows xs)) (seen_as xs cs marks hooked)
view_switched id on xs cs marks hooked places =
    let a = alike_switch 32 id on in
    λ i. record {
      rows = live_switched id on xs i;
      marks = marks;
      hooked = hooked;
      filed = filings_alike 32 (with_slot_switch id on) a xs i;
      passes = goings_alike 32 (with_slot_switch id on) a 0 xs cs (omega (arith, places)) (all_free 32 0 cs (omega (arith, places))) i;
    }

goings_left : (id : HookId) (stays : Bool) (xs : List Slot) (cs : List (Option Cursor)) → length cs ≡ 17 → stays ≡ list_any is_some cs → goings 0 (left_slots id stays xs) cs ≡ goings 0 xs cs
goings_left id true xs cs places e = goings_alike 32 (with_leave id) (alike_leave 32 id) 0 xs cs (omega (arith, places)) (all_free 32 0 cs (omega (arith, places)))
goings_left id false xs cs places e = none-goings 0 xs (left_slots id false xs) cs (sym e)

filings_leave : (id : HookId) (stays : Bool) (xs : List Slot) → map slot_filing (left_slots id stays xs) ≡ (if stays then map slot_filing xs else without_filing id (map slot_filing xs))
filings_leave id true xs = filings_alike 32 (with_leave id) (alike_leave 32 id) xs
filings_leave id false xs = filings_left id xs

pub view_left : (id : HookId) (stays : Bool) (xs : List Slot) (cs : List (Option Cursor)) (marks : List Entry) (hooked : ℕ) → length cs ≡ 17 → stays ≡ list_any is_some cs → seen_as (left_slots id stays xs) cs (without_mark id marks) hooked ≡ without_row id (seen_as xs cs marks hooked)
view_left id stays xs cs marks hooked places e =
    let open_is : stays ≡ any_open (goings 0 xs cs) = e ∙ sym (any-goings 0 xs cs) in
    λ i. record {
      rows = live_left id stays xs i;
      marks = without_mark id marks;
      hooked = hooked;
      filed = (filings_leave id stays xs ∙ ap (λ b. if b then map slot_filing xs else without_filing id (map slot_filing xs)) open_is) i;
      passes = goings_left id stays xs cs places e i;
    }

-- a pass opens
abbrev pub opened_cursor : ℕ → ℕ → ℕ → Cursor
opened_cursor start count hooked = record { start = start; count = count; seen = 0; hooked = hooked; looked = 0 }

pub stands_opened : (k hooked start count : ℕ) (kind : HookKind) (key : List ℕ) (xs : List Slot) → k < 32 → IsRange kind key xs start count → CursorFits hooked xs (opened_cursor start count hooked)
stands_opened k hooked start count kind key xs le r = record {
  inside = r.inside;
  within = omega arith;
  counted = omega arith;
  drawn = omega arith;
  topic = range_one kind key xs start count r;
}

going_opened : (k hooked start count : ℕ) (kind : HookKind) (key : List ℕ) (xs : List Slot) → k < 32 → list_all (is_known hooked) xs ≡ true → IsRange kind key xs start count → going_at k (opened_cursor start count hooked) (map (with_opening k kind key) xs) ≡ record { left = hooks_on kind key (live_rows xs); looked = 0; over = first_topic (filter (is_slot_for kind key) xs) }
going_opened k hooked start count kind key xs le known r =
    let f = with_opening k kind key in
    let a = alike_opening k kind key le in
    let c = opened_cursor start count hooked in
    let w : window c (map f xs) ≡ map f (filter (is_slot_for kind key) xs) = window_alike k f a c xs ∙ ap (map f) (sym (range_is kind key xs start count r)) in
    let over : first_topic (window c (map f xs)) ≡ first_topic (filter (is_slot_for kind key) xs) = ap first_topic w ∙ same_first (filter (is_slot_for kind key) xs) in
    λ i. record {
      left = (ap (λ l. map slot_entry (filter (in_snapshot k hooked) l)) w ∙ takes_enabled k hooked kind key xs le known) i;
      looked = 0;
      over = over i;
    } where
      same_first : (ys : List Slot) → first_topic (map (with_opening k kind key) ys) ≡ first_topic ys
      same_first [] = refl
      same_first (y ∷ ys) = by_bool (is_slot_for kind key y)
          (λ t. ap (λ b. first_topic ((if b then seen_opening k y else y) ∷ map (with_opening k kind key) ys)) t)
          (λ t. ap (λ b. first_topic ((if b then seen_opening k y else y) ∷ map (with_opening k kind key) ys)) t)

pub view_opened : (k hooked start count : ℕ) (kind : HookKind) (key : List ℕ) (xs : List Slot) (cs : List (Option Cursor)) (marks : List Entry) → length cs ≡ 17 → k < 17 → get_or cs k None ≡ None → list_all (is_known hooked) xs ≡ true → IsRange kind key xs start count → seen_as (map (with_opening k kind key) xs) (set cs k (Some (opened_cursor start count hooked))) marks hooked ≡ with_pass k (Some (opening kind key (seen_as xs cs marks hooked))) (seen_as xs cs marks hooked)
view_opened k hooked start count kind key xs cs marks places lt free known r =
    let f = with_opening k kind key in
    let le : k < 32 = omega (arith, lt) in
    let a = alike_opening k kind key le in
    let same : k ≡ 0 + k = omega arith in
    λ i. record {
      rows = live_opened k kind key xs i;
      marks = marks;
      hooked = hooked;
      filed = filings_alike k f a xs i;
      passes = (goings-set 0 k (map f xs) cs (Some (opened_cursor start count hooked))
          ∙ ap (λ q. set (goings 0 (map f xs) cs) k (Some (going_at q (opened_cursor start count hooked) (map f xs)))) (sym same)
          ∙ (λ j. set (goings_alike k f a 0 xs cs (omega (arith, places)) (free_at k 0 k cs same free) j) k (Some (going_opened k hooked start count kind key xs le known r j)))
          ∙ ap (λ o. set (goings 0 xs cs) k (Some (record { left = hooks_on kind key (live_rows xs); looked = 0; over = o }))) (topic_is_over kind key xs)) i;
    }

-- a pass closes, with others still open, or nothing gone
pub view_closed : (k : ℕ) (xs : List Slot) (cs : List (Option Cursor)) (marks : List Entry) (hooked : ℕ) → (list_any is_some (set cs k None) ≡ false → list_all is_live xs ≡ true) → seen_as xs (set cs k None) marks hooked ≡ without_pass k (seen_as xs cs marks hooked)
view_closed k xs cs marks hooked live =
    let p = goings-set 0 k xs cs None in
    let any : list_any is_some (set cs k None) ≡ any_open (set (goings 0 xs cs) k None) = sym (any-goings 0 xs (set cs k None)) ∙ ap any_open p in
    let filed : map slot_filing xs ≡ (if any_open (set (goings 0 xs cs) k None) then map slot_filing xs else map filing_of (live_rows xs)) =
    by_bool (any_open (set (goings 0 xs cs) k None))
    (λ t. sym (ap (λ b. if b then map slot_filing xs else map filing_of (live_rows xs)) t))
    (λ t. filings_all_live xs (live (any ∙ t)) ∙ sym (ap (λ b. if b then map slot_filing xs else map filing_of (live_rows xs)) t)) in
    λ i. record { rows = live_rows xs; marks = marks; hooked = hooked; filed = filed i; passes = p i }

-- the last closes, and what is gone goes
pub view_purged : (k : ℕ) (xs : List Slot) (cs : List (Option Cursor)) (marks : List Entry) (hooked : ℕ) → list_any is_some (set cs k None) ≡ false → seen_as (filter is_live xs) (set cs k None) marks hooked ≡ without_pass k (seen_as xs cs marks hooked)
view_purged k xs cs marks hooked closed =
    let p = goings-set 0 k xs cs None in
    let none : any_open (set (goings 0 xs cs) k None) ≡ false = sym (sym (any-goings 0 xs (set cs k None)) ∙ ap any_open p) ∙ closed in
    let filed : map slot_filing (filter is_live xs) ≡ (if any_open (set (goings 0 xs cs) k None) then map slot_filing xs else map filing_of (live_rows xs)) =
    filings_live xs ∙ sym (ap (λ b. if b then map slot_filing xs else map filing_of (live_rows xs)) none) in
    λ i. record {
      rows = live_purged xs i;
      marks = marks;
      hooked = hooked;
      filed = filed i;
      passes = (none-goings 0 xs (filter is_live xs) (set cs k None) closed ∙ p) i;
    }
