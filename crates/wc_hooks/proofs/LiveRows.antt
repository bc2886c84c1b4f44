-- The rows that the slots are seen as, and what is filed, while slots change.
use Rattle.std.proofs.Common.{◌≡◌, ℕ, Bool, true, false, not, List, [], ◌∷◌, length, map, refl, sym, ap, ◌∙◌}
use Rattle.std.specs.Prelude.{filter, ◌&&◌, ◌||◌, ◌==◌, if◌then◌else◌}
use Rattle.std.specs.List.{list_all, list_any}
use Rattle.std.proofs.lemmas.Bool.{and_from}
use Rattle.std.proofs.lemmas.List.{length-map}
use Rattle.wc_hooks.specs.declared.entry.HookId.{HookId}
use Rattle.wc_hooks.specs.declared.kind.HookKind.{HookKind}
use Rattle.wc_hooks.specs.declared.slot.Slot.{Slot}
use Rattle.wc_hooks.specs.Kinds.{is_relay}
use Rattle.wc_hooks.specs.Ranks.{put_by, falls_by}
use Rattle.wc_hooks.specs.Rows.{HookRow, rank_of, is_id, put_in, without, with_switch, rows_switched, lives, relays, others}
use Rattle.wc_hooks.specs.Filings.{filing_of, filing_rank, with_filing, without_filing}
use Rattle.wc_hooks.specs.Slots.{slot_rank, slot_filing, row_of, is_slot, is_live, is_slot_for, live_rows, live_relays, live_others, with_enabled, with_slot_switch, gone_from, with_leave, left_slots, seen_opening, with_opening}
use Rattle.wc_hooks.proofs.Lists.{by_bool, keeps_first, drops_first, filter_map, map_both, map_same, filter_comm, filter_all, filter_filter, all_kept}
use Rattle.wc_hooks.proofs.Puts.{filter_kept, put_map}

live_first : (x : Slot) (xs : List Slot) → is_live x ≡ true → live_rows (x ∷ xs) ≡ row_of x ∷ live_rows xs
live_first x xs t = ap (map row_of) (keeps_first is_live x xs t)

gone_first : (x : Slot) (xs : List Slot) → is_live x ≡ false → live_rows (x ∷ xs) ≡ live_rows xs
gone_first x xs t = ap (map row_of) (drops_first is_live x xs t)

pub live_put : (a : Slot) (xs : List Slot) → falls_by slot_rank xs ≡ true → is_live a ≡ true → live_rows (put_by slot_rank a xs) ≡ put_in (row_of a) (live_rows xs)
live_put a xs f g = ap (map row_of) (filter_kept slot_rank is_live a xs g f) ∙ put_map slot_rank rank_of row_of (λ s. refl) a (filter is_live xs)

pub filing_put : (a : Slot) (xs : List Slot) → map slot_filing (put_by slot_rank a xs) ≡ with_filing (slot_filing a) (map slot_filing xs)
filing_put a xs = put_map slot_rank filing_rank slot_filing (λ s. refl) a xs

row_switched : (id : HookId) (on : Bool) (x : Slot) → is_live x ≡ true → row_of (with_slot_switch id on x) ≡ with_switch id on (row_of x)
row_switched id on x t = by_bool (is_slot id x)
    (λ s. ap (λ b. row_of (if b then with_enabled on x else x)) (and_from _ _ s t) ∙ sym (ap (λ b. if b then record (row_of x) { enabled = on } else row_of x) s))
    (λ s. ap (λ b. row_of (if b then with_enabled on x else x)) (ap (λ b. b && is_live x) s) ∙ sym (ap (λ b. if b then record (row_of x) { enabled = on } else row_of x) s))

pub live_still : (id : HookId) (on : Bool) (x : Slot) → is_live (with_slot_switch id on x) ≡ is_live x
live_still id on x = by_bool (is_slot id x && is_live x)
    (λ s. ap (λ b. is_live (if b then with_enabled on x else x)) s)
    (λ s. ap (λ b. is_live (if b then with_enabled on x else x)) s)

pub live_switched : (id : HookId) (on : Bool) (xs : List Slot) → live_rows (map (with_slot_switch id on) xs) ≡ rows_switched id on (live_rows xs)
live_switched id on [] = refl
live_switched id on (x ∷ xs) = by_bool (is_live x)
    (λ t. live_first (with_slot_switch id on x) (map (with_slot_switch id on) xs) (live_still id on x ∙ t)
    ∙ (λ i. row_switched id on x t i ∷ live_switched id on xs i)
    ∙ ap (rows_switched id on) (sym (live_first x xs t)))
    (λ t. gone_first (with_slot_switch id on x) (map (with_slot_switch id on) xs) (live_still id on x ∙ t)
    ∙ live_switched id on xs
    ∙ ap (rows_switched id on) (sym (gone_first x xs t)))

cut_first : (id : HookId) (row : HookRow) (rows : List HookRow) → is_id id row ≡ true → without id (row ∷ rows) ≡ without id rows
cut_first id row rows t = drops_first (λ r. not (is_id id r)) row rows (ap not t)

stay_first : (id : HookId) (row : HookRow) (rows : List HookRow) → is_id id row ≡ false → without id (row ∷ rows) ≡ row ∷ without id rows
stay_first id row rows t = keeps_first (λ r. not (is_id id r)) row rows (ap not t)

leaves : (id : HookId) (x : Slot) → is_slot id x ≡ true → with_leave id x ≡ gone_from x
leaves id x t = ap (λ b. if b then gone_from x else x) t

leaves_not : (id : HookId) (x : Slot) → is_slot id x ≡ false → with_leave id x ≡ x
leaves_not id x t = ap (λ b. if b then gone_from x else x) t

live_left_in : (id : HookId) (xs : List Slot) → live_rows (map (with_leave id) xs) ≡ without id (live_rows xs)
live_left_in id [] = refl
live_left_in id (x ∷ xs) =
    let rest = map (with_leave id) xs in
    by_bool (is_slot id x)
    (λ s. ap (λ y. live_rows (y ∷ rest)) (leaves id x s) ∙ gone_first (gone_from x) rest refl ∙ live_left_in id xs ∙ by_bool (is_live x)
    (λ t. sym (ap (without id) (live_first x xs t) ∙ cut_first id (row_of x) (live_rows xs) s))
    (λ t. ap (without id) (sym (gone_first x xs t))))
    (λ s. ap (λ y. live_rows (y ∷ rest)) (leaves_not id x s) ∙ by_bool (is_live x)
    (λ t. live_first x rest t ∙ ap (λ l. row_of x ∷ l) (live_left_in id xs) ∙ sym (ap (without id) (live_first x xs t) ∙ stay_first id (row_of x) (live_rows xs) s))
    (λ t. gone_first x rest t ∙ live_left_in id xs ∙ ap (without id) (sym (gone_first x xs t))))

live_left_out : (id : HookId) (xs : List Slot) → live_rows (filter (λ s. not (is_slot id s)) xs) ≡ without id (live_rows xs)
live_left_out id xs =
    ap (map row_of) (filter_comm is_live (λ s. not (is_slot id s)) xs)
    ∙ sym (filter_map row_of (λ s. not (is_slot id s)) (λ r. not (is_id id r)) (λ s. refl) (filter is_live xs))

pub live_left : (id : HookId) (stays : Bool) (xs : List Slot) → live_rows (left_slots id stays xs) ≡ without id (live_rows xs)
live_left id true xs = live_left_in id xs
live_left id false xs = live_left_out id xs

row_opened : (k : ℕ) (kind : HookKind) (key : List ℕ) (x : Slot) → (row_of (with_opening k kind key x) ≡ row_of x) × (is_live (with_opening k kind key x) ≡ is_live x)
row_opened k kind key x = by_bool (is_slot_for kind key x)
    (λ s. (ap (λ b. row_of (if b then seen_opening k x else x)) s, ap (λ b. is_live (if b then seen_opening k x else x)) s))
    (λ s. (ap (λ b. row_of (if b then seen_opening k x else x)) s, ap (λ b. is_live (if b then seen_opening k x else x)) s))

pub live_opened : (k : ℕ) (kind : HookKind) (key : List ℕ) (xs : List Slot) → live_rows (map (with_opening k kind key) xs) ≡ live_rows xs
live_opened k kind key xs =
    ap (map row_of) (filter_map (with_opening k kind key) is_live is_live (λ s. (row_opened k kind key s).1) xs)
    ∙ map_both (with_opening k kind key) row_of (filter is_live xs)
    ∙ map_same (λ s. row_of (with_opening k kind key s)) row_of (λ s. (row_opened k kind key s).0) (filter is_live xs)

pub live_purged : (xs : List Slot) → live_rows (filter is_live xs) ≡ live_rows xs
live_purged xs = ap (map row_of) (filter_all is_live (filter is_live xs) (all_kept is_live is_live (λ s t. t) xs))

pub filings_live : (xs : List Slot) → map slot_filing (filter is_live xs) ≡ map filing_of (live_rows xs)
filings_live xs = sym (map_both row_of filing_of (filter is_live xs))

pub filings_all_live : (xs : List Slot) → list_all is_live xs ≡ true → map slot_filing xs ≡ map filing_of (live_rows xs)
filings_all_live xs h = ap (map slot_filing) (sym (filter_all is_live xs h)) ∙ filings_live xs

pub filings_left : (id : HookId) (xs : List Slot) → map slot_filing (filter (λ s. not (is_slot id s)) xs) ≡ without_filing id (map slot_filing xs)
filings_left id xs = sym (filter_map slot_filing (λ s. not (is_slot id s)) (λ f. not (f.id.0 == id.0)) (λ s. refl) xs)

-- how many live
pub relays_are : (xs : List Slot) → live_relays xs ≡ relays (live_rows xs)
relays_are xs =
    ap length (sym (filter_filter (λ s. is_relay s.kind) is_live xs))
    ∙ sym (ap length (filter_map row_of (λ s. is_relay s.kind) (λ r. is_relay r.kind) (λ s. refl) (filter is_live xs)) ∙ length-map (filter (λ s. is_relay s.kind) (filter is_live xs)) row_of)

pub others_are : (xs : List Slot) → live_others xs ≡ others (live_rows xs)
others_are xs =
    ap length (sym (filter_filter (λ s. not (is_relay s.kind)) is_live xs))
    ∙ sym (ap length (filter_map row_of (λ s. not (is_relay s.kind)) (λ r. not (is_relay r.kind)) (λ s. refl) (filter is_live xs)) ∙ length-map (filter (λ s. not (is_relay s.kind)) (filter is_live xs)) row_of)

only_first : (a b : Bool) → b ≡ true → (a && b) ≡ a
only_first true b e = e
only_first false b e = refl

never_first : (a b : Bool) → b ≡ false → (a && b) ≡ false
never_first true b e = e
never_first false b e = refl

pub any_live : (p : HookRow → Bool) (xs : List Slot) → list_any (λ s. p (row_of s) && is_live s) xs ≡ list_any p (live_rows xs)
any_live p [] = refl
any_live p (x ∷ xs) = by_bool (is_live x)
    (λ t. (λ i. only_first (p (row_of x)) (is_live x) t i || any_live p xs i) ∙ ap (list_any p) (sym (live_first x xs t)))
    (λ t. (λ i. never_first (p (row_of x)) (is_live x) t i || any_live p xs i) ∙ ap (list_any p) (sym (gone_first x xs t)))

pub lives_is : (id : HookId) (xs : List Slot) → list_any (λ s. is_slot id s && is_live s) xs ≡ lives id (live_rows xs)
lives_is id xs = any_live (is_id id) xs
