-- What always holds of the table's inside, kept by each call, and what contracts see of the call.
use Rattle.std.proofs.Common.{◌≡◌, ◌≢◌, ℕ, ◌+◌, ◌<◌, ◌≤◌, Bool, true, false, not, Option, Some, None, List, [], ◌∷◌, length, map, get_or, set, arith, refl, sym, ap, ◌∙◌, subst, length-set}
use Rattle.std.specs.Prelude.{filter, insert, is_some, is_none, ◌&&◌, ◌==◌, nat_le, if◌then◌else◌}
use Rattle.std.specs.List.{list_all, list_any}
use Rattle.std.proofs.lemmas.Bool.{true≢false}
use Rattle.std.proofs.lemmas.Bool.Decides.{nat_tests}
use Rattle.std.proofs.lemmas.List.{length-map, get_or-set_same, get_or-set_other, take-set-le}
use Rattle.wc_hooks.specs.declared.cursor.Cursor.{Cursor}
use Rattle.wc_hooks.specs.declared.entry.Entry.{Entry}
use Rattle.wc_hooks.specs.declared.entry.HookId.{HookId}
use Rattle.wc_hooks.specs.declared.kind.HookKind.{HookKind}
use Rattle.wc_hooks.specs.declared.slot.Slot.{Slot}
use Rattle.wc_hooks.specs.Kinds.{is_relay}
use Rattle.wc_hooks.specs.Ranks.{put_by, falls_by}
use Rattle.wc_hooks.specs.Rows.{HookRow, is_id, put_in, without, with_switch, rows_switched, relays, others}
use Rattle.wc_hooks.specs.Passes.{without_mark, with_given, entries_left}
use Rattle.wc_hooks.specs.Table.{Table, Going, IsHookTable, IsOpen, pass_at, looked_at, looked_of, over_at, left_at, after_next, with_row, with_rows, without_row, with_pass, without_pass, opening, other_passes, has_no_place, is_place_for, is_full_for}
use Rattle.wc_hooks.specs.Slots.{slot_rank, row_of, is_live, live_rows, live_relays, live_others, with_slot_switch, left_slots, with_opening, moved_place, Walked, IsRange, IsOrdered, AllCursorsFit, CursorFits}
use Rattle.wc_hooks.specs.Inside.{seen_as, IsTableKept, IsMarked, IsCounted, IsPurged}
use Rattle.wc_hooks.proofs.Lists.{by_bool, all_kept, filter_map, open_inside}
use Rattle.wc_hooks.proofs.Puts.{falls_put}
use Rattle.wc_hooks.proofs.Windows.{all_stand_moved}
use Rattle.wc_hooks.proofs.Alikes.{alike_opening, all_stand_alike}
use Rattle.wc_hooks.proofs.LiveRows.{live_put, live_switched, live_left, live_opened, live_purged, relays_are, others_are}
use Rattle.wc_hooks.proofs.Marked.{marked_put, marked_switched, marked_ended, marked_left}
use Rattle.wc_hooks.proofs.Counts.{count_more, count_same, count_less, count-goings, length-goings, some-goings, place_of, place_none}
use Rattle.wc_hooks.proofs.Sounds.{ordered_put, ordered_switched, ordered_opened, ordered_filter, ordered_left, stand_none, stand_left, stand_switched, stand_set, stand_closed, lies_at, purged_put, purged_switched, purged_left, purged_set, purged_opened, rows_falling, counted_put, counted_left, counted_switched, opened_cursor, stands_opened, view_put, view_switched, view_left, view_opened, view_closed, view_purged}
use Rattle.wc_hooks.proofs.TableLaws.{is_table, marked_next, stands_next, view_next}

module _ (xs : List Slot) (cs : List (Option Cursor)) (ms : List Entry) (h n m : ℕ) (g : Bool) (k : IsTableKept xs cs ms h n m g) where
  pub law_of : IsHookTable (seen_as xs cs ms h)
  law_of = is_table xs cs ms h n m g k.ordered k.standing k.places k.marked k.counted k.purged

  pub kept_ended : (id : HookId) (new : List Entry) → new ≡ without_mark id ms → IsTableKept xs cs new h n m g
  kept_ended id new e = subst (λ (l : List Entry). IsTableKept xs cs l h n m g) (sym e) (record {
    ordered = k.ordered;
    standing = k.standing;
    places = k.places;
    marked = marked_ended id (live_rows xs) ms k.marked;
    counted = k.counted;
    purged = k.purged;
  })

  same_kinds : (id : HookId) (on : Bool) (p : HookKind → Bool) (rows : List HookRow) → length (filter (λ r. p r.kind) (rows_switched id on rows)) ≡ length (filter (λ r. p r.kind) rows)
  same_kinds id on p rows = ap length (filter_map (with_switch id on) (λ r. p r.kind) (λ r. p r.kind) (λ r. by_bool (is_id id r) (λ t. rw t refl) (λ t. rw t refl)) rows) ∙ length-map (filter (λ r. p r.kind) rows) (with_switch id on)

  pub kept_switched : (id : HookId) (on : Bool) (new : List Slot) → new ≡ map (with_slot_switch id on) xs → IsTableKept new cs ms h n m g
  kept_switched id on new e =
      let rows = live_switched id on xs in
      subst (λ (l : List Slot). IsTableKept l cs ms h n m g) (sym e) (record {
        ordered = ordered_switched h id on xs k.ordered;
        standing = stand_switched h id on xs cs k.standing;
        places = k.places;
        marked = subst (λ (r : List HookRow). IsMarked r ms) (sym rows) (marked_switched id on (live_rows xs) ms k.marked);
        counted = subst (λ (r : List HookRow). IsCounted r n m) (sym rows) (counted_switched id on (live_rows xs) n m (same_kinds id on is_relay (live_rows xs)) (same_kinds id on (λ kind. not (is_relay kind)) (live_rows xs)) k.counted);
        purged = purged_switched id on xs cs g k.purged;
      })

  pub seen_switched : (id : HookId) (on : Bool) (new : List Slot) (was : Table) → seen_as xs cs ms h ≡ was → new ≡ map (with_slot_switch id on) xs → seen_as new cs ms h ≡ with_rows (rows_switched id on was.rows) was
  seen_switched id on new was same e = ap (λ l. seen_as l cs ms h) e ∙ view_switched id on xs cs ms h k.places ∙ ap (λ t. with_rows (rows_switched id on t.rows) t) same

  pub kept_put : (a : Slot) (at n2 m2 : ℕ) (new : List Slot) (places : List (Option Cursor)) → at ≤ length xs → insert xs at a ≡ put_by slot_rank a xs → new ≡ insert xs at a → places ≡ map (moved_place at) cs → a.id.0 ≡ h + 1 → a.gone ≡ false → n2 ≡ (if is_relay a.kind then n + 1 else n) → m2 ≡ (if not (is_relay a.kind) then m + 1 else m) → (is_relay a.kind ≡ true → n < 64) → (is_relay a.kind ≡ false → m < 960) → IsTableKept new places ms (h + 1) n2 m2 g
  kept_put a at n2 m2 new places within order there moves number live n_is m_is few free =
      let sorted : falls_by slot_rank (insert xs at a) ≡ true = ap (falls_by slot_rank) order ∙ falls_put slot_rank a xs k.ordered.falls in
      let rows : live_rows new ≡ put_in (row_of a) (live_rows xs) = ap live_rows (there ∙ order) ∙ live_put a xs k.ordered.falls (ap not live) in
      let slots : new ≡ put_by slot_rank a xs = there ∙ order in record {
        ordered = subst (IsOrdered (h + 1)) (sym slots) (ordered_put h a xs number live k.ordered);
        standing = subst (λ (l : List Slot). AllCursorsFit (h + 1) l places) (sym there) (subst (AllCursorsFit (h + 1) (insert xs at a)) (sym moves) (all_stand_moved at h (h + 1) xs a cs within (omega arith) sorted k.standing));
        places = ap length moves ∙ length-map cs (moved_place at) ∙ k.places;
        marked = subst (λ (r : List HookRow). IsMarked r ms) (sym rows) (marked_put (row_of a) (live_rows xs) ms k.marked);
        counted = subst (λ (r : List HookRow). IsCounted r n2 m2) (sym rows) (subst (λ (i : ℕ). IsCounted (put_in (row_of a) (live_rows xs)) i m2) (sym n_is) (subst (IsCounted (put_in (row_of a) (live_rows xs)) (if is_relay a.kind then n + 1 else n)) (sym m_is) (counted_put (row_of a) (live_rows xs) n m (rows_falling xs k.ordered.falls) k.counted few free)));
        purged = subst (λ (l : List Slot). IsPurged l places g) (sym slots) (subst (λ (l : List (Option Cursor)). IsPurged (put_by slot_rank a xs) l g) (sym moves) (purged_put a xs cs at g live k.purged));
      }

  pub seen_put : (a : Slot) (at : ℕ) (new : List Slot) (places : List (Option Cursor)) (was : Table) → seen_as xs cs ms h ≡ was → insert xs at a ≡ put_by slot_rank a xs → new ≡ insert xs at a → places ≡ map (moved_place at) cs → a.id.0 ≡ h + 1 → a.gone ≡ false → seen_as new places ms (h + 1) ≡ with_row (row_of a) was
  seen_put a at new places was same order there moves number live = (λ i. seen_as (there i) (moves i) ms (h + 1)) ∙ view_put a xs at h cs ms order number live k.ordered k.standing ∙ ap (with_row (row_of a)) same

  pub kept_left : (id : HookId) (stays : Bool) (new : List Slot) (marks : List Entry) (n2 m2 : ℕ) → stays ≡ list_any is_some cs → new ≡ left_slots id stays xs → marks ≡ without_mark id ms → n2 ≡ live_relays new → m2 ≡ live_others new → IsTableKept new cs marks h n2 m2 stays
  kept_left id stays new marks n2 m2 open_is e unmarks n_is m_is =
      let rows : live_rows new ≡ without id (live_rows xs) = ap live_rows e ∙ live_left id stays xs in
      let relay_count : n2 ≡ relays (without id (live_rows xs)) = n_is ∙ relays_are new ∙ ap relays rows in
      let other_count : m2 ≡ others (without id (live_rows xs)) = m_is ∙ others_are new ∙ ap others rows in record {
        ordered = subst (IsOrdered h) (sym e) (ordered_left h id stays xs k.ordered);
        standing = subst (λ (l : List Slot). AllCursorsFit h l cs) (sym e) (stand_left h id stays xs cs open_is k.standing);
        places = k.places;
        marked = subst (λ (r : List HookRow). IsMarked r marks) (sym rows) (subst (IsMarked (without id (live_rows xs))) (sym unmarks) (marked_left id (live_rows xs) ms k.marked));
        counted = subst (λ (r : List HookRow). IsCounted r n2 m2) (sym rows) (subst (λ (i : ℕ). IsCounted (without id (live_rows xs)) i m2) (sym relay_count) (subst (IsCounted (without id (live_rows xs)) (relays (without id (live_rows xs)))) (sym other_count) (counted_left id (live_rows xs) n m k.counted)));
        purged = subst (λ (l : List Slot). IsPurged l cs stays) (sym e) (purged_left id xs cs g stays open_is k.purged);
      }

  pub seen_left : (id : HookId) (stays : Bool) (new : List Slot) (marks : List Entry) (was : Table) → seen_as xs cs ms h ≡ was → stays ≡ list_any is_some cs → new ≡ left_slots id stays xs → marks ≡ without_mark id ms → seen_as new cs marks h ≡ without_row id was
  seen_left id stays new marks was same open_is e unmarks = (λ i. seen_as (e i) cs (unmarks i) h) ∙ view_left id stays xs cs ms h k.places open_is ∙ ap (without_row id) same

  pub kept_opened : (place start count : ℕ) (kind : HookKind) (key : List ℕ) (new : List Slot) (places : List (Option Cursor)) → place < 17 → IsRange kind key xs start count → new ≡ map (with_opening place kind key) xs → places ≡ set cs place (Some (opened_cursor start count h)) → IsTableKept new places ms h n m g
  kept_opened place start count kind key new places lt range e put =
      let le : place < 32 = omega (arith, lt) in
      let rows : live_rows new ≡ live_rows xs = ap live_rows e ∙ live_opened place kind key xs in
      let inside : place < length cs = (let c = k.places in omega (arith, lt, c)) in
      let stands : CursorFits h (map (with_opening place kind key) xs) (opened_cursor start count h) = stand_mapped place kind key start count le range in record {
        ordered = subst (IsOrdered h) (sym e) (ordered_opened h place kind key xs le k.ordered);
        standing = subst (λ (l : List Slot). AllCursorsFit h l places) (sym e) (subst (AllCursorsFit h (map (with_opening place kind key) xs)) (sym put) (stand_set h (map (with_opening place kind key) xs) cs place (opened_cursor start count h) stands (all_stand_alike place (with_opening place kind key) (alike_opening place kind key le) h xs cs k.standing)));
        places = ap length put ∙ length-set cs place (Some (opened_cursor start count h)) ∙ k.places;
        marked = subst (λ (r : List HookRow). IsMarked r ms) (sym rows) k.marked;
        counted = subst (λ (r : List HookRow). IsCounted r n m) (sym rows) k.counted;
        purged = subst (λ (l : List Slot). IsPurged l places g) (sym e) (subst (λ (l : List (Option Cursor)). IsPurged (map (with_opening place kind key) xs) l g) (sym put) (purged_set (map (with_opening place kind key) xs) cs g place (opened_cursor start count h) inside (purged_opened place kind key xs cs g k.purged)));
      } where
        stand_mapped : (place : ℕ) (kind : HookKind) (key : List ℕ) (start count : ℕ) → place < 32 → IsRange kind key xs start count → CursorFits h (map (with_opening place kind key) xs) (opened_cursor start count h)
        stand_mapped place kind key start count le range = (all_stand_alike place (with_opening place kind key) (alike_opening place kind key le) h xs (Some (opened_cursor start count h) ∷ []) (stands_opened place h start count kind key xs le range, tt)).0

  pub seen_opened : (place start count : ℕ) (kind : HookKind) (key : List ℕ) (new : List Slot) (places : List (Option Cursor)) (was : Table) → seen_as xs cs ms h ≡ was → place < 17 → get_or cs place None ≡ None → IsRange kind key xs start count → new ≡ map (with_opening place kind key) xs → places ≡ set cs place (Some (opened_cursor start count h)) → seen_as new places ms h ≡ with_pass place (Some (opening kind key was)) was
  seen_opened place start count kind key new places was same lt free range e put =
      (λ i. seen_as (e i) (put i) ms h) ∙ view_opened place h start count kind key xs cs ms k.places lt free k.ordered.known range ∙ ap (λ t. with_pass place (Some (opening kind key t)) t) same

  pub kept_next : (place : ℕ) (c d : Cursor) (result : Option Entry) (marks : List Entry) (places : List (Option Cursor)) → get_or cs place None ≡ Some c → Walked xs ms place c d result → places ≡ set cs place (Some d) → marks ≡ with_given result ms → IsTableKept xs places marks h n m g
  kept_next place c d result marks places here w put given =
      let inside : place < length cs = open_inside cs place (ap is_some here) in record {
        ordered = k.ordered;
        standing = subst (AllCursorsFit h xs) (sym put) (stand_set h xs cs place d (stands_next h place xs ms c d result (lies_at h xs cs place c here k.standing) w) k.standing);
        places = ap length put ∙ length-set cs place (Some d) ∙ k.places;
        marked = subst (IsMarked (live_rows xs)) (sym given) (marked_next h place c xs ms result k.ordered.known k.marked w.given);
        counted = k.counted;
        purged = subst (λ (l : List (Option Cursor)). IsPurged xs l g) (sym put) (purged_set xs cs g place d inside k.purged);
      }

  pub seen_next : (place steps : ℕ) (c d : Cursor) (result : Option Entry) (marks : List Entry) (places : List (Option Cursor)) (was : Table) → seen_as xs cs ms h ≡ was → get_or cs place None ≡ Some c → Walked xs ms place c d result → d.looked ≡ c.looked + steps → places ≡ set cs place (Some d) → marks ≡ with_given result ms → seen_as xs places marks h ≡ after_next was place steps
  seen_next place steps c d result marks places was same here w looked put given =
      (λ i. seen_as xs (put i) (given i) h) ∙ view_next h place steps xs cs ms c d result k.ordered here w looked ∙ ap (λ t. after_next t place steps) same

  pub kept_closed : (place : ℕ) (places : List (Option Cursor)) → places ≡ set cs place None → (list_any is_some places ≡ false → g ≡ false) → IsTableKept xs places ms h n m g
  kept_closed place places put closed = record {
    ordered = k.ordered;
    standing = subst (AllCursorsFit h xs) (sym put) (stand_closed h xs cs place k.standing);
    places = ap length put ∙ length-set cs place None ∙ k.places;
    marked = k.marked;
    counted = k.counted;
    purged = record { live = k.purged.live; closed = closed };
  }

  pub seen_closed : (place : ℕ) (places : List (Option Cursor)) (was : Table) → seen_as xs cs ms h ≡ was → places ≡ set cs place None → (list_any is_some places ≡ false → g ≡ false) → seen_as xs places ms h ≡ without_pass place was
  seen_closed place places was same put closed = (λ i. seen_as xs (put i) ms h) ∙ view_closed place xs cs ms h (λ none. k.purged.live (closed (ap (list_any is_some) put ∙ none))) ∙ ap (without_pass place) same

  pub kept_purged : (place : ℕ) (places : List (Option Cursor)) (new : List Slot) → places ≡ set cs place None → list_any is_some places ≡ false → new ≡ filter is_live xs → IsTableKept new places ms h n m false
  kept_purged place places new put closed e =
      let rows : live_rows new ≡ live_rows xs = ap live_rows e ∙ live_purged xs in record {
        ordered = subst (IsOrdered h) (sym e) (ordered_filter h is_live xs k.ordered);
        standing = stand_none h new places closed;
        places = ap length put ∙ length-set cs place None ∙ k.places;
        marked = subst (λ (r : List HookRow). IsMarked r ms) (sym rows) k.marked;
        counted = subst (λ (r : List HookRow). IsCounted r n m) (sym rows) k.counted;
        purged = record { live = λ u. ap (list_all is_live) e ∙ all_kept is_live is_live (λ s t. t) xs; closed = λ u. refl };
      }

  pub seen_purged : (place : ℕ) (places : List (Option Cursor)) (new : List Slot) (was : Table) → seen_as xs cs ms h ≡ was → places ≡ set cs place None → list_any is_some places ≡ false → new ≡ filter is_live xs → seen_as new places ms h ≡ without_pass place was
  seen_purged place places new was same put closed e = (λ i. seen_as (e i) (put i) ms h) ∙ view_purged place xs cs ms h (ap (list_any is_some) (sym put) ∙ closed) ∙ ap (without_pass place) same

-- what the passes are after a call
pub record OpensAt (place : ℕ) (was new : Table) : Type 0 where
  pub is_open : IsOpen new place
  pub apart : (q : ℕ) → IsOpen was q → q ≢ place
  pub others : (q : ℕ) → IsOpen was q → pass_at new q ≡ pass_at was q

apart_from : (was : Table) (place q : ℕ) → pass_at was place ≡ None → IsOpen was q → q ≢ place
apart_from was place q free held = λ same. absurd (let e : true ≡ false = sym held ∙ ap (λ p. is_some (pass_at was p)) same ∙ ap is_some free in cc)

pub opens_at : (place : ℕ) (pass : Going) (was new : Table) → new ≡ with_pass place (Some pass) was → place < length was.passes → pass_at was place ≡ None → OpensAt place was new
opens_at place pass was new e inside free = record {
  is_open = ap (λ t. is_some (pass_at t place)) e ∙ ap is_some (get_or-set_same was.passes place (Some pass) None inside);
  apart = λ q held. apart_from was place q free held;
  others = λ q held. ap (λ t. pass_at t q) e ∙ get_or-set_other was.passes place q (Some pass) None (apart_from was place q free held);
}

pub opens_count : (place : ℕ) (pass : Going) (was new : Table) → new ≡ with_pass place (Some pass) was → place < length was.passes → place < 16 → pass_at was place ≡ None → other_passes new ≡ other_passes was + 1
opens_count place pass was new e inside lt free = ap other_passes e ∙ count_more was.passes place (Some pass) inside lt free refl

pub record GoesAt (place steps : ℕ) (was new : Table) : Type 0 where
  pub is_open : IsOpen new place
  pub others : (q : ℕ) → q ≢ place → pass_at new q ≡ pass_at was q
  pub count : other_passes new ≡ other_passes was
  pub looked : looked_at new place ≡ looked_at was place + steps

pub goes_at : (place steps : ℕ) (was new : Table) → new ≡ after_next was place steps → IsOpen was place → GoesAt place steps was new
goes_at place steps was new e held =
    let pass : Going = record { left = entries_left was.rows was.marks (left_at was place); looked = looked_at was place + steps; over = over_at was place } in
    let inside = open_inside was.passes place held in
    let same = get_or-set_same was.passes place (Some pass) None inside in record {
      is_open = ap (λ t. is_some (pass_at t place)) e ∙ ap is_some same;
      others = λ q other. ap (λ t. pass_at t q) e ∙ get_or-set_other was.passes place q (Some pass) None other;
      count = ap other_passes e ∙ count_same was.passes place (Some pass) held refl;
      looked = ap (λ t. looked_at t place) e ∙ ap looked_of same;
    }

pub record ClosesAt (place : ℕ) (was new : Table) : Type 0 where
  pub closed : pass_at new place ≡ None
  pub others : (q : ℕ) → q ≢ place → pass_at new q ≡ pass_at was q
  pub count : place < 16 → other_passes new + 1 ≡ other_passes was

pub closes_at : (place : ℕ) (was new : Table) → new ≡ without_pass place was → IsOpen was place → ClosesAt place was new
closes_at place was new e held = record {
  closed = ap (λ t. pass_at t place) e ∙ get_or-set_same was.passes place None None (open_inside was.passes place held);
  others = λ q other. ap (λ t. pass_at t q) e ∙ get_or-set_other was.passes place q None None other;
  count = λ lt. ap (λ t. other_passes t + 1) e ∙ count_less was.passes place held lt;
}

-- a cursor is where a pass is open
pub cursor_there : (xs : List Slot) (cs : List (Option Cursor)) (ms : List Entry) (h p place : ℕ) (was : Table) → seen_as xs cs ms h ≡ was → p ≡ place → IsOpen was place → is_some (get_or cs p None) ≡ true
cursor_there xs cs ms h p place was same at held = sym (some-goings 0 p xs cs) ∙ (λ i. is_some (get_or (same i).passes (at i) None)) ∙ held

-- where a pass can be opened
nothing : {A : Type 0} (o : Option A) → is_some o ≡ false → o ≡ None
nothing None h = refl
nothing (Some a) h = absurd (true≢false h)

pub cursor_free : (xs : List Slot) (cs : List (Option Cursor)) (ms : List Entry) (h place : ℕ) (was : Table) → seen_as xs cs ms h ≡ was → pass_at was place ≡ None → get_or cs place None ≡ None
cursor_free xs cs ms h place was same free = nothing (get_or cs place None) (sym (some-goings 0 place xs cs) ∙ ap (λ t. is_some (pass_at t place)) same ∙ ap is_some free)

pub pass_free : (xs : List Slot) (cs : List (Option Cursor)) (ms : List Entry) (h place : ℕ) (was : Table) → seen_as xs cs ms h ≡ was → get_or cs place None ≡ None → pass_at was place ≡ None
pass_free xs cs ms h place was same free = nothing (pass_at was place) (ap (λ t. is_some (pass_at t place)) (sym same) ∙ some-goings 0 place xs cs ∙ ap is_some free)

pub no_place_is : (xs : List Slot) (cs : List (Option Cursor)) (ms : List Entry) (h : ℕ) (kind : HookKind) (was : Table) → seen_as xs cs ms h ≡ was → length cs ≡ 17 → is_none (place_of kind cs) ≡ has_no_place kind was
no_place_is xs cs ms h kind was same places = place_none kind cs places ∙ ap (λ n. not (is_relay kind) && (n == 16)) (sym (count-goings 0 16 xs cs)) ∙ ap (has_no_place kind) same

pub places_are : (xs : List Slot) (cs : List (Option Cursor)) (ms : List Entry) (h : ℕ) (was : Table) → seen_as xs cs ms h ≡ was → length cs ≡ 17 → length was.passes ≡ 17
places_are xs cs ms h was same places = ap (λ t. length t.passes) (sym same) ∙ length-goings 0 xs cs ∙ places

pub opened_count : (kind : HookKind) (place : ℕ) (pass : Going) (was new : Table) → new ≡ with_pass place (Some pass) was → length was.passes ≡ 17 → is_place_for kind place ≡ true → pass_at was place ≡ None → other_passes new ≡ (if is_relay kind then other_passes was else other_passes was + 1)
opened_count kind place pass was new e places fits free = by_bool (is_relay kind)
    (λ relay. let at : (place == 16) ≡ true = sym (ap (λ b. if b then place == 16 else nat_le place 15) relay) ∙ fits in
    let last : place ≡ 16 = grind (arith, nat_tests) in
    ap other_passes e ∙ ap (λ l. length (filter is_some l)) (take-set-le 16 was.passes place (Some pass) (omega (arith, last))) ∙ sym (ap (λ b. if b then other_passes was else other_passes was + 1) relay))
    (λ other. let at : nat_le place 15 ≡ true = sym (ap (λ b. if b then place == 16 else nat_le place 15) other) ∙ fits in
    let lt : place < 16 = grind (arith, nat_tests) in
    opens_count place pass was new e (omega (arith, places, lt)) lt free ∙ sym (ap (λ b. if b then other_passes was else other_passes was + 1) other))

-- there is room for one more
pub few_relays : (xs : List Slot) (cs : List (Option Cursor)) (ms : List Entry) (h n : ℕ) (was : Table) → seen_as xs cs ms h ≡ was → n ≡ relays (live_rows xs) → relays was.rows < 64 → n < 64
few_relays xs cs ms h n was same count few = let e = ap (λ t. relays t.rows) same in omega (arith, e, count, few)

pub few_others : (xs : List Slot) (cs : List (Option Cursor)) (ms : List Entry) (h m : ℕ) (kind : HookKind) (was : Table) → seen_as xs cs ms h ≡ was → m ≡ others (live_rows xs) → m ≤ 960 → is_full_for kind was ≡ false → is_relay kind ≡ false → m < 960
few_others xs cs ms h m kind was same count most room other =
    let e = ap (λ t. others t.rows) same in
    let differ : (others was.rows == 960) ≡ false = sym (ap (λ b. not b && (others was.rows == 960)) other) ∙ room in
    let ne : others was.rows ≢ 960 = grind (arith, nat_tests) in
    omega (arith, e, count, most, ne)
