-- A buffer that is added or closed.
use Rattle.std.proofs.Common.{◌≡◌, ℕ, ◌+◌, ◌<◌, ◌≤◌, ◌^◌, Bool, true, false, cond, ◌||◌, eqb, ltb, List, [], ◌∷◌, ◌++◌, map, length, Option, Some, None, option_map, is_some, refl, ap, sym, subst, ◌∙◌, arith, eq-eqb, eqb-true, le-ltb}
use Rattle.std.proofs.lemmas.Bool.Decides.{nat_tests}
use Rattle.std.specs.FinMap.{FinMap, insert, remove}
use Rattle.std.specs.Ordering.{nat_cmp}
use Rattle.wc_nicklist.specs.declared.item.Row.{Row}
use Rattle.std.specs.HashMap.{HashMap}
use Rattle.std.proofs.lemmas.Bool.{false≢true, or_parts}
use Rattle.std.proofs.lemmas.List.{map-append}
use Rattle.std.proofs.lemmas.List.Elements.{filter-append}
use Rattle.std.proofs.lemmas.List.Folds.{list_any-append}
use Rattle.wc_text.specs.declared.names.Handle.{Handle}
use Rattle.wc_lines.specs.Held.{RingView, no_lines}
use Rattle.wc_buffers.specs.declared.row.BufferEntry.{BufferEntry}
use Rattle.wc_buffers.specs.Kept.{AreBuffers}
use Rattle.wc_buffers.specs.Calls.{EntryGroups, handle_of, buffer_of, new_entry, with_buffer, without_buffer, add_refusal, close_refusal}
use Rattle.wc_buffers.specs.Groups.{has, in_group, row_of, without, filled_groups, take_out, AllFilled}
use Rattle.wc_buffers.proofs.GroupLaws.{by_bool, filled-some}
use Rattle.wc_buffers.specs.declared.row.BufferSpec.{BufferSpec}
use Rattle.wc_model.specs.declared.change.What.TheVariants.{Add, Close}
use Rattle.wc_model.specs.declared.notice.EventKind.TheVariants as kinds
use Rattle.wc_model.specs.declared.notice.Notice.{Notice}
use Rattle.wc_model.specs.World.{World}
use Rattle.wc_model.specs.Apply.{refusal_of, after_of, row_of as new_row, of_buffers}
use Rattle.wc_model.specs.Notices.{notice_of, notice_at, name_in, flips_between, Accepted}
use Rattle.wc_world.specs.declared.line_limit.LineLimit.{LineLimit}
use Rattle.wc_world.specs.Kept.{held_at, lines_map, printed_map, world_of, IsWorld, IsHeldBuffer}
use Rattle.wc_world.specs.Told.{told_at}
use Rattle.wc_world.proofs.GroupRows.{or_some, row_of-append, no_row, has-take_out}
use Rattle.wc_world.proofs.FlipLemmas.{apart_more}
use Rattle.wc_world.proofs.HeldLemmas.{lines_of, count_of, put_field, removed_field}
use Rattle.wc_world.proofs.Done.{are_apart, inserted_flips, removed_flips, same_some}

-- no buffer has the next handle
pub is_new : {S : Type 0} (gs : EntryGroups) (m : HashMap ℕ RingView S) (limit : LineLimit) (next : ℕ) → IsWorld gs m limit next → has handle_of next gs ≡ false
is_new gs m limit next w = by_bool (has handle_of next gs) _ (λ t. absurd (let b = w.below next t in omega arith)) (λ t. t)

new_name : (k : ℕ) (e : BufferEntry) (gs : EntryGroups) → has handle_of k gs ≡ false → handle_of e ≡ k → name_in (buffer_of (record { 0 = k }) (gs ++ (e ∷ []) ∷ [])) ≡ e.row.full_name
new_name k e gs t s =
    let own : row_of handle_of k ((e ∷ []) ∷ []) ≡ Some e = rw (eq-eqb (handle_of e) k s) refl in
    let found : row_of handle_of k (gs ++ (e ∷ []) ∷ []) ≡ Some e = row_of-append handle_of k gs ((e ∷ []) ∷ []) ∙ ap (λ o. or_some o (row_of handle_of k ((e ∷ []) ∷ []))) (no_row handle_of k gs t) ∙ own in
    ap (λ (o : Option BufferEntry). name_in (option_map (λ (x : BufferEntry). x.row) o)) found

or_false : (b : Bool) → (b || false) ≡ b
or_false true = refl
or_false false = refl

or_true : (b : Bool) → (b || true) ≡ true
or_true true = refl
or_true false = refl

-- the buffers that are there where one more is, and where one is not any more
pub has_opened : (gs hs : EntryGroups) (e : BufferEntry) (k : ℕ) → handle_of e ≡ k → hs ≡ gs ++ (e ∷ []) ∷ [] → (q : ℕ) → has handle_of q hs ≡ cond (eqb k q) true (has handle_of q gs)
has_opened gs hs e k s g q = ap (has handle_of q) g ∙ list_any-append (in_group handle_of q) gs ((e ∷ []) ∷ []) ∙ rw s (by_bool (eqb k q) _ (λ t. rw t (or_true (has handle_of q gs))) (λ t. rw t (or_false (has handle_of q gs))))

pub has_closed : (gs hs : EntryGroups) (h : Handle) → hs ≡ without_buffer h gs → (q : ℕ) → has handle_of q hs ≡ cond (eqb h.0 q) false (has handle_of q gs)
has_closed gs hs h g q = ap (has handle_of q) g ∙ has-take_out handle_of h.0 q gs

module _ {S T : Type 0} (gs hs : EntryGroups) (m : HashMap ℕ RingView S) (n : HashMap ℕ RingView T) (ns ms : FinMap nat_cmp (List Row)) (limit : LineLimit) (next : ℕ) (w : IsWorld gs m limit next) (v : World) (is : world_of gs m ns limit next ≡ v) (h : Handle) (name : List ℕ) (told : Notice) where
  pub added_done : (spec : BufferSpec) → hs ≡ with_buffer (new_row next spec) spec.vars gs → add_refusal (new_row next spec) spec.vars gs ≡ None → next + 4 ≤ 2 ^ 62 + 1
      → ((q : ℕ) → held_at n q ≡ cond (eqb next q) (Some (no_lines limit.most)) (held_at m q)) → ms ≡ insert ns next [] → name ≡ spec.full_name → told ≡ told_at kinds.Opened (record { 0 = next }) hs name [] []
      → Accepted v (record { buffer = h; what = Add spec }) (world_of hs n ms limit (next + 4)) told
  unfolding refusal_of after_of
  added_done spec g r below c k e t =
      let old = world_of gs m ns limit next in
      let new = with_buffer (new_row next spec) spec.vars gs in
      let u : World = record { groups = new; lines = insert (lines_map m) next []; printed = insert (printed_map m) next 0; nicks = insert ns next []; limit = limit.most; limit_changes = limit.changes; next = next + 4 } in
      let lines : lines_map n ≡ insert (lines_map m) next [] = put_field lines_of m n next (no_lines limit.most) c in
      let printed : printed_map n ≡ insert (printed_map m) next 0 = put_field count_of m n next (no_lines limit.most) c in
      let flips : flips_between old u ≡ [] = inserted_flips old u next [] (are_apart gs m ns limit next w) refl refl in
      let room : ltb (2 ^ 62 + 1) (next + 4) ≡ false = le-ltb (2 ^ 62 + 1) (next + 4) below in
      let named : name_in (buffer_of (record { 0 = next }) new) ≡ spec.full_name = new_name next (new_entry (new_row next spec) spec.vars) gs (is_new gs m limit next w) refl in
      let read : told_at kinds.Opened (record { 0 = next }) hs name [] [] ≡ told_at kinds.Opened (record { 0 = next }) new (name_in (buffer_of (record { 0 = next }) new)) [] [] = λ i. told_at kinds.Opened (record { 0 = next }) (g i) ((e ∙ sym named) i) [] [] in
      let meant : told_at kinds.Opened (record { 0 = next }) new (name_in (buffer_of (record { 0 = next }) new)) [] [] ≡ notice_of old u h (Add spec) = ap (notice_at kinds.Opened (record { 0 = next }) new []) (sym flips) in
      subst (λ v. Accepted v (record { buffer = h; what = Add spec }) (world_of hs n ms limit (next + 4)) told) is (record {
        accepted = rw (r, room) refl;
        after = λ i. record { groups = g i; lines = lines i; printed = printed i; nicks = k i; limit = limit.most; limit_changes = limit.changes; next = next + 4 };
        notice = t ∙ read ∙ meant;
      })

  pub closed_done : hs ≡ without_buffer h gs → close_refusal h gs ≡ None → ((q : ℕ) → held_at n q ≡ cond (eqb h.0 q) None (held_at m q)) → ms ≡ remove ns h.0 → name ≡ name_in (buffer_of h gs) → told ≡ told_at kinds.Closing h gs name [] []
      → Accepted v (record { buffer = h; what = Close }) (world_of hs n ms limit next) told
  unfolding refusal_of after_of
  closed_done g r c k e t =
      let old = world_of gs m ns limit next in
      let u : World = record { groups = without_buffer h gs; lines = remove (lines_map m) h.0; printed = remove (printed_map m) h.0; nicks = remove ns h.0; limit = limit.most; limit_changes = limit.changes; next = next } in
      let lines : lines_map n ≡ remove (lines_map m) h.0 = removed_field lines_of m n h.0 c in
      let printed : printed_map n ≡ remove (printed_map m) h.0 = removed_field count_of m n h.0 c in
      let flips : flips_between old u ≡ [] = removed_flips old u h.0 (are_apart gs m ns limit next w) refl in
      let read : told_at kinds.Closing h gs name [] [] ≡ told_at kinds.Closing h gs (name_in (buffer_of h gs)) [] [] = ap (λ x. told_at kinds.Closing h gs x [] []) e in
      let meant : told_at kinds.Closing h gs (name_in (buffer_of h gs)) [] [] ≡ notice_of old u h Close = ap (notice_at kinds.Closing h gs []) (sym flips) in
      subst (λ v. Accepted v (record { buffer = h; what = Close }) (world_of hs n ms limit next) told) is (record {
        accepted = ap of_buffers r;
        after = λ i. record { groups = g i; lines = lines i; printed = printed i; nicks = k i; limit = limit.most; limit_changes = limit.changes; next = next };
        notice = t ∙ read ∙ meant;
      })

  grown : (next2 : ℕ) → next ≤ next2 → (x : RingView) → IsHeldBuffer limit next x → IsHeldBuffer limit next2 x
  grown next2 le x i = record { limited = i.limited; roomy = i.roomy; apart = apart_more next next2 x.lines (omega arith) i.apart; counted = (let b = i.counted in omega arith) }

  pub kept_added : (e : BufferEntry) → handle_of e ≡ next → hs ≡ gs ++ (e ∷ []) ∷ [] → ((q : ℕ) → held_at n q ≡ cond (eqb next q) (Some (no_lines limit.most)) (held_at m q)) → next + 4 ≤ 2 ^ 62 + 1 → IsWorld hs n limit (next + 4)
  kept_added e s g c below = record {
    stored = λ q. ap is_some (c q) ∙ still q ∙ sym (has_new q);
    fit = λ q x f. by_bool (eqb next q) _
        (λ t. (let z : Some (no_lines limit.most) ≡ Some x = (let y = sym (c q) ∙ f in rw t at y) in subst (IsHeldBuffer limit (next + 4)) (same_some (no_lines limit.most) x z) (record { limited = refl; roomy = omega arith; apart = tt; counted = omega arith })))
        (λ t. (let z : held_at m q ≡ Some x = (let y = sym (c q) ∙ f in rw t at y) in grown (next + 4) (omega arith) x (w.fit q x z)));
    below = λ q t. by_bool (eqb next q) _
        (λ u. (let z = eqb-true next q u in omega arith))
        (λ u. (let z : has handle_of q gs ≡ true = (let y = sym (has_new q) ∙ t in rw u at y) in let b = w.below q z in omega arith));
    some = w.some;
    most = w.most;
    started = (let b = w.started in omega arith);
    ended = below;
  }
    where
      has_new : (q : ℕ) → has handle_of q hs ≡ cond (eqb next q) true (has handle_of q gs)
      has_new = has_opened gs hs e next s g

      still : (q : ℕ) → is_some (cond (eqb next q) (Some (no_lines limit.most)) (held_at m q)) ≡ cond (eqb next q) true (has handle_of q gs)
      still q = by_bool (eqb next q) _ (λ t. rw t refl) (λ t. rw t (w.stored q))

  pub kept_closed : hs ≡ without_buffer h gs → ((q : ℕ) → held_at n q ≡ cond (eqb h.0 q) None (held_at m q)) → IsWorld hs n limit next
  kept_closed g c = record {
    stored = λ q. ap is_some (c q) ∙ still q ∙ sym (has_left q);
    fit = λ q x f. by_bool (eqb h.0 q) _
        (λ t. absurd (let z : None ≡ Some x = (let y = sym (c q) ∙ f in rw t at y) in cc))
        (λ t. (let z : held_at m q ≡ Some x = (let y = sym (c q) ∙ f in rw t at y) in w.fit q x z));
    below = λ q t. by_bool (eqb h.0 q) _
        (λ u. absurd (false≢true (let y = sym (has_left q) ∙ t in rw u at y)))
        (λ u. w.below q (let y = sym (has_left q) ∙ t in rw u at y));
    some = w.some;
    most = w.most;
    started = w.started;
    ended = w.ended;
  }
    where
      has_left : (q : ℕ) → has handle_of q hs ≡ cond (eqb h.0 q) false (has handle_of q gs)
      has_left = has_closed gs hs h g

      still : (q : ℕ) → is_some (cond (eqb h.0 q) None (held_at m q)) ≡ cond (eqb h.0 q) false (has handle_of q gs)
      still q = by_bool (eqb h.0 q) _ (λ t. rw t refl) (λ t. rw t (w.stored q))

-- ---- a buffer that was added and is taken out again

lacking : (k : ℕ) (g : List BufferEntry) → in_group handle_of k g ≡ false → without handle_of k g ≡ g
lacking k [] t = refl
lacking k (x ∷ xs) t = let o = or_parts (eqb (handle_of x) k) (in_group handle_of k xs) t in rw o.0 (ap (λ l. x ∷ l) (lacking k xs o.1))

all_lacking : (k : ℕ) (gs : EntryGroups) → has handle_of k gs ≡ false → map (without handle_of k) gs ≡ gs
all_lacking k [] t = refl
all_lacking k (g ∷ gs) t = let o = or_parts (in_group handle_of k g) (has handle_of k gs) t in λ i. lacking k g o.0 i ∷ all_lacking k gs o.1 i

all_filled : (gs : EntryGroups) → AllFilled gs → filled_groups gs ≡ gs
all_filled [] a = refl
all_filled ([] ∷ gs) a = absurd a
all_filled ((x ∷ xs) ∷ gs) a = filled-some x xs gs ∙ ap (λ l. (x ∷ xs) ∷ l) (all_filled gs a)

pub taken_back : (k : ℕ) (e : BufferEntry) (gs : EntryGroups) → has handle_of k gs ≡ false → handle_of e ≡ k → AllFilled gs → take_out handle_of k (gs ++ (e ∷ []) ∷ []) ≡ gs
taken_back k e gs t s a =
    let own : filled_groups (map (without handle_of k) ((e ∷ []) ∷ [])) ≡ [] = rw (eq-eqb (handle_of e) k s) refl in
    ap filled_groups (map-append (without handle_of k) gs ((e ∷ []) ∷ []))
    ∙ ap (λ l. filled_groups (l ++ map (without handle_of k) ((e ∷ []) ∷ []))) (all_lacking k gs t)
    ∙ filter-append (λ (g : List BufferEntry). ltb 0 (length g)) gs (map (without handle_of k) ((e ∷ []) ∷ []))
    ∙ ap (λ l. filled_groups gs ++ l) own
    ∙ rw (all_filled gs a) (append_nil gs)
  where
    append_nil : (l : EntryGroups) → l ++ [] ≡ l
    append_nil [] = refl
    append_nil (g ∷ l) = ap (λ r. g ∷ r) (append_nil l)

filled_front : (gs hs : EntryGroups) → AllFilled (gs ++ hs) → AllFilled gs
filled_front [] hs a = tt
filled_front ([] ∷ gs) hs a = absurd a
filled_front ((x ∷ xs) ∷ gs) hs a = filled_front gs hs a

may_close : (h : Handle) (a : EntryGroups) → has handle_of h.0 a ≡ true → eqb h.0 1 ≡ false → close_refusal h a ≡ None
unfolding close_refusal
may_close h a t n = rw (t, n) refl

-- a buffer that was added may be closed at once, and leaves the groups as they were
module _ (gs a : EntryGroups) (next : ℕ) (spec : BufferSpec) (new : has handle_of next gs ≡ false) (g : a ≡ with_buffer (new_row next spec) spec.vars gs) where
  pub may_undo : 1 < next → close_refusal (record { 0 = next }) a ≡ None
  may_undo started =
      let e = new_entry (new_row next spec) spec.vars in
      let there : has handle_of next a ≡ true = ap (has handle_of next) g ∙ list_any-append (in_group handle_of next) gs ((e ∷ []) ∷ []) ∙ rw (new, eq-eqb next next refl) refl in
      let other : eqb next 1 ≡ false = (let s = started in grind (arith, nat_tests)) in
      may_close (record { 0 = next }) a there other

  pub undone : (b : EntryGroups) → AreBuffers a → b ≡ without_buffer (record { 0 = next }) a → b ≡ gs
  undone b all closed =
      let e = new_entry (new_row next spec) spec.vars in
      closed
      ∙ ap (take_out handle_of next) g
      ∙ taken_back next e gs new refl (filled_front gs ((e ∷ []) ∷ []) (subst AllFilled g all.filled))
