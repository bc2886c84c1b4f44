-- From what was set at all buffers to the clause on the world.
use Rattle.std.proofs.Common.{◌≡◌, ◌≢◌, ℕ, Bool, true, false, cond, not, eqb, List, [], ◌∷◌, ◌++◌, map, find, flat_map, Option, Some, None, option_map, unwrap_or, is_some, refl, ap, sym, subst, ◌∙◌}
use Rattle.std.specs.Prelude.{Result, Err}
use Rattle.std.specs.List.{list_any}
use Rattle.wc_nicklist.specs.Rows.{Nicks}
use Rattle.wc_nicklist.specs.declared.item.Row.{Row}
use Rattle.std.specs.FinMap.{FinMap, get, entries, find as find_entry, get-entries, get-from_entries, same_map, nat_cmp-IsAntisymmetric}
use Rattle.std.specs.HashMap.{HashMap}
use Rattle.std.specs.Ordering.{nat_cmp, eq_by_cmp}
use Rattle.std.specs.Cmp.{nat_cmp_total}
use Rattle.std.proofs.lemmas.Bool.{false≢true, true≢false}
use Rattle.std.proofs.lemmas.List.{map-append}
use Rattle.wc_text.specs.declared.names.Handle.{Handle}
use Rattle.wc_lines.specs.declared.line.Line.{Line}
use Rattle.wc_lines.specs.Flags.{with_own_flag, with_flags}
use Rattle.wc_lines.specs.Held.{RingView}
use Rattle.wc_lines.specs.Ring.{has_content}
use Rattle.wc_buffers.specs.declared.row.BufferEntry.{BufferEntry}
use Rattle.wc_buffers.specs.declared.refused.BufferRefused.{BufferRefused}
use Rattle.wc_buffers.specs.Calls.{EntryGroups, AnswersRefusal, handle_of, is_there, buffer_of, with_entry, rename_refusal, with_full_name}
use Rattle.wc_buffers.specs.Groups.{rows, has}
use Rattle.wc_buffers.proofs.GroupLaws.{by_bool, list_any-map}
use Rattle.wc_buffers.proofs.RefusalLemmas.{rename_good}
use Rattle.wc_model.specs.declared.change.Change.{Change}
use Rattle.wc_model.specs.declared.change.Flip.{Flip}
use Rattle.wc_model.specs.declared.change.What.TheVariants.{Rename, Flips}
use Rattle.wc_model.specs.declared.notice.EventKind.TheVariants as kinds
use Rattle.wc_model.specs.declared.notice.Notice.{Notice}
use Rattle.wc_model.specs.declared.refused.ChangeRefused.{ChangeRefused}
use Rattle.wc_model.specs.declared.refused.ChangeRefused.TheVariants.{Buffer, Nick, NoLine, TooManyRows, Spent, NoMemory}
use Rattle.wc_model.specs.World.{World, lines_at}
use Rattle.wc_model.specs.Order.{order}
use Rattle.wc_model.specs.Apply.{refusal, refusal_of, after_of, no_line, with_flips, flip_all, with_groups}
use Rattle.wc_model.specs.Notices.{Outcome, Accepted, flips_in, flips_between, name_in, notice_at}
use Rattle.wc_world.specs.Flips.{last_flag, differing_handles, all_differing, stored_lines, is_stored, lies_in}
use Rattle.wc_world.specs.declared.line_limit.LineLimit.{LineLimit}
use Rattle.wc_world.specs.Kept.{held_at, lines_map, printed_map, world_of, IsWorld, IsHeldBuffer}
use Rattle.wc_world.specs.Nicks.{AreNicks}
use Rattle.wc_world.specs.Told.{told_at}
use Rattle.wc_world.proofs.Done.{are_apart, kept_groups, same_some}
use Rattle.wc_world.proofs.GroupRows.{row_of-update, some_row, in_rows, has-update}
use Rattle.wc_world.proofs.NickLemmas.{kept_nicks}
use Rattle.wc_world.proofs.HeldLemmas.{lines_of, count_of, get_field, field_left_all}
use Rattle.wc_world.proofs.LastFlags.{apart_flagged, flips_found, flipped_last}

-- ---- refusals

abbrev is_memory : ChangeRefused → Bool
is_memory NoMemory = true
is_memory (Buffer e) = false
is_memory (Nick e) = false
is_memory (NoLine h) = false
is_memory (TooManyRows n) = false
is_memory Spent = false

not_memory : (e : ChangeRefused) → is_memory e ≡ false → e ≢ NoMemory
not_memory e t p = false≢true (sym t ∙ ap is_memory p)

-- a plan that was refused
pub not_planned : (v b : World) (c : Change) (e : ChangeRefused) (r : Result Notice ChangeRefused) → r ≡ Err e → b ≡ v → (e ≢ NoMemory → refusal v c ≡ Some e) → Outcome v c b r
not_planned v b c e r is same f = subst (λ r. Outcome v c b r) (sym is) (by e f)
  where
    by : (e : ChangeRefused) → (e ≢ NoMemory → refusal v c ≡ Some e) → Outcome v c b (Err e)
    by NoMemory f = same
    by (Buffer e) f = (same, f (not_memory (Buffer e) refl))
    by (Nick e) f = (same, f (not_memory (Nick e) refl))
    by (NoLine h) f = (same, f (not_memory (NoLine h) refl))
    by (TooManyRows n) f = (same, f (not_memory (TooManyRows n) refl))
    by Spent f = (same, f (not_memory Spent refl))

pub flips_refused : (v : World) (h : Handle) (flips : List Flip) (e : ChangeRefused) → no_line flips v ≡ Some e → refusal_of v h (Flips flips) ≡ Some e
unfolding refusal_of
flips_refused v h flips e r = r

pub rename_refused : (v : World) (h : Handle) (name : List ℕ) (flips : List Flip) (e : BufferRefused) → AnswersRefusal (rename_refusal h name v.groups) (Some e) → e ≢ BufferRefused.NoMemory → refusal_of v h (Rename name flips) ≡ Some (Buffer e)
unfolding refusal_of
rename_refused v h name flips e a n = rw (sym (a (λ p. n (same_some e BufferRefused.NoMemory p)))) refl

pub rename_flips_refused : (v : World) (h : Handle) (name : List ℕ) (flips : List Flip) (e : ChangeRefused) → rename_refusal h name v.groups ≡ None → no_line flips v ≡ Some e → refusal_of v h (Rename name flips) ≡ Some e
unfolding refusal_of
rename_flips_refused v h name flips e n r = rw n r

-- ---- what is found before anything is written

abbrev pub refused_at : Option Handle → Option ChangeRefused
refused_at o = option_map (λ (h : Handle). NoLine h) o

pub stored_shown : {S : Type 0} (gs : EntryGroups) (m : HashMap ℕ RingView S) (nk : FinMap nat_cmp (List Row)) (limit : LineLimit) (next buffer : ℕ) → stored_lines m buffer ≡ lines_at (world_of gs m nk limit next) buffer
stored_shown gs m nk limit next buffer = ap (λ o. unwrap_or o []) (sym (get_field lines_of m buffer))

module _ {S : Type 0} (gs : EntryGroups) (m : HashMap ℕ RingView S) (nk : FinMap nat_cmp (List Row)) (limit : LineLimit) (next : ℕ) (v : World) (is : world_of gs m nk limit next ≡ v) (flips : List Flip) (ns : List ℕ) (ordered : ns ≡ order gs) where
  pub first_refused : (first : Option Handle) → first ≡ option_map (λ (flip : Flip). flip.content) (find (λ (flip : Flip). not (is_stored m ns flip.content.0)) flips) → no_line flips v ≡ refused_at first
  first_refused first e =
      let meant : no_line flips (world_of gs m nk limit next) ≡ option_map (λ (flip : Flip). NoLine flip.content) (find (λ (flip : Flip). not (is_stored m ns flip.content.0)) flips) =
      λ i. option_map (λ (flip : Flip). NoLine flip.content) (find (λ (flip : Flip). not (list_any (λ buffer. has_content flip.content (sym (stored_shown gs m nk limit next buffer) i)) (sym ordered i))) flips) in
      sym (ap (no_line flips) is) ∙ meant ∙ split (find (λ (flip : Flip). not (is_stored m ns flip.content.0)) flips) ∙ sym (ap refused_at e)
    where
      split : (o : Option Flip) → option_map (λ (flip : Flip). NoLine flip.content) o ≡ refused_at (option_map (λ (flip : Flip). flip.content) o)
      split None = refl
      split (Some flip) = refl

  pub found_all : (flags : ℕ → Option Bool) (found : List Handle) → ((c : ℕ) → flags c ≡ last_flag flips c) → found ≡ all_differing flags m ns → found ≡ flat_map (λ buffer. differing_handles (last_flag flips) (lines_at v buffer)) (order v.groups)
  found_all flags found last e =
      e
      ∙ (λ i. flat_map (λ buffer. differing_handles (λ c. last c i) (stored_shown gs m nk limit next buffer i)) (ordered i))
      ∙ ap (λ (w : World). flat_map (λ buffer. differing_handles (last_flag flips) (lines_at w buffer)) (order w.groups)) is

-- ---- the lines of all buffers

pub stands : (q : ℕ) (gs : EntryGroups) → lies_in q (order gs) ≡ has handle_of q gs
stands q gs = list_any-map handle_of (λ n. eqb n q) (λ x. eqb (handle_of x) q) (λ x. refl) (rows gs) ∙ in_rows handle_of q gs

pub no_held : (o : Option RingView) → is_some o ≡ false → o ≡ None
no_held None e = refl
no_held (Some x) e = absurd (true≢false e)

-- the flags are set at each buffer that is there, and so at all that is held
pub all_set : {S T : Type 0} (gs : EntryGroups) (m : HashMap ℕ RingView S) (n : HashMap ℕ RingView T) (limit : LineLimit) (next : ℕ) (flips : List Flip) (flags : ℕ → Option Bool) (ns : List ℕ) → IsWorld gs m limit next → ns ≡ order gs → ((c : ℕ) → flags c ≡ last_flag flips c)
    → ((q : ℕ) → held_at n q ≡ cond (lies_in q ns) (option_map (with_flags flags) (held_at m q)) (held_at m q)) → (q : ℕ) → held_at n q ≡ option_map (with_flags (last_flag flips)) (held_at m q)
all_set gs m n limit next flips flags ns w ordered last each q =
    let test : lies_in q ns ≡ has handle_of q gs = ap (lies_in q) ordered ∙ stands q gs in
    each q
    ∙ (λ i. cond (test i) (option_map (with_flags (λ c. last c i)) (held_at m q)) (held_at m q))
    ∙ by_bool (has handle_of q gs) _
    (λ t. rw t refl)
    (λ t. let none : held_at m q ≡ None = no_held (held_at m q) (w.stored q ∙ t) in rw (t, none) refl)

pub find_mapped : (F : List Line → List Line) (q : ℕ) (es : List (ℕ × List Line)) → find_entry nat_cmp q (map (λ e. (e.0, F e.1)) es) ≡ option_map F (find_entry nat_cmp q es)
find_mapped F q [] = refl
find_mapped F q (e ∷ es) = by_bool (eq_by_cmp nat_cmp q e.0) _ (λ t. rw t refl) (λ t. rw t (find_mapped F q es))

get_flipped : (flips : List Flip) (w : World) (q : ℕ) → get (flip_all flips w).lines q ≡ option_map (with_flips flips) (get w.lines q)
get_flipped flips w q =
    get-from_entries nat_cmp_total (map (λ e. (e.0, with_flips flips e.1)) (entries w.lines)) q
    ∙ find_mapped (with_flips flips) q (entries w.lines)
    ∙ ap (option_map (with_flips flips)) (sym (get-entries w.lines q))

order_group : (f : BufferEntry → BufferEntry) → ((x : BufferEntry) → handle_of (f x) ≡ handle_of x) → (g : List BufferEntry) → map handle_of (map f g) ≡ map handle_of g
order_group f same [] = refl
order_group f same (x ∷ xs) = λ i. same x i ∷ order_group f same xs i

order_mapped : (f : BufferEntry → BufferEntry) → ((x : BufferEntry) → handle_of (f x) ≡ handle_of x) → (gs : EntryGroups) → order (map (map f) gs) ≡ order gs
order_mapped f same [] = refl
order_mapped f same (g ∷ gs) = map-append handle_of (map f g) (rows (map (map f) gs)) ∙ (λ i. order_group f same g i ++ order_mapped f same gs i) ∙ sym (map-append handle_of g (rows gs))

order_renamed : (h : Handle) (name : List ℕ) (gs : EntryGroups) → order (with_entry h (with_full_name name) gs) ≡ order gs
order_renamed h name gs = order_mapped (λ x. cond (eqb (handle_of x) h.0) (with_full_name name x) x) (λ x. by_bool (eqb (handle_of x) h.0) _ (λ t. rw t refl) (λ t. rw t refl)) gs

name_renamed : (h : Handle) (name : List ℕ) (gs : EntryGroups) → is_there h gs ≡ true → name_in (buffer_of h (with_entry h (with_full_name name) gs)) ≡ name
name_renamed h name gs t =
    let row = some_row handle_of h.0 gs t in
    ap (λ (o : Option BufferEntry). name_in (option_map (λ (x : BufferEntry). x.row) o)) (row_of-update handle_of h.0 (with_full_name name) (λ x. refl) gs ∙ ap (option_map (with_full_name name)) row.1)

module _ {S T : Type 0} (gs : EntryGroups) (m : HashMap ℕ RingView S) (n : HashMap ℕ RingView T) (nk : FinMap nat_cmp (List Row)) (limit : LineLimit) (next : ℕ) (w : IsWorld gs m limit next) (flips : List Flip) (set : (q : ℕ) → held_at n q ≡ option_map (with_flags (last_flag flips)) (held_at m q)) where
  lines_flipped : lines_map n ≡ (flip_all flips (world_of gs m nk limit next)).lines
  lines_flipped = same_map nat_cmp_total nat_cmp-IsAntisymmetric (lines_map n) (flip_all flips (world_of gs m nk limit next)).lines each
    where
      by : (q : ℕ) (o : Option RingView) → held_at m q ≡ o → option_map (λ (x : RingView). x.lines) (option_map (with_flags (last_flag flips)) o) ≡ option_map (with_flips flips) (option_map (λ (x : RingView). x.lines) o)
      by q None e = refl
      by q (Some x) e = ap (λ ls. Some ls) (sym (flipped_last next flips x.lines (w.fit q x e).apart))

      each : (q : ℕ) → get (lines_map n) q ≡ get (flip_all flips (world_of gs m nk limit next)).lines q
      each q =
          get_field lines_of n q
          ∙ ap (option_map (λ (x : RingView). x.lines)) (set q)
          ∙ by q (held_at m q) refl
          ∙ ap (option_map (with_flips flips)) (sym (get_field lines_of m q))
          ∙ sym (get_flipped flips (world_of gs m nk limit next) q)

  printed_left : printed_map n ≡ printed_map m
  printed_left = field_left_all count_of m n (with_flags (last_flag flips)) (λ x. refl) set

  at_flagged : (hs : EntryGroups) (b : ℕ) → lines_at (world_of hs n nk limit next) b ≡ map (with_own_flag (last_flag flips)) (lines_at (world_of gs m nk limit next) b)
  at_flagged hs b =
      ap (λ o. unwrap_or o []) (get_field lines_of n b ∙ ap (option_map (λ (x : RingView). x.lines)) (set b))
      ∙ by (held_at m b)
      ∙ ap (λ o. map (with_own_flag (last_flag flips)) (unwrap_or o [])) (sym (get_field lines_of m b))
    where
      by : (o : Option RingView) → unwrap_or (option_map (λ (x : RingView). x.lines) (option_map (with_flags (last_flag flips)) o)) [] ≡ map (with_own_flag (last_flag flips)) (unwrap_or (option_map (λ (x : RingView). x.lines) o) [])
      by None = refl
      by (Some x) = refl

  flips_shown : (hs : EntryGroups) → order hs ≡ order gs → flips_between (world_of gs m nk limit next) (world_of hs n nk limit next) ≡ flat_map (λ buffer. differing_handles (last_flag flips) (lines_at (world_of gs m nk limit next) buffer)) (order gs)
  flips_shown hs same =
      let old = world_of gs m nk limit next in
      let each : (b : ℕ) → flips_in (lines_at old b) (lines_at (world_of hs n nk limit next) b) ≡ differing_handles (last_flag flips) (lines_at old b) =
      λ b. ap (flips_in (lines_at old b)) (at_flagged hs b) ∙ flips_found (last_flag flips) next (lines_at old b) (are_apart gs m nk limit next w b) in
      λ i. flat_map (λ b. each b i) (same i)

  pub kept_set : IsWorld gs n limit next
  kept_set = record {
    stored = λ q. ap is_some (set q) ∙ still (held_at m q) ∙ w.stored q;
    fit = λ q y e. here (held_at m q) y (w.fit q) (sym (set q) ∙ e);
    below = w.below;
    some = w.some;
    most = w.most;
    started = w.started;
    ended = w.ended;
  }
    where
      still : (o : Option RingView) → is_some (option_map (with_flags (last_flag flips)) o) ≡ is_some o
      still None = refl
      still (Some x) = refl

      here : (o : Option RingView) (y : RingView) → ((x : RingView) → o ≡ Some x → IsHeldBuffer limit next x) → option_map (with_flags (last_flag flips)) o ≡ Some y → IsHeldBuffer limit next y
      here None y fit e = absurd cc
      here (Some x) y fit e = subst (IsHeldBuffer limit next) (same_some (with_flags (last_flag flips) x) y e) (record { limited = (fit x refl).limited; roomy = (fit x refl).roomy; apart = apart_flagged (last_flag flips) next x.lines (fit x refl).apart; counted = (fit x refl).counted })

  module _ (v : World) (h : Handle) (is : world_of gs m nk limit next ≡ v) (all_held : no_line flips v ≡ None) (ls fs : List Handle) (told : Notice) (l : ls ≡ []) (found : fs ≡ flat_map (λ buffer. differing_handles (last_flag flips) (lines_at v buffer)) (order v.groups)) where
    -- what was found is what differs between the two worlds
    flips_told : (hs : EntryGroups) → order hs ≡ order gs → fs ≡ flips_between (world_of gs m nk limit next) (world_of hs n nk limit next)
    flips_told hs same = found ∙ sym (ap (λ (u : World). flat_map (λ buffer. differing_handles (last_flag flips) (lines_at u buffer)) (order u.groups)) is) ∙ sym (flips_shown hs same)

    pub flips_done : (name : List ℕ) → name ≡ name_in (buffer_of (record { 0 = 0 }) gs) → told ≡ told_at kinds.LineDataChanged (record { 0 = 0 }) gs name ls fs
        → Accepted v (record { buffer = h; what = Flips flips }) (world_of gs n nk limit next) told
    unfolding refusal_of after_of
    flips_done name e t =
        let old = world_of gs m nk limit next in
        let after : world_of gs n nk limit next ≡ flip_all flips old = λ i. record { groups = gs; lines = lines_flipped i; printed = printed_left i; nicks = nk; limit = limit.most; limit_changes = limit.changes; next = next } in
        let read : told_at kinds.LineDataChanged (record { 0 = 0 }) gs name ls fs ≡ notice_at kinds.LineDataChanged (record { 0 = 0 }) gs [] (flips_between old (world_of gs n nk limit next)) = λ i. told_at kinds.LineDataChanged (record { 0 = 0 }) gs (e i) (l i) (flips_told gs refl i) in
        subst (λ v. Accepted v (record { buffer = h; what = Flips flips }) (world_of gs n nk limit next) told) is (record {
          accepted = ap (no_line flips) is ∙ all_held;
          after = after;
          notice = t ∙ read ∙ ap (λ (u : World). notice_at kinds.LineDataChanged (record { 0 = 0 }) u.groups [] (flips_between old u)) after;
        })

    pub rename_done : (hs : EntryGroups) (name : List ℕ) → rename_refusal h name gs ≡ None → hs ≡ with_entry h (with_full_name name) gs → told ≡ told_at kinds.Renamed h hs name ls fs
        → Accepted v (record { buffer = h; what = Rename name flips }) (world_of hs n nk limit next) told
    unfolding refusal_of after_of
    rename_done hs name r g t =
        let old = world_of gs m nk limit next in
        let named : name ≡ name_in (buffer_of h hs) = sym (ap (λ gs. name_in (buffer_of h gs)) g ∙ name_renamed h name gs (rename_good h name gs r).0) in
        let after : world_of hs n nk limit next ≡ flip_all flips (with_groups old (with_entry h (with_full_name name) gs)) = λ i. record { groups = g i; lines = lines_flipped i; printed = printed_left i; nicks = nk; limit = limit.most; limit_changes = limit.changes; next = next } in
        let read : told_at kinds.Renamed h hs name ls fs ≡ notice_at kinds.Renamed h hs [] (flips_between old (world_of hs n nk limit next)) = λ i. told_at kinds.Renamed h hs (named i) (l i) (flips_told hs (ap order g ∙ order_renamed h name gs) i) in
        subst (λ v. Accepted v (record { buffer = h; what = Rename name flips }) (world_of hs n nk limit next) told) is (record {
          accepted = rw r (ap (no_line flips) is ∙ all_held);
          after = after;
          notice = t ∙ read ∙ ap (λ (u : World). notice_at kinds.Renamed h u.groups [] (flips_between old u)) after;
        })

pub kept_renamed : {S : Type 0} (gs hs : EntryGroups) (m : HashMap ℕ RingView S) (limit : LineLimit) (next : ℕ) (h : Handle) (name : List ℕ) → hs ≡ with_entry h (with_full_name name) gs → IsWorld gs m limit next → IsWorld hs m limit next
kept_renamed gs hs m limit next h name g w = kept_groups gs hs m limit next (λ q. ap (has handle_of q) g ∙ has-update handle_of h.0 (with_full_name name) (λ x. refl) q gs) w

pub nicks_renamed : {S : Type 0} (gs hs : EntryGroups) (k : HashMap ℕ Nicks S) (count : ℕ) (h : Handle) (name : List ℕ) → hs ≡ with_entry h (with_full_name name) gs → AreNicks gs k count → AreNicks hs k count
nicks_renamed gs hs k count h name g w = kept_nicks gs hs k count (λ q. ap (has handle_of q) g ∙ has-update handle_of h.0 (with_full_name name) (λ x. refl) q gs) w
