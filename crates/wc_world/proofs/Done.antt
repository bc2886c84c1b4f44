-- From what was done to the fields of a world to the clause on the world.
use Rattle.std.proofs.Common.{◌≡◌, ℕ, ◌+◌, ◌-◌, ◌<◌, ◌≤◌, ◌^◌, Bool, true, false, cond, eqb, ltb, List, [], ◌∷◌, ◌++◌, length, Option, Some, None, option_map, unwrap_or, is_some, refl, ap, sym, subst, ◌∙◌, arith, eqb-true, le-ltb}
use Rattle.std.specs.FinMap.{FinMap, get, insert, remove, get-insert, get-remove}
use Rattle.std.specs.HashMap.{HashMap}
use Rattle.std.specs.Cmp.{nat_cmp_total}
use Rattle.std.specs.Ordering.{nat_cmp}
use Rattle.wc_text.specs.declared.names.Handle.{Handle}
use Rattle.wc_text.specs.declared.names.Pair.{Pair}
use Rattle.wc_lines.specs.declared.line.Line.{Line}
use Rattle.wc_lines.specs.Held.{RingView}
use Rattle.wc_lines.specs.Ring.{last_of, with_line, without_lines}
use Rattle.wc_nicklist.specs.Rows.{Nicks}
use Rattle.wc_nicklist.specs.declared.item.Row.{Row}
use Rattle.wc_buffers.specs.declared.row.BufferEntry.{BufferEntry}
use Rattle.wc_buffers.specs.declared.refused.BufferRefused.{BufferRefused}
use Rattle.wc_buffers.specs.Calls.{EntryGroups, handle_of, is_there, entry_of, buffer_of, move_group_to, merge_groups, unmerge_group, with_entry, move_refusal, merge_refusal, unmerge_refusal, no_buffer, short_name_refusal, set_var_refusal, remove_var_refusal, with_hidden, with_short_name, with_title, with_var, without_var, lacks_var}
use Rattle.wc_buffers.specs.Vars.{cut_to}
use Rattle.wc_buffers.specs.Groups.{has, row_of}
use Rattle.wc_buffers.proofs.GroupLaws.{by_bool}
use Rattle.wc_buffers.proofs.RefusalLemmas.{merge_good}
use Rattle.wc_model.specs.declared.change.What.{What}
use Rattle.wc_model.specs.declared.change.What.TheVariants.{MoveTo, MergeInto, Unmerge, Hide, Unhide, ShortName, Title, SetVar, RemoveVar, Print, Clear}
use Rattle.wc_model.specs.declared.change.LineSpec.{LineSpec}
use Rattle.wc_model.specs.declared.notice.EventKind.{EventKind}
use Rattle.wc_model.specs.declared.notice.EventKind.TheVariants as kinds
use Rattle.wc_model.specs.declared.notice.Notice.{Notice}
use Rattle.wc_model.specs.declared.notice.Trim.{Trim}
use Rattle.wc_model.specs.World.{World, lines_at, printed_at}
use Rattle.wc_model.specs.Order.{order}
use Rattle.wc_model.specs.LineCuts.{line_of}
use Rattle.wc_model.specs.Apply.{refusal_of, after_of, with_groups, with_lines, of_buffers}
use Rattle.wc_model.specs.Notices.{notice_of, notice_at, notice_with, trim_of, name_in, flips_in, flips_between, var_kind, Accepted}
use Rattle.wc_world.specs.declared.line_limit.LineLimit.{LineLimit}
use Rattle.wc_world.specs.Kept.{held_at, held_in, lines_map, lines_view, LinesView, printed_map, printed_under, world_of, IsWorld, IsHeldBuffer, AreContentsApart, IsHeldChanged}
use Rattle.wc_world.specs.Nicks.{list_at, AreNicks}
use Rattle.wc_world.specs.Flips.{stored_lines}
use Rattle.wc_world.specs.Told.{told_at, told_with}
use Rattle.wc_world.proofs.GroupRows.{row_of-move, row_of-merge, row_of-unmerge, row_of-update, merged_apart}
use Rattle.wc_world.proofs.FlipLemmas.{no_flips, no_flips_printed, nothing_flat, apart_more, apart_printed}
use Rattle.wc_world.proofs.NickLemmas.{kept_nicks, kept_shown, same_lists}
use Rattle.wc_world.proofs.HeldLemmas.{tied, lines_of, count_of, get_field, put_field, field_left, changed_to, some_held, one_more}

-- ---- lines that stay as they were

abbrev pub Apart : World → Type 0
Apart w = (h : ℕ) → AreContentsApart w.next (lines_at w h)

pub are_apart : {S : Type 0} (gs : EntryGroups) (m : HashMap ℕ RingView S) (ns : FinMap nat_cmp (List Row)) (limit : LineLimit) (next : ℕ) → IsWorld gs m limit next → Apart (world_of gs m ns limit next)
are_apart gs m ns limit next w h = subst (λ o. AreContentsApart next (unwrap_or o [])) (sym (get_field lines_of m h)) (by (held_at m h) refl)
  where
    by : (o : Option RingView) → held_at m h ≡ o → AreContentsApart next (unwrap_or (option_map (λ (x : RingView). x.lines) o) [])
    by None e = tt
    by (Some x) e = (w.fit h x e).apart

pub no_flips_between : (w v : World) → Apart w → ((h : ℕ) → flips_in (lines_at w h) (lines_at v h) ≡ []) → flips_between w v ≡ []
no_flips_between w v apart none = nothing_flat (λ h. flips_in (lines_at w h) (lines_at v h)) (order v.groups) none

-- what is held of a buffer, as the world has it
pub held_shown : {S : Type 0} (gs : EntryGroups) (m : HashMap ℕ RingView S) (ns : FinMap nat_cmp (List Row)) (limit : LineLimit) (next : ℕ) → IsWorld gs m limit next → (h : ℕ) → option_map lines_view (held_at m h) ≡ held_in (world_of gs m ns limit next) h
held_shown gs m ns limit next w h = by (held_at m h) refl ∙ (λ i. whole (sym (get_field count_of m h) i) (sym (get_field lines_of m h) i))
  where
    whole : Option ℕ → Option (List Line) → Option LinesView
    whole count o = option_map (λ lines. record { limit = limit.most; lines = lines; pushed = unwrap_or count 0 }) o

    by : (o : Option RingView) → held_at m h ≡ o → option_map lines_view (held_at m h) ≡ whole (option_map count_of (held_at m h)) (option_map lines_of (held_at m h))
    by None e = rw e refl
    by (Some x) e = rw e (λ i. Some (record { limit = (w.fit h x e).limited i; lines = x.lines; pushed = x.pushed }))

-- ---- changes of the groups alone

pub grouped : (w v : World) (h : Handle) (what : What) (gs hs : EntryGroups) (kind : EventKind) (name : List ℕ) (ls fs : List Handle) (told : Notice)
    → w ≡ v → Apart w → gs ≡ hs → refusal_of w h what ≡ None → after_of w h what ≡ with_groups w hs
    → ((b : World) → notice_of w b h what ≡ notice_at kind h b.groups [] (flips_between w b))
    → name ≡ name_in (buffer_of h w.groups) → name_in (buffer_of h hs) ≡ name_in (buffer_of h w.groups)
    → told ≡ told_at kind h gs name ls fs → ls ≡ [] → fs ≡ []
    → Accepted v (record { buffer = h; what = what }) (with_groups w gs) told
grouped w v h what gs hs kind name ls fs told is apart g r a n e k t l f =
    let flips : flips_between w (with_groups w hs) ≡ [] = no_flips_between w (with_groups w hs) apart (λ q. no_flips w.next (lines_at w q) (apart q)) in
    let read : told_at kind h gs name ls fs ≡ told_at kind h hs (name_in (buffer_of h hs)) [] [] = λ i. told_at kind h (g i) ((e ∙ sym k) i) (l i) (f i) in
    let meant : told_at kind h hs (name_in (buffer_of h hs)) [] [] ≡ notice_at kind h hs [] (flips_between w (with_groups w hs)) = ap (notice_at kind h hs []) (sym flips) in
    let following : notice_of w (with_groups w hs) h what ≡ notice_of w (after_of w h what) h what = ap (λ b. notice_of w b h what) (sym a) in
    subst (λ v. Accepted v (record { buffer = h; what = what }) (with_groups w gs) told) is (record {
      accepted = r;
      after = ap (with_groups w) g ∙ sym a;
      notice = t ∙ read ∙ meant ∙ sym (n (with_groups w hs)) ∙ following;
    })

kept_name : (h : Handle) (gs hs : EntryGroups) → row_of handle_of h.0 hs ≡ row_of handle_of h.0 gs → name_in (buffer_of h hs) ≡ name_in (buffer_of h gs)
kept_name h gs hs e = ap (λ (o : Option BufferEntry). name_in (option_map (λ (x : BufferEntry). x.row) o)) e

changed_name : (h : Handle) (F : BufferEntry → BufferEntry) (gs : EntryGroups) → ((x : BufferEntry) → handle_of (F x) ≡ handle_of x) → ((x : BufferEntry) → (F x).row.full_name ≡ x.row.full_name) → name_in (buffer_of h (with_entry h F gs)) ≡ name_in (buffer_of h gs)
changed_name h F gs same name = ap (λ (o : Option BufferEntry). name_in (option_map (λ (x : BufferEntry). x.row) o)) (row_of-update handle_of h.0 F same gs) ∙ by (entry_of h gs)
  where
    by : (o : Option BufferEntry) → name_in (option_map (λ (x : BufferEntry). x.row) (option_map F o)) ≡ name_in (option_map (λ (x : BufferEntry). x.row) o)
    by None = refl
    by (Some x) = name x

accepted_by : (o : Option BufferRefused) → o ≡ None → of_buffers o ≡ None
accepted_by o e = ap of_buffers e

module _ (w v : World) (h : Handle) (gs : EntryGroups) (name : List ℕ) (ls fs : List Handle) (told : Notice) (is : w ≡ v) (apart : Apart w) (e : name ≡ name_in (buffer_of h w.groups)) (l : ls ≡ []) (f : fs ≡ []) where
  pub moved_done : (n : ℕ) → gs ≡ move_group_to h n w.groups → move_refusal h n w.groups ≡ None → told ≡ told_at kinds.Moved h gs name ls fs → Accepted v (record { buffer = h; what = MoveTo n }) (with_groups w gs) told
  unfolding refusal_of after_of
  moved_done n g r t = grouped w v h (MoveTo n) gs (move_group_to h n w.groups) kinds.Moved name ls fs told is apart g (accepted_by _ r) refl (λ b. refl) e (kept_name h w.groups (move_group_to h n w.groups) (row_of-move handle_of h.0 (n - 1) w.groups)) t l f

  pub merged_done : (into : Handle) → gs ≡ merge_groups h into w.groups → merge_refusal h into w.groups ≡ None → told ≡ told_at kinds.Merged h gs name ls fs → Accepted v (record { buffer = h; what = MergeInto into }) (with_groups w gs) told
  unfolding refusal_of after_of
  merged_done into g r t =
      let good = merge_good h into w.groups r in
      grouped w v h (MergeInto into) gs (merge_groups h into w.groups) kinds.Merged name ls fs told is apart g (accepted_by _ r) refl (λ b. refl) e
      (kept_name h w.groups (merge_groups h into w.groups) (row_of-merge handle_of h.0 into.0 w.groups good.0 good.1 (merged_apart handle_of h.0 into.0 w.groups good.0 good.2))) t l f

  pub unmerged_done : gs ≡ unmerge_group h w.groups → unmerge_refusal h w.groups ≡ None → told ≡ told_at kinds.Unmerged h gs name ls fs → Accepted v (record { buffer = h; what = Unmerge }) (with_groups w gs) told
  unfolding refusal_of after_of
  unmerged_done g r t = grouped w v h Unmerge gs (unmerge_group h w.groups) kinds.Unmerged name ls fs told is apart g (accepted_by _ r) refl (λ b. refl) e (kept_name h w.groups (unmerge_group h w.groups) (row_of-unmerge handle_of h.0 w.groups)) t l f

  pub hidden_done : gs ≡ with_entry h (with_hidden true) w.groups → no_buffer h w.groups ≡ None → told ≡ told_at kinds.Hidden h gs name ls fs → Accepted v (record { buffer = h; what = Hide }) (with_groups w gs) told
  unfolding refusal_of after_of
  hidden_done g r t = grouped w v h Hide gs (with_entry h (with_hidden true) w.groups) kinds.Hidden name ls fs told is apart g (accepted_by _ r) refl (λ b. refl) e (changed_name h (with_hidden true) w.groups (λ x. refl) (λ x. refl)) t l f

  pub unhidden_done : gs ≡ with_entry h (with_hidden false) w.groups → no_buffer h w.groups ≡ None → told ≡ told_at kinds.Unhidden h gs name ls fs → Accepted v (record { buffer = h; what = Unhide }) (with_groups w gs) told
  unfolding refusal_of after_of
  unhidden_done g r t = grouped w v h Unhide gs (with_entry h (with_hidden false) w.groups) kinds.Unhidden name ls fs told is apart g (accepted_by _ r) refl (λ b. refl) e (changed_name h (with_hidden false) w.groups (λ x. refl) (λ x. refl)) t l f

  pub short_name_done : (short : List ℕ) → gs ≡ with_entry h (with_short_name short) w.groups → short_name_refusal h short w.groups ≡ None → told ≡ told_at kinds.Renamed h gs name ls fs → Accepted v (record { buffer = h; what = ShortName short }) (with_groups w gs) told
  unfolding refusal_of after_of
  short_name_done short g r t = grouped w v h (ShortName short) gs (with_entry h (with_short_name short) w.groups) kinds.Renamed name ls fs told is apart g (accepted_by _ r) refl (λ b. refl) e (changed_name h (with_short_name short) w.groups (λ x. refl) (λ x. refl)) t l f

  pub title_done : (title : List ℕ) → gs ≡ with_entry h (with_title (cut_to 1024 title)) w.groups → no_buffer h w.groups ≡ None → told ≡ told_at kinds.TitleChanged h gs name ls fs → Accepted v (record { buffer = h; what = Title title }) (with_groups w gs) told
  unfolding refusal_of after_of
  title_done title g r t = grouped w v h (Title title) gs (with_entry h (with_title (cut_to 1024 title)) w.groups) kinds.TitleChanged name ls fs told is apart g (accepted_by _ r) refl (λ b. refl) e (changed_name h (with_title (cut_to 1024 title)) w.groups (λ x. refl) (λ x. refl)) t l f

  pub set_var_done : (var : Pair) (new : Bool) → gs ≡ with_entry h (with_var var.name var.value) w.groups → set_var_refusal h var.name w.groups ≡ None → new ≡ lacks_var var.name (entry_of h w.groups) → told ≡ told_at (var_kind new) h gs name ls fs → Accepted v (record { buffer = h; what = SetVar var }) (with_groups w gs) told
  unfolding refusal_of after_of
  set_var_done var new g r k t = grouped w v h (SetVar var) gs (with_entry h (with_var var.name var.value) w.groups) (var_kind (lacks_var var.name (entry_of h w.groups))) name ls fs told is apart g (accepted_by _ r) refl (λ b. refl) e (changed_name h (with_var var.name var.value) w.groups (λ x. refl) (λ x. refl)) (t ∙ ap (λ b. told_at (var_kind b) h gs name ls fs) k) l f

  pub remove_var_done : (var : List ℕ) → gs ≡ with_entry h (without_var var) w.groups → remove_var_refusal h var w.groups ≡ None → told ≡ told_at kinds.VarRemoved h gs name ls fs → Accepted v (record { buffer = h; what = RemoveVar var }) (with_groups w gs) told
  unfolding refusal_of after_of
  remove_var_done var g r t = grouped w v h (RemoveVar var) gs (with_entry h (without_var var) w.groups) kinds.VarRemoved name ls fs told is apart g (accepted_by _ r) refl (λ b. refl) e (changed_name h (without_var var) w.groups (λ x. refl) (λ x. refl)) t l f

-- ---- changes of the lines of one buffer

pub inserted_flips : (w u : World) (k : ℕ) (ms : List Line) → Apart w → u.lines ≡ insert w.lines k ms → flips_in (lines_at w k) ms ≡ [] → flips_between w u ≡ []
inserted_flips w u k ms apart e none = no_flips_between w u apart each
  where
    each : (q : ℕ) → flips_in (lines_at w q) (lines_at u q) ≡ []
    each q =
        let got : get u.lines q ≡ cond (eqb q k) (Some ms) (get w.lines q) = ap (λ m. get m q) e ∙ get-insert nat_cmp_total w.lines k ms q ∙ ap (λ b. cond b (Some ms) (get w.lines q)) (tied q k) in
        subst (λ o. flips_in (lines_at w q) (unwrap_or o []) ≡ []) (sym got) (by_bool (eqb q k) _
        (λ t. rw t (subst (λ j. flips_in (lines_at w j) ms ≡ []) (sym (eqb-true q k t)) none))
        (λ t. rw t (no_flips w.next (lines_at w q) (apart q))))

pub removed_flips : (w u : World) (k : ℕ) → Apart w → u.lines ≡ remove w.lines k → flips_between w u ≡ []
removed_flips w u k apart e = no_flips_between w u apart each
  where
    each : (q : ℕ) → flips_in (lines_at w q) (lines_at u q) ≡ []
    each q =
        let got : get u.lines q ≡ cond (eqb q k) None (get w.lines q) = ap (λ m. get m q) e ∙ get-remove nat_cmp_total w.lines k q ∙ ap (λ b. cond b None (get w.lines q)) (tied q k) in
        subst (λ o. flips_in (lines_at w q) (unwrap_or o []) ≡ []) (sym got) (by_bool (eqb q k) _
        (λ t. rw t refl)
        (λ t. rw t (no_flips w.next (lines_at w q) (apart q))))

pub lined : (w v b : World) (h : Handle) (what : What) (ms : List Line) (counts : FinMap nat_cmp ℕ) (next : ℕ) (kind : EventKind) (name : List ℕ) (ls fs own : List Handle) (ts gone : List Trim) (told : Notice)
    → w ≡ v → Apart w → refusal_of w h what ≡ None → b ≡ record (with_lines w h ms) { printed = counts; next = next } → after_of w h what ≡ record (with_lines w h ms) { printed = counts; next = next }
    → ((b : World) → notice_of w b h what ≡ notice_with kind h b.groups own (flips_between w b) gone)
    → flips_in (lines_at w h.0) ms ≡ []
    → name ≡ name_in (buffer_of h w.groups) → told ≡ told_with kind h w.groups name ls fs ts → ls ≡ own → fs ≡ [] → ts ≡ gone
    → Accepted v (record { buffer = h; what = what }) b told
lined w v b h what ms counts next kind name ls fs own ts gone told is apart r c a n none e t l f g =
    let u : World = record (with_lines w h ms) { printed = counts; next = next } in
    let flips = inserted_flips w u h.0 ms apart refl none in
    let read : told_with kind h w.groups name ls fs ts ≡ told_with kind h w.groups (name_in (buffer_of h w.groups)) own [] gone = λ i. told_with kind h w.groups (e i) (l i) (f i) (g i) in
    let meant : told_with kind h w.groups (name_in (buffer_of h w.groups)) own [] gone ≡ notice_with kind h w.groups own (flips_between w u) gone = ap (λ flips. notice_with kind h w.groups own flips gone) (sym flips) in
    let following : notice_of w u h what ≡ notice_of w (after_of w h what) h what = ap (λ b. notice_of w b h what) (sym a) in
    subst (λ v. Accepted v (record { buffer = h; what = what }) b told) is (record {
      accepted = r;
      after = c ∙ sym a;
      notice = t ∙ read ∙ meant ∙ sym (n u) ∙ following;
    })

module _ {S T : Type 0} (gs : EntryGroups) (m : HashMap ℕ RingView S) (n : HashMap ℕ RingView T) (ns : FinMap nat_cmp (List Row)) (limit : LineLimit) (next : ℕ) (w : IsWorld gs m limit next) (h : Handle) where
  there : is_there h gs ≡ true → (x : RingView) × (held_at m h.0 ≡ Some x)
  there t = some_held (held_at m h.0) (w.stored h.0 ∙ t)

  lines_there : (x : RingView) → held_at m h.0 ≡ Some x → lines_at (world_of gs m ns limit next) h.0 ≡ x.lines
  lines_there x e = ap (λ o. unwrap_or o []) (get_field lines_of m h.0 ∙ ap (option_map lines_of) e)

  printed_there : (x : RingView) → held_at m h.0 ≡ Some x → printed_at (world_of gs m ns limit next) h.0 ≡ x.pushed
  printed_there x e = ap (λ o. unwrap_or o 0) (get_field count_of m h.0 ∙ ap (option_map count_of) e)

  pub cleared_done : (v : World) (name : List ℕ) (ls fs : List Handle) (told : Notice) → world_of gs m ns limit next ≡ v → is_there h gs ≡ true → IsHeldChanged h.0 without_lines m n
      → name ≡ name_in (buffer_of h gs) → told ≡ told_at kinds.Cleared h gs name ls fs → ls ≡ [] → fs ≡ [] → Accepted v (record { buffer = h; what = Clear }) (world_of gs n ns limit next) told
  unfolding refusal_of after_of
  cleared_done v name ls fs told is t c e k l f =
      let x = there t in
      let lines = put_field lines_of m n h.0 (without_lines x.0) (changed_to m n h.0 without_lines x.0 x.1 c) in
      let printed = field_left count_of m n without_lines (λ x. refl) h.0 c in
      lined (world_of gs m ns limit next) v (world_of gs n ns limit next) h Clear [] (printed_map m) next kinds.Cleared name ls fs [] [] [] told is (are_apart gs m ns limit next w)
      (rw t refl) (λ i. record { groups = gs; lines = lines i; printed = printed i; nicks = ns; limit = limit.most; limit_changes = limit.changes; next = next }) refl (λ b. refl) refl e k l f refl

  pub printed_done : (v : World) (spec : LineSpec) (name : List ℕ) (ls fs : List Handle) (ts : List Trim) (told : Notice) → world_of gs m ns limit next ≡ v → is_there h gs ≡ true → next < 2 ^ 62 → IsHeldChanged h.0 (λ x. with_line x (line_of (printed_under m h.0) next spec)) m n
      → name ≡ name_in (buffer_of h gs) → told ≡ told_with kinds.LineAdded h gs name ls fs ts → ls ≡ record { 0 = next } ∷ [] → fs ≡ [] → ts ≡ trim_of h (length (stored_lines m h.0) + 1 - limit.most) → Accepted v (record { buffer = h; what = Print spec }) (world_of gs n ns limit (next + 2)) told
  unfolding refusal_of after_of
  printed_done v spec name ls fs ts told is t below c e k l f g =
      let x = there t in
      let old = world_of gs m ns limit next in
      let line = line_of (printed_at old h.0) next spec in
      let counts = insert (printed_map m) h.0 (printed_at old h.0 + 1) in
      let d : IsHeldChanged h.0 (λ x. with_line x line) m n = subst (λ o. IsHeldChanged h.0 (λ x. with_line x (line_of (unwrap_or o 0) next spec)) m n) (sym (get_field count_of m h.0)) c in
      let fit = w.fit h.0 x.0 x.1 in
      let to = changed_to m n h.0 (λ x. with_line x line) x.0 x.1 d in
      let lines = put_field lines_of m n h.0 (with_line x.0 line) to in
      let printed = put_field count_of m n h.0 (with_line x.0 line) to in
      let more : (with_line x.0 line).pushed ≡ printed_at old h.0 + 1 = one_more x.0.pushed (let b = fit.counted in omega (arith, below)) ∙ ap (λ k. k + 1) (sym (printed_there x.0 x.1)) in
      let same : (with_line x.0 line).lines ≡ last_of limit.most (lines_at old h.0 ++ line ∷ []) = (λ i. last_of (fit.limited i) (sym (lines_there x.0 x.1) i ++ line ∷ [])) in
      let room : ltb (2 ^ 62 + 1) (next + 2) ≡ false = le-ltb (2 ^ 62 + 1) (next + 2) (omega arith) in
      let gone : trim_of h (length (stored_lines m h.0) + 1 - limit.most) ≡ trim_of h (length (lines_at old h.0) + 1 - limit.most) = ap (λ o. trim_of h (length (unwrap_or o []) + 1 - limit.most)) (sym (get_field lines_of m h.0)) in
      lined old v (world_of gs n ns limit (next + 2)) h (Print spec) (last_of limit.most (lines_at old h.0 ++ line ∷ [])) counts (next + 2) kinds.LineAdded name ls fs (record { 0 = next } ∷ []) ts (trim_of h (length (lines_at old h.0) + 1 - limit.most)) told is (are_apart gs m ns limit next w)
      (rw (t, room) refl)
      (λ i. record { groups = gs; lines = (lines ∙ ap (insert (lines_map m) h.0) same) i; printed = (printed ∙ ap (insert (printed_map m) h.0) more) i; nicks = ns; limit = limit.most; limit_changes = limit.changes; next = next + 2 })
      refl (λ b. refl)
      (no_flips_printed next limit.most line (lines_at old h.0) (are_apart gs m ns limit next w h.0) (omega arith))
      e k l f (g ∙ gone)

-- ---- what holds of a world still holds

pub kept_groups : {S : Type 0} (gs hs : EntryGroups) (m : HashMap ℕ RingView S) (limit : LineLimit) (next : ℕ) → ((q : ℕ) → has handle_of q hs ≡ has handle_of q gs) → IsWorld gs m limit next → IsWorld hs m limit next
kept_groups gs hs m limit next e w = record {
  stored = λ q. w.stored q ∙ sym (e q);
  fit = w.fit;
  below = λ q t. w.below q (sym (e q) ∙ t);
  some = w.some;
  most = w.most;
  started = w.started;
  ended = w.ended;
}

pub kept_grouped : {S T : Type 0} (gs hs : EntryGroups) (m : HashMap ℕ RingView S) (k : HashMap ℕ Nicks T) (limit : LineLimit) (next count : ℕ) → ((q : ℕ) → has handle_of q hs ≡ has handle_of q gs) → IsWorld gs m limit next × AreNicks gs k count → IsWorld hs m limit next × AreNicks hs k count
kept_grouped gs hs m k limit next count e w = (kept_groups gs hs m limit next e w.0, kept_nicks gs hs k count e w.1)

pub same_some : {A : Type 0} (x y : A) → Some x ≡ Some y → x ≡ y
same_some x y e = ap (λ o. unwrap_or o x) e

pub kept_changed : {S T : Type 0} (gs : EntryGroups) (m : HashMap ℕ RingView S) (n : HashMap ℕ RingView T) (limit : LineLimit) (next next2 : ℕ) (h : ℕ) (f : RingView → RingView) → IsHeldChanged h f m n → ((x : RingView) → IsHeldBuffer limit next x → IsHeldBuffer limit next2 (f x)) → next ≤ next2 → next2 ≤ 2 ^ 62 + 1 → IsWorld gs m limit next → IsWorld gs n limit next2
kept_changed gs m n limit next next2 h f c keeps le most w = record {
  stored = λ q. ap is_some (c q) ∙ still q ∙ w.stored q;
  fit = λ q y e. by_bool (eqb h q) _ (λ t. here (held_at m q) y (w.fit q) (let z = sym (c q) ∙ e in rw t at z)) (λ t. grown y (w.fit q y (let z = sym (c q) ∙ e in rw t at z)));
  below = λ q t. (let b = w.below q t in omega arith);
  some = w.some;
  most = w.most;
  started = (let s = w.started in omega arith);
  ended = most;
}
  where
    mapped : (o : Option RingView) → is_some (option_map f o) ≡ is_some o
    mapped None = refl
    mapped (Some x) = refl

    still : (q : ℕ) → is_some (cond (eqb h q) (option_map f (held_at m q)) (held_at m q)) ≡ is_some (held_at m q)
    still q = by_bool (eqb h q) _ (λ t. rw t (mapped (held_at m q))) (λ t. rw t refl)

    grown : (x : RingView) → IsHeldBuffer limit next x → IsHeldBuffer limit next2 x
    grown x i = record { limited = i.limited; roomy = i.roomy; apart = apart_more next next2 x.lines (omega arith) i.apart; counted = (let b = i.counted in omega arith) }

    here : (o : Option RingView) (y : RingView) → ((x : RingView) → o ≡ Some x → IsHeldBuffer limit next x) → option_map f o ≡ Some y → IsHeldBuffer limit next2 y
    here None y i e = absurd cc
    here (Some x) y i e = subst (IsHeldBuffer limit next2) (same_some (f x) y e) (keeps x (i x refl))

pub kept_cleared : {S T : Type 0} (gs : EntryGroups) (m : HashMap ℕ RingView S) (n : HashMap ℕ RingView T) (limit : LineLimit) (next : ℕ) (h : ℕ) → IsHeldChanged h without_lines m n → IsWorld gs m limit next → IsWorld gs n limit next
kept_cleared gs m n limit next h c w = kept_changed gs m n limit next next h without_lines c (λ x i. record { limited = i.limited; roomy = i.roomy; apart = tt; counted = i.counted }) (omega arith) w.ended w

pub kept_printed : {S T : Type 0} (gs : EntryGroups) (m : HashMap ℕ RingView S) (n : HashMap ℕ RingView T) (limit : LineLimit) (next : ℕ) (h : ℕ) (line : Line) → line.content.0 ≡ next + 1 → next < 2 ^ 62 → IsHeldChanged h (λ x. with_line x line) m n → IsWorld gs m limit next → IsWorld gs n limit (next + 2)
kept_printed gs m n limit next h line e below c w = kept_changed gs m n limit next (next + 2) h (λ x. with_line x line) c (λ x i. record { limited = i.limited; roomy = i.roomy; apart = apart_printed next (next + 2) x.limit line x.lines i.apart (omega arith) (omega arith); counted = (let b = i.counted in let one = one_more x.pushed (omega arith) in omega arith) }) (omega arith) (omega arith) w

pub kept_stored : {S T : Type 0} (gs hs : EntryGroups) (m : HashMap ℕ RingView S) (n : HashMap ℕ RingView T) (limit : LineLimit) (next : ℕ) → hs ≡ gs → ((q : ℕ) → held_at n q ≡ held_at m q) → IsWorld gs m limit next → IsWorld hs n limit next
kept_stored gs hs m n limit next e s w = subst (λ g. IsWorld g n limit next) (sym e) (record {
  stored = λ q. ap is_some (s q) ∙ w.stored q;
  fit = λ q x f. w.fit q x (sym (s q) ∙ f);
  below = w.below;
  some = w.some;
  most = w.most;
  started = w.started;
  ended = w.ended;
})

-- handles were drawn
pub kept_drawn : {S : Type 0} (gs : EntryGroups) (m : HashMap ℕ RingView S) (limit : LineLimit) (next next2 : ℕ) → next ≤ next2 → next2 ≤ 2 ^ 62 + 1 → IsWorld gs m limit next → IsWorld gs m limit next2
kept_drawn gs m limit next next2 le most w = record {
  stored = w.stored;
  fit = λ q x e. (let i = w.fit q x e in record { limited = i.limited; roomy = i.roomy; apart = apart_more next next2 x.lines (omega arith) i.apart; counted = (let b = i.counted in omega arith) });
  below = λ q t. (let b = w.below q t in omega arith);
  some = w.some;
  most = w.most;
  started = (let s = w.started in omega arith);
  ended = most;
}

-- memory was taken
pub kept_reserved : {S T U V : Type 0} (gs hs : EntryGroups) (m : HashMap ℕ RingView S) (n : HashMap ℕ RingView T) (k : HashMap ℕ Nicks U) (l : HashMap ℕ Nicks V) (limit : LineLimit) (next count : ℕ)
    → hs ≡ gs → ((q : ℕ) → held_at n q ≡ held_at m q) → ((q : ℕ) → list_at l q ≡ list_at k q) → IsWorld gs m limit next × AreNicks gs k count → IsWorld hs n limit next × AreNicks hs l count
kept_reserved gs hs m n k l limit next count g s t w = (kept_stored gs hs m n limit next g s w.0, kept_shown gs hs k l count g (same_lists k l t) w.1)
