-- The event of a change of a world is folded to the buffers after the change.
use Rattle.std.proofs.Common.{◌≡◌, ℕ, ◌^◌, ◌+◌, ◌-◌, ◌<◌, ◌≤◌, Bool, true, false, cond, not, ◌&&◌, eqb, List, [], ◌∷◌, ◌++◌, length, map, codes, Option, Some, None, option_map, refl, sym, ap, subst, ◌∙◌, arith, lt-ltb, le-leb}
use Rattle.std.specs.Prelude.{unwrap_or, nat_lt, nat_le}
use Rattle.std.proofs.lemmas.Bool.{eq-eqb, eqb-true, false≢true}
use Rattle.std.proofs.lemmas.Bool.Decides.{nat_tests}
use Rattle.std.proofs.lemmas.List.{map-append, length-map}
use Rattle.wc_text.specs.declared.names.Handle.{Handle}
use Rattle.wc_text.specs.declared.names.Pair.{Pair}
use Rattle.wc_buffers.specs.declared.row.BufferSpec.{BufferSpec}
use Rattle.wc_buffers.specs.declared.row.BufferEntry.{BufferEntry}
use Rattle.wc_buffers.specs.Groups.{rows, in_group, has, row_of, times, update, take_out, pick, append_to, merge, others, own, move_group}
use Rattle.wc_buffers.specs.Calls.{EntryGroups as Held, handle_of, entry_of, lacks_var, new_entry as opened_entry, with_hidden, with_full_name, with_short_name, with_title, with_var, without_var, with_entry}
use Rattle.wc_buffers.specs.Vars.{cut_to}
use Rattle.wc_buffers.proofs.GroupLaws.{by_bool, in_group-map, has-map, rows-map, times-map, row_of-map, update-map, take_out-map, merge-map, move_group-map, unmerge-map, times-take_out}
use Rattle.wc_buffers.proofs.RefusalLemmas.{there_good, close_good, move_good, merge_good, unmerge_good, rename_good, short_name_good, set_var_good, remove_var_good}
use Rattle.wc_world.proofs.GroupRows.{row_of-append, or_some, no_row, some_row, merged_apart, has-take_out, row_of-update}
use Rattle.wc_model.specs.declared.change.Flip.{Flip}
use Rattle.wc_model.specs.declared.change.What.{What}
use Rattle.wc_model.specs.declared.change.What.TheVariants.{Add, Close, MoveTo, MergeInto, Unmerge, Hide, Unhide, Rename, ShortName, Title, SetVar, RemoveVar, Print, Clear, Flips, AddGroup, AddNick, RemoveGroup, RemoveNick, ChangeGroup, ChangeNick, Limit}
use Rattle.wc_model.specs.declared.notice.EventKind.{EventKind}
use Rattle.wc_model.specs.declared.notice.EventKind.TheVariants as event
use Rattle.wc_model.specs.declared.notice.Notice.{Notice}
use Rattle.wc_buffers.specs.declared.refused.BufferRefused.{BufferRefused}
use Rattle.wc_model.specs.declared.refused.ChangeRefused.{ChangeRefused}
use Rattle.wc_model.specs.World.{World, lines_at}
use Rattle.wc_model.specs.Order.{order, before_in}
use Rattle.wc_model.specs.Apply.{refusal_of, after_of, of_buffers, or_else, row_of as new_row}
use Rattle.wc_model.specs.Notices.{notice_of, notice_at, var_kind, name_in, flips_between}
use Rattle.wc_objects.specs.declared.object.Object.{Object}
use Rattle.wc_events.specs.BufferObjects.{event_of, event_objects, objects_of, flagged_objects, opened_objects, renamed_objects, title_objects, trim_objects, vars_objects}
use Rattle.wc_view.specs.declared.mirror_buffer.MirrorBuffer.{MirrorBuffer}
use Rattle.wc_view.specs.declared.told_buffer.ToldBuffer.{ToldBuffer}
use Rattle.wc_view.specs.Ids.{IsFree}
use Rattle.wc_view.specs.Grouped.{MirrorGroups, key_of, put_after, move_group_at, merge_groups_at, with_told, with_edit, with_event}
use Rattle.wc_view.specs.BufferFold.{fold_buffers}
use Rattle.wc_view.specs.BufferViews.{shown_buffer, shown_groups, HasBuffers, AreGrouped, fold_told_buffers, BufferNoticeShows, BufferTrimShows, BufferFlagShows}
use Rattle.wc_view.proofs.LineTold.{few_shown}
use Rattle.wc_view.proofs.NoticeLaw.{other_id, message_of}
use Rattle.wc_view.proofs.BufferTold.{cut, placed_told, opened_told, renamed_told, title_told, vars_told, opened_folds, renamed_folds, title_folds, added_folds, changed_folds, removed_folds, closing_folds, moved_folds, merged_folds, unmerged_folds, hidden_folds, unhidden_folds}
use Rattle.wc_view.proofs.BufferPlaces.{once_changed, own_few, parted, moved_place, merged_after, pick_filled}

-- ---- groups as they are shown
same_key : (e : BufferEntry) → key_of (shown_buffer e) ≡ handle_of e
same_key e = refl

shown_has : (h : ℕ) (gs : Held) → has key_of h (shown_groups gs) ≡ has handle_of h gs
shown_has h gs = has-map shown_buffer handle_of key_of same_key h gs

-- a change of one buffer
shown_update : (F : BufferEntry → BufferEntry) (G : MirrorBuffer → MirrorBuffer) (h : ℕ) (e : BufferEntry) (gs : Held) → times handle_of h gs ≤ 1 → row_of handle_of h gs ≡ Some e
    → shown_buffer (F e) ≡ G (shown_buffer e) → update key_of h G (shown_groups gs) ≡ shown_groups (update handle_of h F gs)
shown_update F G h e gs few is same =
    let shown_is : row_of key_of h (shown_groups gs) ≡ Some (shown_buffer e) = row_of-map shown_buffer handle_of key_of same_key h gs ∙ ap (option_map shown_buffer) is in
    let shown_few : times key_of h (shown_groups gs) ≤ 1 = omega (arith, times-map shown_buffer handle_of key_of same_key h gs, few) in
    once_changed key_of h G (λ x. G (shown_buffer e)) (shown_buffer e) (shown_groups gs) refl shown_few shown_is
    ∙ sym (update-map shown_buffer handle_of key_of same_key h (λ x. F e) (λ x. G (shown_buffer e)) (λ x. same) gs)
    ∙ ap shown_groups (sym (once_changed handle_of h F (λ x. F e) e gs refl few is))

-- ---- refusals of the buffers
buffers_accepted : (b : Option BufferRefused) → of_buffers b ≡ None → b ≡ None
buffers_accepted None e = refl
buffers_accepted (Some r) e = absurd (let z = e in cc)

first_accepted : (a b : Option ChangeRefused) → or_else a b ≡ None → a ≡ None
first_accepted None b e = refl
first_accepted (Some r) b e = e

-- ---- the law
abbrev Shown : List ℕ → World → Handle → What → Type 0
Shown id world buffer what =
    HasBuffers (fold_told_buffers id (Some (shown_groups world.groups)) (event_of (after_of world buffer what) (notice_of world (after_of world buffer what) buffer what))) (after_of world buffer what)

if_there : {X : Type 0} (b : Bool) (x y : X) → b ≡ true → cond b x y ≡ x
if_there b x y e = ap (λ b. cond b x y) e

-- what an event says of one buffer
updates : (h : ℕ) (kind : EventKind) (told : ToldBuffer) (F : BufferEntry → BufferEntry) (gs : Held) (e : BufferEntry)
    → with_event kind told (shown_groups gs) ≡ cond (has key_of h (shown_groups gs)) (update key_of h (with_told kind told.buffer) (shown_groups gs)) (shown_groups gs)
    → times handle_of h gs ≤ 1 → row_of handle_of h gs ≡ Some e → has handle_of h gs ≡ true → shown_buffer (F e) ≡ with_told kind told.buffer (shown_buffer e)
    → with_event kind told (shown_groups gs) ≡ shown_groups (update handle_of h F gs)
updates h kind told F gs e is few row there same =
    is ∙ if_there (has key_of h (shown_groups gs)) _ (shown_groups gs) (shown_has h gs ∙ there) ∙ shown_update F (with_told kind told.buffer) h e gs few row same

-- the buffer after its change
changed_entry : (buffer : Handle) (F : BufferEntry → BufferEntry) (gs : Held) (e : BufferEntry) → ((x : BufferEntry) → handle_of (F x) ≡ handle_of x) → row_of handle_of buffer.0 gs ≡ Some e
    → entry_of buffer (update handle_of buffer.0 F gs) ≡ Some (F e)
changed_entry buffer F gs e keeps row = row_of-update handle_of buffer.0 F keeps gs ∙ ap (option_map F) row

abbrev row_name : Option BufferEntry → List ℕ
row_name o = name_in (option_map (λ (x : BufferEntry). x.row) o)

-- ---- hidden and unhidden
hide_shows : (id : List ℕ) (world : World) (buffer : Handle) → AreGrouped world → IsFree id → refusal_of world buffer Hide ≡ None → Shown id world buffer Hide
unfolding refusal_of after_of objects_of with_edit
hide_shows id world buffer are free ok =
    let gs = world.groups in
    let there = there_good buffer gs (buffers_accepted _ ok) in
    let r = some_row handle_of buffer.0 gs there in
    let told = notice_of world (after_of world buffer Hide) buffer Hide in
    hidden_folds id (Some (shown_groups gs)) told free
    ∙ ap Some (updates buffer.0 event.Hidden (placed_told told) (with_hidden true) gs r.0 refl (are.once buffer.0) r.1 there refl)

unhide_shows : (id : List ℕ) (world : World) (buffer : Handle) → AreGrouped world → IsFree id → refusal_of world buffer Unhide ≡ None → Shown id world buffer Unhide
unfolding refusal_of after_of objects_of with_edit
unhide_shows id world buffer are free ok =
    let gs = world.groups in
    let there = there_good buffer gs (buffers_accepted _ ok) in
    let r = some_row handle_of buffer.0 gs there in
    let told = notice_of world (after_of world buffer Unhide) buffer Unhide in
    unhidden_folds id (Some (shown_groups gs)) told free
    ∙ ap Some (updates buffer.0 event.Unhidden (placed_told told) (with_hidden false) gs r.0 refl (are.once buffer.0) r.1 there refl)

-- ---- names
renamed_show : (id : List ℕ) (gs : Held) (buffer : Handle) (F : BufferEntry → BufferEntry) (e : BufferEntry) (told : Notice) → IsFree id → ((x : BufferEntry) → handle_of (F x) ≡ handle_of x)
    → times handle_of buffer.0 gs ≤ 1 → row_of handle_of buffer.0 gs ≡ Some e → has handle_of buffer.0 gs ≡ true → told.buffer ≡ buffer
    → told.full_name ≡ row_name (entry_of buffer (update handle_of buffer.0 F gs))
    → ((F e).row.handle ≡ e.row.handle) × ((F e).row.title ≡ e.row.title) × ((F e).row.hidden ≡ e.row.hidden)
    → fold_told_buffers id (Some (shown_groups gs)) (option_map (message_of event.Renamed) (option_map (renamed_objects told) (entry_of buffer (update handle_of buffer.0 F gs)))) ≡ Some (shown_groups (update handle_of buffer.0 F gs))
unfolding with_edit
renamed_show id gs buffer F e told free keeps few row there is name rest =
    let entry = changed_entry buffer F gs e keeps row in
    let named : told.full_name ≡ (F e).row.full_name = name ∙ ap row_name entry in
    ap (λ o. fold_told_buffers id (Some (shown_groups gs)) (option_map (message_of event.Renamed) (option_map (renamed_objects told) o))) entry
    ∙ renamed_folds id (Some (shown_groups gs)) told (F e) free
    ∙ ap Some (updates told.buffer.0 event.Renamed (renamed_told told (F e)) F gs e refl (subst (λ (b : Handle). times handle_of b.0 gs ≤ 1) (sym is) few) (subst (λ (b : Handle). row_of handle_of b.0 gs ≡ Some e) (sym is) row) (subst (λ (b : Handle). has handle_of b.0 gs ≡ true) (sym is) there)
    (λ i. record { handle = rest.0 i; full_name = sym named i; short_name = (F e).row.short_name; title = rest.1 i; hidden = rest.2 i; vars = (F e).vars }))
    ∙ ap (λ (b : Handle). Some (shown_groups (update handle_of b.0 F gs))) is

rename_shows : (id : List ℕ) (world : World) (buffer : Handle) (name : List ℕ) (flips : List Flip) → AreGrouped world → IsFree id → refusal_of world buffer (Rename name flips) ≡ None → Shown id world buffer (Rename name flips)
unfolding refusal_of after_of objects_of
rename_shows id world buffer name flips are free ok =
    let gs = world.groups in
    let there = (rename_good buffer name gs (buffers_accepted _ (first_accepted _ _ ok))).0 in
    let r = some_row handle_of buffer.0 gs there in
    renamed_show id gs buffer (with_full_name name) r.0 (notice_of world (after_of world buffer (Rename name flips)) buffer (Rename name flips)) free (λ x. refl) (are.once buffer.0) r.1 there refl refl (refl, refl, refl)

short_name_shows : (id : List ℕ) (world : World) (buffer : Handle) (name : List ℕ) → AreGrouped world → IsFree id → refusal_of world buffer (ShortName name) ≡ None → Shown id world buffer (ShortName name)
unfolding refusal_of after_of objects_of
short_name_shows id world buffer name are free ok =
    let gs = world.groups in
    let there = (short_name_good buffer name gs (buffers_accepted _ ok)).0 in
    let r = some_row handle_of buffer.0 gs there in
    renamed_show id gs buffer (with_short_name name) r.0 (notice_of world (after_of world buffer (ShortName name)) buffer (ShortName name)) free (λ x. refl) (are.once buffer.0) r.1 there refl refl (refl, refl, refl)

title_shows : (id : List ℕ) (world : World) (buffer : Handle) (title : List ℕ) → AreGrouped world → IsFree id → refusal_of world buffer (Title title) ≡ None → Shown id world buffer (Title title)
unfolding refusal_of after_of objects_of with_edit
title_shows id world buffer title are free ok =
    let gs = world.groups in
    let F = with_title (cut_to 1024 title) in
    let there = there_good buffer gs (buffers_accepted _ ok) in
    let r = some_row handle_of buffer.0 gs there in
    let told = notice_of world (after_of world buffer (Title title)) buffer (Title title) in
    let entry = changed_entry buffer F gs r.0 (λ x. refl) r.1 in
    let named : told.full_name ≡ r.0.row.full_name = ap row_name entry in
    ap (λ o. fold_told_buffers id (Some (shown_groups gs)) (option_map (message_of event.TitleChanged) (option_map (title_objects told) o))) entry
    ∙ title_folds id (Some (shown_groups gs)) told (F r.0) free
    ∙ ap Some (updates buffer.0 event.TitleChanged (title_told told (F r.0)) F gs r.0 refl (are.once buffer.0) r.1 there
    (λ i. record (shown_buffer r.0) { full_name = sym named i; title = cut_to 1024 title }))

-- ---- variables
vars_show : (id : List ℕ) (gs : Held) (buffer : Handle) (kind : EventKind) (F : BufferEntry → BufferEntry) (e : BufferEntry) (told : Notice)
    → fold_buffers id (Some (shown_groups gs)) (message_of kind (vars_objects told (F e))) ≡ option_map (with_event kind (vars_told told (F e))) (Some (shown_groups gs))
    → with_event kind (vars_told told (F e)) (shown_groups gs) ≡ cond (has key_of buffer.0 (shown_groups gs)) (update key_of buffer.0 (with_told kind (vars_told told (F e)).buffer) (shown_groups gs)) (shown_groups gs)
    → ((x : BufferEntry) → handle_of (F x) ≡ handle_of x)
    → times handle_of buffer.0 gs ≤ 1 → row_of handle_of buffer.0 gs ≡ Some e → has handle_of buffer.0 gs ≡ true
    → shown_buffer (F e) ≡ with_told kind (vars_told told (F e)).buffer (shown_buffer e)
    → fold_told_buffers id (Some (shown_groups gs)) (option_map (message_of kind) (option_map (vars_objects told) (entry_of buffer (update handle_of buffer.0 F gs)))) ≡ Some (shown_groups (update handle_of buffer.0 F gs))
vars_show id gs buffer kind F e told folds is keeps few row there same =
    ap (λ o. fold_told_buffers id (Some (shown_groups gs)) (option_map (message_of kind) (option_map (vars_objects told) o))) (changed_entry buffer F gs e keeps row)
    ∙ folds ∙ ap Some (updates buffer.0 kind (vars_told told (F e)) F gs e is few row there same)

set_var_shows : (id : List ℕ) (world : World) (buffer : Handle) (var : Pair) → AreGrouped world → IsFree id → refusal_of world buffer (SetVar var) ≡ None → Shown id world buffer (SetVar var)
unfolding refusal_of after_of objects_of with_edit
set_var_shows id world buffer var are free ok = by (lacks_var var.name (entry_of buffer world.groups))
  where
    by : (b : Bool) → HasBuffers (fold_told_buffers id (Some (shown_groups world.groups)) (event_of (after_of world buffer (SetVar var)) (notice_at (var_kind b) buffer (with_entry buffer (with_var var.name var.value) world.groups) [] (flips_between world (after_of world buffer (SetVar var)))))) (after_of world buffer (SetVar var))
    by true =
        let gs = world.groups in
        let there = (set_var_good buffer var.name gs (buffers_accepted _ ok)).0 in
        let r = some_row handle_of buffer.0 gs there in
        let told = notice_at event.VarAdded buffer (with_entry buffer (with_var var.name var.value) gs) [] (flips_between world (after_of world buffer (SetVar var))) in
        let named : told.full_name ≡ r.0.row.full_name = ap row_name (changed_entry buffer (with_var var.name var.value) gs r.0 (λ x. refl) r.1) in
        vars_show id gs buffer event.VarAdded (with_var var.name var.value) r.0 told (added_folds id (Some (shown_groups gs)) told (with_var var.name var.value r.0) free) refl (λ x. refl) (are.once buffer.0) r.1 there
        (λ i. record (shown_buffer r.0) { full_name = sym named i; vars = (with_var var.name var.value r.0).vars })
    by false =
        let gs = world.groups in
        let there = (set_var_good buffer var.name gs (buffers_accepted _ ok)).0 in
        let r = some_row handle_of buffer.0 gs there in
        let told = notice_at event.VarChanged buffer (with_entry buffer (with_var var.name var.value) gs) [] (flips_between world (after_of world buffer (SetVar var))) in
        let named : told.full_name ≡ r.0.row.full_name = ap row_name (changed_entry buffer (with_var var.name var.value) gs r.0 (λ x. refl) r.1) in
        vars_show id gs buffer event.VarChanged (with_var var.name var.value) r.0 told (changed_folds id (Some (shown_groups gs)) told (with_var var.name var.value r.0) free) refl (λ x. refl) (are.once buffer.0) r.1 there
        (λ i. record (shown_buffer r.0) { full_name = sym named i; vars = (with_var var.name var.value r.0).vars })

remove_var_shows : (id : List ℕ) (world : World) (buffer : Handle) (name : List ℕ) → AreGrouped world → IsFree id → refusal_of world buffer (RemoveVar name) ≡ None → Shown id world buffer (RemoveVar name)
unfolding refusal_of after_of objects_of with_edit
remove_var_shows id world buffer name are free ok =
    let gs = world.groups in
    let there = (remove_var_good buffer name gs (buffers_accepted _ ok)).0 in
    let r = some_row handle_of buffer.0 gs there in
    let told = notice_of world (after_of world buffer (RemoveVar name)) buffer (RemoveVar name) in
    let named : told.full_name ≡ r.0.row.full_name = ap row_name (changed_entry buffer (without_var name) gs r.0 (λ x. refl) r.1) in
    vars_show id gs buffer event.VarRemoved (without_var name) r.0 told (removed_folds id (Some (shown_groups gs)) told (without_var name r.0) free) refl (λ x. refl) (are.once buffer.0) r.1 there
    (λ i. record (shown_buffer r.0) { full_name = sym named i; vars = (without_var name r.0).vars })

-- ---- a buffer that is closed
close_shows : (id : List ℕ) (world : World) (buffer : Handle) → AreGrouped world → IsFree id → refusal_of world buffer Close ≡ None → Shown id world buffer Close
unfolding refusal_of after_of objects_of with_edit
close_shows id world buffer are free ok =
    let gs = world.groups in
    let there = close_good buffer gs (buffers_accepted _ ok) in
    let told = notice_of world (after_of world buffer Close) buffer Close in
    closing_folds id (Some (shown_groups gs)) told free
    ∙ ap Some (if_there (has key_of buffer.0 (shown_groups gs)) _ (shown_groups gs) (shown_has buffer.0 gs ∙ there) ∙ sym (take_out-map shown_buffer handle_of key_of same_key buffer.0 gs))

-- ---- a buffer of its own group
unmerge_shows : (id : List ℕ) (world : World) (buffer : Handle) → AreGrouped world → IsFree id → refusal_of world buffer Unmerge ≡ None → Shown id world buffer Unmerge
unfolding refusal_of after_of objects_of with_edit
unmerge_shows id world buffer are free ok =
    let gs = world.groups in
    let there = (unmerge_good buffer gs (buffers_accepted _ ok)).0 in
    let told = notice_of world (after_of world buffer Unmerge) buffer Unmerge in
    unmerged_folds id (Some (shown_groups gs)) told free
    ∙ ap Some (if_there (has key_of buffer.0 (shown_groups gs)) _ (shown_groups gs) (shown_has buffer.0 gs ∙ there) ∙ sym (unmerge-map shown_buffer handle_of key_of same_key buffer.0 gs))

-- ---- a new buffer
open_shows : (id : List ℕ) (world : World) (buffer : Handle) (spec : BufferSpec) → AreGrouped world → IsFree id → Shown id world buffer (Add spec)
unfolding after_of objects_of
open_shows id world buffer spec are free =
    let gs = world.groups in
    let e = opened_entry (new_row world.next spec) spec.vars in
    let told = notice_of world (after_of world buffer (Add spec)) buffer (Add spec) in
    let absent : has handle_of world.next gs ≡ false = by_bool (has handle_of world.next gs) _ (λ t. absurd (let l : world.next < world.next = are.drawn world.next t in omega arith)) (λ t. t) in
    let entry : row_of handle_of world.next (gs ++ (e ∷ []) ∷ []) ≡ Some e =
    row_of-append handle_of world.next gs ((e ∷ []) ∷ []) ∙ ap (λ o. or_some o (row_of handle_of world.next ((e ∷ []) ∷ []))) (no_row handle_of world.next gs absent)
    ∙ ap (λ b. cond b (Some e) None) (eq-eqb world.next world.next refl) in
    let named : told.full_name ≡ e.row.full_name = ap row_name entry in
    ap (λ o. fold_told_buffers id (Some (shown_groups gs)) (option_map (message_of event.Opened) (option_map (opened_objects told) o))) entry
    ∙ opened_folds id (Some (shown_groups gs)) told e free
    ∙ ap Some (ap (λ b. cond b (shown_groups gs) (shown_groups gs ++ ((opened_told told e).buffer ∷ []) ∷ [])) (shown_has world.next gs ∙ absent)
    ∙ ap (λ n. shown_groups gs ++ (record (shown_buffer e) { full_name = n } ∷ []) ∷ []) named ∙ sym (map-append (map shown_buffer) gs ((e ∷ []) ∷ [])))

-- ---- a group that is moved
move_shows : (id : List ℕ) (world : World) (buffer : Handle) (n : ℕ) → AreGrouped world → IsFree id → refusal_of world buffer (MoveTo n) ≡ None → Shown id world buffer (MoveTo n)
unfolding refusal_of after_of objects_of with_edit
move_shows id world buffer n are free ok =
    let gs = world.groups in
    let h = buffer.0 in
    let good = move_good buffer n gs (buffers_accepted _ ok) in
    let told = notice_of world (after_of world buffer (MoveTo n)) buffer (MoveTo n) in
    let own_one : length (own handle_of h gs) ≤ 1 = omega (arith, own_few handle_of h gs, are.once h) in
    let room : n - 1 ≤ length (others handle_of h gs) = omega (arith, parted handle_of h gs, own_one, good.2) in
    let at : told.number ≡ n = ap (λ o. unwrap_or (option_map (λ m. m + 1) o) 0) (moved_place handle_of h (n - 1) gs good.0 room) ∙ (let p = good.1 in omega arith) in
    let few : n ≤ 2 ^ 31 - 1 = omega (arith, good.1, good.2, are.few) in
    let number_is : cut told.number ≡ n = ap cut at ∙ few_shown n few in
    let shown_room : n - 1 ≤ length (others key_of h (shown_groups gs)) = omega (arith, room, ap length (sym (others-shown h gs)), length-map (others handle_of h gs) (map shown_buffer)) in
    let test : (nat_lt 0 n && nat_le (n - 1) (length (others key_of h (shown_groups gs)))) ≡ true = both _ _ (lt-ltb 0 n good.1) (le-leb (n - 1) (length (others key_of h (shown_groups gs))) shown_room) in
    moved_folds id (Some (shown_groups gs)) told free
    ∙ ap Some (if_there (has key_of h (shown_groups gs)) _ (shown_groups gs) (shown_has h gs ∙ good.0)
    ∙ ap (λ k. move_group_at h k (shown_groups gs)) number_is
    ∙ if_there _ (move_group key_of h (n - 1) (shown_groups gs)) (shown_groups gs) test
    ∙ sym (move_group-map shown_buffer handle_of key_of same_key h (n - 1) gs))
  where
    both : (a b : Bool) → a ≡ true → b ≡ true → (a && b) ≡ true
    both a b x y = ap (λ c. c && b) x ∙ y

    others-shown : (h : ℕ) (gs : Held) → others key_of h (shown_groups gs) ≡ map (map shown_buffer) (others handle_of h gs)
    others-shown h [] = refl
    others-shown h (g ∷ gs) =
        let same : in_group key_of h (map shown_buffer g) ≡ in_group handle_of h g = in_group-map shown_buffer handle_of key_of same_key h g in
        by_bool (in_group handle_of h g) _
        (λ t. rw (same, t) (others-shown h gs))
        (λ t. rw (same, t) (ap (λ l. map shown_buffer g ∷ l) (others-shown h gs)))

-- ---- a buffer that is put to another one's group
merge_shows : (id : List ℕ) (world : World) (buffer into : Handle) → AreGrouped world → IsFree id → refusal_of world buffer (MergeInto into) ≡ None → Shown id world buffer (MergeInto into)
unfolding refusal_of after_of objects_of with_edit
merge_shows id world buffer into are free ok =
    let gs = world.groups in
    let h = buffer.0 in
    let ms = shown_groups gs in
    let good = merge_good buffer into gs (buffers_accepted _ ok) in
    let apart : eqb h into.0 ≡ false = merged_apart handle_of h into.0 gs good.0 good.2 in
    let told = notice_of world (after_of world buffer (MergeInto into)) buffer (MergeInto into) in
    let there : has key_of h ms ≡ true = shown_has h gs ∙ good.0 in
    let into_there : has key_of into.0 ms ≡ true = shown_has into.0 gs ∙ good.1 in
    let rest = take_out key_of h ms in
    let p = pick_filled h ms there in
    let few : (q : ℕ) → times key_of q rest ≤ 1 = λ q. shown_few q in
    let none : times key_of h rest ≡ 0 = times-take_out key_of h h ms ∙ ap (λ b. cond b 0 (times key_of h ms)) (eq-eqb h h refl) in
    let stays : has key_of into.0 rest ≡ true = has-take_out key_of h into.0 ms ∙ ap (λ b. cond b false (has key_of into.0 ms)) apart ∙ into_there in
    let following = merged_after into.0 h 0 p.0 p.1 rest p.3 none stays few in
    let picked : append_to key_of into.0 (pick key_of h ms) rest ≡ append_to key_of into.0 (p.0 ∷ p.1) rest = ap (λ l. append_to key_of into.0 l rest) p.2 in
    let shown_is : shown_groups (merge handle_of h into.0 gs) ≡ append_to key_of into.0 (p.0 ∷ p.1) rest = merge-map shown_buffer handle_of key_of same_key h into.0 gs ∙ picked in
    let ordered : order (merge handle_of h into.0 gs) ≡ map key_of (rows (append_to key_of into.0 (p.0 ∷ p.1) rest)) =
    order-shown (merge handle_of h into.0 gs) ∙ ap (λ gs. map key_of (rows gs)) shown_is in
    let q = before_in 0 h (map key_of (rows (append_to key_of into.0 (p.0 ∷ p.1) rest))) in
    let prev_is : told.prev.0 ≡ q = ap (before_in 0 h) ordered in
    let q_apart : eqb q h ≡ false = not_h q (following.0) in
    let q_there : has key_of q ms ≡ true = sym (ap (λ b. cond b false (has key_of q ms)) (turned q q_apart)) ∙ sym (has-take_out key_of h q ms) ∙ following.0 in
    merged_folds id (Some ms) told free
    ∙ ap Some (if_there (has key_of h ms) _ ms there
    ∙ ap (λ k. merge_groups_at h k ms) prev_is
    ∙ if_there (not (eqb q h) && has key_of q ms) (put_after q (pick key_of h ms) rest) ms (both _ _ (ap not q_apart) q_there)
    ∙ ap (λ l. put_after q l rest) p.2 ∙ following.1 ∙ sym shown_is)
  where
    both : (a b : Bool) → a ≡ true → b ≡ true → (a && b) ≡ true
    both a b x y = ap (λ c. c && b) x ∙ y

    turned : (q : ℕ) → eqb q buffer.0 ≡ false → eqb buffer.0 q ≡ false
    turned q e = grind (arith, nat_tests)

    shown_few : (q : ℕ) → times key_of q (take_out key_of buffer.0 (shown_groups world.groups)) ≤ 1
    shown_few q = by (eqb buffer.0 q) (times-take_out key_of q buffer.0 (shown_groups world.groups))
      where
        by : (b : Bool) → times key_of q (take_out key_of buffer.0 (shown_groups world.groups)) ≡ cond b 0 (times key_of q (shown_groups world.groups)) → times key_of q (take_out key_of buffer.0 (shown_groups world.groups)) ≤ 1
        by true e = omega arith
        by false e = omega (arith, times-map shown_buffer handle_of key_of same_key q world.groups, are.once q)

    not_h : (q : ℕ) → has key_of q (take_out key_of buffer.0 (shown_groups world.groups)) ≡ true → eqb q buffer.0 ≡ false
    not_h q e = by_bool (eqb q buffer.0) _
        (λ t. absurd (false≢true (sym (has-take_out key_of buffer.0 q (shown_groups world.groups)
        ∙ ap (λ b. cond b false (has key_of q (shown_groups world.groups))) (eq-eqb buffer.0 q (sym (eqb-true q buffer.0 t)))) ∙ e)))
        (λ t. t)

    order-shown : (gs : Held) → order gs ≡ map key_of (rows (shown_groups gs))
    order-shown gs = by (rows gs) ∙ ap (map key_of) (sym (rows-map shown_buffer handle_of key_of same_key gs))
      where
        by : (es : List BufferEntry) → map handle_of es ≡ map key_of (map shown_buffer es)
        by [] = refl
        by (e ∷ es) = ap (λ l. handle_of e ∷ l) (by es)

-- ---- changes of lines
abbrev lines_alone : EventKind → Bool
lines_alone event.Cleared = true
lines_alone event.LineAdded = true
lines_alone event.LineDataChanged = true
lines_alone event.LinesTrimmed = true
lines_alone _ = false

other_message : (id : List ℕ) (part : Option MirrorGroups) (kind : EventKind) (objects : List Object) → IsFree id → lines_alone kind ≡ true → fold_buffers id part (message_of kind objects) ≡ part
other_message id part event.Cleared objects free e = rw (other_id (codes "buffer_cleared") id free) refl
other_message id part event.LineAdded objects free e = rw (other_id (codes "buffer_line_added") id free) refl
other_message id part event.LineDataChanged objects free e = rw (other_id (codes "buffer_line_data_changed") id free) refl
other_message id part event.LinesTrimmed objects free e = rw (other_id (codes "buffer_lines_trimmed") id free) refl
other_message id part event.Opened objects free e = absurd (let z = e in cc)
other_message id part event.Moved objects free e = absurd (let z = e in cc)
other_message id part event.Merged objects free e = absurd (let z = e in cc)
other_message id part event.Unmerged objects free e = absurd (let z = e in cc)
other_message id part event.Hidden objects free e = absurd (let z = e in cc)
other_message id part event.Unhidden objects free e = absurd (let z = e in cc)
other_message id part event.Renamed objects free e = absurd (let z = e in cc)
other_message id part event.TitleChanged objects free e = absurd (let z = e in cc)
other_message id part event.VarAdded objects free e = absurd (let z = e in cc)
other_message id part event.VarChanged objects free e = absurd (let z = e in cc)
other_message id part event.VarRemoved objects free e = absurd (let z = e in cc)
other_message id part event.Closing objects free e = absurd (let z = e in cc)
other_message id part event.Nicklist objects free e = absurd (let z = e in cc)
other_message id part event.NicklistDiff objects free e = absurd (let z = e in cc)
other_message id part event.NickTouched objects free e = absurd (let z = e in cc)
other_message id part event.LimitSet objects free e = absurd (let z = e in cc)

other_told : (id : List ℕ) (part : Option MirrorGroups) (kind : EventKind) (objects : Option (List Object)) → IsFree id → lines_alone kind ≡ true → fold_told_buffers id part (option_map (message_of kind) objects) ≡ part
other_told id part kind None free e = refl
other_told id part kind (Some objects) free e = other_message id part kind objects free e

abbrev objects_told : World → Handle → What → Option (List Object)
objects_told world buffer what = event_objects (after_of world buffer what) (notice_of world (after_of world buffer what) buffer what)

change_shows : (id : List ℕ) (world : World) (buffer : Handle) (what : What) → AreGrouped world → IsFree id → refusal_of world buffer what ≡ None → Shown id world buffer what
unfolding after_of objects_of
change_shows id world buffer (Add spec) are free ok = open_shows id world buffer spec are free
change_shows id world buffer Close are free ok = close_shows id world buffer are free ok
change_shows id world buffer (MoveTo n) are free ok = move_shows id world buffer n are free ok
change_shows id world buffer (MergeInto into) are free ok = merge_shows id world buffer into are free ok
change_shows id world buffer Unmerge are free ok = unmerge_shows id world buffer are free ok
change_shows id world buffer Hide are free ok = hide_shows id world buffer are free ok
change_shows id world buffer Unhide are free ok = unhide_shows id world buffer are free ok
change_shows id world buffer (Rename name flips) are free ok = rename_shows id world buffer name flips are free ok
change_shows id world buffer (ShortName name) are free ok = short_name_shows id world buffer name are free ok
change_shows id world buffer (Title title) are free ok = title_shows id world buffer title are free ok
change_shows id world buffer (SetVar var) are free ok = set_var_shows id world buffer var are free ok
change_shows id world buffer (RemoveVar name) are free ok = remove_var_shows id world buffer name are free ok
change_shows id world buffer (Print line) are free ok = other_told id (Some (shown_groups world.groups)) event.LineAdded (objects_told world buffer (Print line)) free refl
change_shows id world buffer Clear are free ok = other_told id (Some (shown_groups world.groups)) event.Cleared (objects_told world buffer Clear) free refl
change_shows id world buffer (Flips flips) are free ok = other_told id (Some (shown_groups world.groups)) event.LineDataChanged (objects_told world buffer (Flips flips)) free refl
change_shows id world buffer (AddGroup parent item) are free ok = refl
change_shows id world buffer (AddNick group item) are free ok = refl
change_shows id world buffer (RemoveGroup name) are free ok = refl
change_shows id world buffer (RemoveNick name) are free ok = refl
change_shows id world buffer (ChangeGroup item) are free ok = refl
change_shows id world buffer (ChangeNick item) are free ok = refl
change_shows id world buffer (Limit limit) are free ok = refl

pub notice_shows : BufferNoticeShows
notice_shows id part world change are free accepted had =
    subst (λ p. HasBuffers (fold_told_buffers id p (event_of (after_of world change.buffer change.what) (notice_of world (after_of world change.buffer change.what) change.buffer change.what))) (after_of world change.buffer change.what)) (sym had)
    (change_shows id world change.buffer change.what are free accepted)

pub trim_shows : BufferTrimShows
unfolding objects_of
trim_shows id part world trim free = other_message id part event.LinesTrimmed (trim_objects trim) free refl

pub flag_shows : BufferFlagShows
unfolding objects_of
flag_shows id part world flips buffer free = other_told id part event.LineDataChanged (flagged_objects (record { 0 = buffer }) flips (lines_at world buffer)) free refl
