-- The groups of the buffers' handles stay groups of distinct handles.
use Rattle.std.proofs.Common.{◌≡◌, ℕ, Bool, true, false, cond, ◌&&◌, eqb, List, [], ◌∷◌, length, map, refl, sym, ap, subst, ◌∙◌, arith}
use Rattle.std.specs.List.{list_any}
use Rattle.std.proofs.lemmas.List.{length-map}
use Rattle.wc_text.specs.declared.names.Handle.{Handle}
use Rattle.wc_buffers.specs.declared.row.BufferEntry.{BufferEntry}
use Rattle.wc_buffers.specs.Calls.{EntryGroups, handle_of, is_alone}
use Rattle.wc_buffers.specs.Groups.{rows, has, in_group, times, take_out, move_group, merge, unmerge, update, append_to}
use Rattle.wc_buffers.specs.Kept.{handles}
use Rattle.wc_buffers.specs.Table.{AreGroups, key}
use Rattle.wc_buffers.proofs.GroupLaws.{has-map, times-map, rows-map, take_out-map, move_group-map, merge-map, unmerge-map, list_any-map, in_group-map}
use Rattle.wc_buffers.proofs.TableLemmas.{taken_are, moved_are, appended_are, unmerged_are, stands, found, picked, taken_has, taken_lacks, rows-taken, leaves_others}

abbrev handle_in : BufferEntry → Handle
handle_in e = e.row.handle

pub has_handles : (h : ℕ) (gs : EntryGroups) → has key h (handles gs) ≡ has handle_of h gs
has_handles h gs = has-map handle_in handle_of key (λ e. refl) h gs

pub times_handles : (h : ℕ) (gs : EntryGroups) → times key h (handles gs) ≡ times handle_of h gs
times_handles h gs = times-map handle_in handle_of key (λ e. refl) h gs

pub rows_handles : (gs : EntryGroups) → length (rows (handles gs)) ≡ length (rows gs)
rows_handles gs = ap length (rows-map handle_in handle_of key (λ e. refl) gs) ∙ length-map (rows gs) handle_in

pub groups_taken : (h : ℕ) (gs : EntryGroups) → AreGroups (handles gs) → AreGroups (handles (take_out handle_of h gs))
groups_taken h gs are = subst AreGroups (sym (take_out-map handle_in handle_of key (λ e. refl) h gs)) (taken_are h (handles gs) are)

pub groups_moved : (h n : ℕ) (gs : EntryGroups) → has handle_of h gs ≡ true → AreGroups (handles gs) → AreGroups (handles (move_group handle_of h n gs))
groups_moved h n gs there are =
    let f = found h (handles gs) (has_handles h gs ∙ there) in
    subst AreGroups (sym (move_group-map handle_in handle_of key (λ e. refl) h n gs)) (moved_are h f.0 n (handles gs) are (stands h f.0 (handles gs) are f.1))

pub groups_merged : (h into : Handle) (gs : EntryGroups) → has handle_of h.0 gs ≡ true → has handle_of into.0 gs ≡ true → eqb h.0 into.0 ≡ false → AreGroups (handles gs) → AreGroups (handles (merge handle_of h.0 into.0 gs))
groups_merged h into gs there target apart are =
    let hs = handles gs in
    let here : has key h.0 hs ≡ true = has_handles h.0 gs ∙ there in
    let rest = take_out key h.0 hs in
    let left = taken_are h.0 hs are in
    let f = found into.0 rest (taken_has h.0 into.0 hs apart (has_handles into.0 gs ∙ target)) in
    let put = appended_are into.0 f.0 h rest left (stands into.0 f.0 rest left f.1) (taken_lacks h.0 hs) (let few = are.few in omega (arith, rows-taken h.0 hs are here)) in
    subst AreGroups (sym (merge-map handle_in handle_of key (λ e. refl) h.0 into.0 gs))
    (subst (λ new. AreGroups (append_to key into.0 new rest)) (sym (picked h hs are here)) put)

alone_handles : (h : ℕ) (gs : EntryGroups) → list_any (λ g. in_group key h g && eqb (length g) 1) (handles gs) ≡ list_any (λ g. in_group handle_of h g && eqb (length g) 1) gs
alone_handles h gs = list_any-map (map handle_in) (λ g. in_group key h g && eqb (length g) 1) (λ g. in_group handle_of h g && eqb (length g) 1) both gs
  where
    both : (g : List BufferEntry) → (in_group key h (map handle_in g) && eqb (length (map handle_in g)) 1) ≡ (in_group handle_of h g && eqb (length g) 1)
    both g = rw (in_group-map handle_in handle_of key (λ e. refl) h g, length-map g handle_in) refl

pub groups_unmerged : (h : Handle) (gs : EntryGroups) → has handle_of h.0 gs ≡ true → is_alone h gs ≡ false → AreGroups (handles gs) → AreGroups (handles (unmerge handle_of h.0 gs))
groups_unmerged h gs there merged are =
    let hs = handles gs in
    let f = found h.0 hs (has_handles h.0 gs ∙ there) in
    let s = stands h.0 f.0 hs are f.1 in
    subst AreGroups (sym (unmerge-map handle_in handle_of key (λ e. refl) h.0 gs))
    (unmerged_are h f.0 hs are s (leaves_others h.0 f.0 hs s (alone_handles h.0 gs ∙ merged)))

handles_list : (h : ℕ) (F : BufferEntry → BufferEntry) → ((x : BufferEntry) → (F x).row.handle ≡ x.row.handle) → (xs : List BufferEntry)
    → map handle_in (map (λ (x : BufferEntry). cond (eqb (handle_of x) h) (F x) x) xs) ≡ map handle_in xs
handles_list h F same [] = refl
handles_list h F same (x ∷ xs) = λ i. one (eqb (handle_of x) h) i ∷ handles_list h F same xs i where
  one : (b : Bool) → (cond b (F x) x).row.handle ≡ x.row.handle
  one true = same x
  one false = refl

pub handles_updated : (h : ℕ) (F : BufferEntry → BufferEntry) → ((x : BufferEntry) → (F x).row.handle ≡ x.row.handle) → (gs : EntryGroups) → handles (update handle_of h F gs) ≡ handles gs
handles_updated h F same [] = refl
handles_updated h F same (g ∷ gs) = λ i. handles_list h F same g i ∷ handles_updated h F same gs i
