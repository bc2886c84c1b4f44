-- The push of the rows of a buffer is folded to the rows now.
use Rattle.std.proofs.Common.{◌≡◌, ℕ, ◌+◌, Bool, true, cond, eqb, List, [], ◌∷◌, ◌++◌, length, map, codes, Option, Some, None, Ok, refl, sym, ap, subst, ◌∙◌, arith, eq-eqb, eqb-true}
use Rattle.std.specs.Prelude.{nat_lt, filter, reverse, is_some}
use Rattle.std.specs.List.{AllByRecursion}
use Rattle.std.specs.FinMap.{get, insert, get-insert, same_map, nat_cmp-IsAntisymmetric}
use Rattle.std.specs.Cmp.{nat_cmp_total}
use Rattle.std.proofs.lemmas.List.{reverse-append}
use Rattle.wc_text.specs.declared.names.Handle.{Handle}
use Rattle.wc_nicklist.specs.declared.item.Item.{Item}
use Rattle.wc_nicklist.specs.declared.item.Key.{Key}
use Rattle.wc_nicklist.specs.declared.item.Row.{Row}
use Rattle.wc_nicklist.specs.Order.{key, group_key}
use Rattle.wc_nicklist.specs.Rows.{key_eq, find_row, is_root, parent_of}
use Rattle.wc_nickdiff.specs.declared.diff_item.DiffItem.{DiffItem}
use Rattle.wc_nickdiff.specs.declared.diff_item.Mark.{Mark}
use Rattle.wc_nickdiff.specs.declared.diff_item.Mark.TheVariants.{Removed, Added, Changed}
use Rattle.wc_nickdiff.specs.Apply.{applied_all}
use Rattle.wc_nickdiff.specs.NickPush.{root_item, item_or, group_item, Op, op, ops, is_group, is_nick, outs, ins, changed_rows, same_name, with_parents, diff, full_list, push_of}
use Rattle.wc_nickdiff.proofs.PushLaw.{kept, diff_law}
use Rattle.wc_model.specs.declared.notice.EventKind.TheVariants as event
use Rattle.wc_events.specs.NickObjects.{push_message, diff_objects, nick_objects, diff_item, nick_item}
use Rattle.wc_view.specs.declared.nick_rows.NickRow.{NickRow}
use Rattle.wc_view.specs.declared.nick_rows.NickChange.{NickChange}
use Rattle.wc_view.specs.Ids.{IsFree}
use Rattle.wc_view.specs.NickFold.{NickPart, rows_listed, are_of, put_rows, with_full, with_full_told, changes_are_of, put_applied, apply_to, with_diff, with_diff_told, some_part, fold_nicks}
use Rattle.wc_view.specs.NickViews.{HasNicks, IsTellable, AreTellable, fold_told_nicks, PushShows}
use Rattle.wc_view.proofs.EntryLemmas.{by_bool, tied}
use Rattle.wc_view.proofs.NoticeLaw.{other_id, message_of}
use Rattle.wc_view.proofs.NickTold.{IsFew, AreFew, AreFewChanges, row_at, rows_told, change_at, changes_told}
use Rattle.wc_view.proofs.NickRowsHold.{listed}

-- ---- levels that can be told stay so in a diff
abbrev Few : List Row → Type 0
Few rows = AllByRecursion IsTellable rows

few_filter : (test : Row → Bool) (rows : List Row) → Few rows → Few (filter test rows)
few_filter test [] few = tt
few_filter test (x ∷ xs) few = by_bool (test x) _
    (λ t. rw t (few.0, few_filter test xs few.1))
    (λ t. rw t (few_filter test xs few.1))

few_append : (xs ys : List Row) → Few xs → Few ys → Few (xs ++ ys)
few_append [] ys a b = b
few_append (x ∷ xs) ys a b = (a.0, few_append xs ys a.1 b)

few_reverse : (rows : List Row) → Few rows → Few (reverse rows)
few_reverse [] few = tt
few_reverse (x ∷ xs) few = rw (reverse-append (x ∷ []) xs) (few_append (reverse xs) (x ∷ []) (few_reverse xs few.1) (few.0, tt))

few_found : (rows : List Row) → Few rows → (k : Key) (r : Row) → find_row k rows ≡ Some r → IsTellable r
few_found [] few k r found = absurd (let z = found in cc)
few_found (x ∷ xs) few k r found = by_bool (key_eq (key x) k) _
    (λ t. let is : Some x ≡ Some r = rw t at found in let same : x ≡ r = (let z = is in cc) in subst IsTellable same few.0)
    (λ t. few_found xs few.1 k r (rw t at found))

record IsFewOp (o : Op) : Type 0 where
  parent : IsFew o.parent
  item : IsFew o.item

abbrev FewOps : List Op → Type 0
FewOps os = AllByRecursion IsFewOp os

few_group : (root : Handle) (rows : List Row) (name : List ℕ) → Few rows → IsFew (group_item (root_item root) (λ k. find_row k rows) name)
few_group root rows name few = by_bool (is_root name) _ (λ t. rw t (omega arith)) (λ t. rw t (by (find_row (group_key name) rows) (few_found rows few (group_key name))))
  where
    by : (o : Option Row) → ((r : Row) → o ≡ Some r → IsTellable r) → IsFew (item_or (root_item root) o)
    by None holds = omega arith
    by (Some r) holds = holds r refl

few_ops : (mark : Mark) (root : Handle) (all rows : List Row) → Few all → Few rows → FewOps (map (op mark (root_item root) (λ k. find_row k all)) rows)
few_ops mark root all [] few some = tt
few_ops mark root all (r ∷ rows) few some = (record { parent = few_group root all (parent_of r) few; item = some.0 }, few_ops mark root all rows few some.1)

few_both : (xs ys : List Op) → FewOps xs → FewOps ys → FewOps (xs ++ ys)
few_both [] ys a b = b
few_both (x ∷ xs) ys a b = (a.0, few_both xs ys a.1 b)

few_parents : (p : Option (List ℕ)) (os : List Op) → FewOps os → AreFewChanges (with_parents p os)
few_parents p [] few = tt
few_parents p (o ∷ os) few = by_bool (same_name p o.under) _
    (λ t. rw t (few.0.item, few_parents p os few.1))
    (λ t. rw t (few.0.parent, (few.0.item, few_parents (Some o.under) os few.1)))

few_diff : (root : Handle) (told now : List Row) → Few told → Few now → AreFewChanges (diff (root_item root) told now)
few_diff root told now old new =
    let away = few_filter _ told old in
    let here = few_filter _ now new in
    few_parents None (ops (root_item root) told now)
    (few_both _ _ (few_ops Removed root told (filter is_nick (outs told now)) old (few_filter is_nick (outs told now) away))
    (few_both _ _ (few_ops Removed root told (reverse (filter is_group (outs told now))) old (few_reverse (filter is_group (outs told now)) (few_filter is_group (outs told now) away)))
    (few_both _ _ (few_ops Added root now (filter is_group (ins told now)) new (few_filter is_group (ins told now) here))
    (few_both _ _ (few_ops Added root now (filter is_nick (ins told now)) new (few_filter is_nick (ins told now) here))
    (few_ops Changed root now (changed_rows told now) new (few_filter _ now new))))))

-- ---- the items of one buffer
all_of : (buffer : Handle) (items : List Item) → are_of buffer.0 (map (row_at buffer) items) ≡ true
all_of buffer [] = refl
all_of buffer (i ∷ items) = rw (eq-eqb buffer.0 buffer.0 refl) (all_of buffer items)

same_items : (buffer : Handle) (items : List Item) → map (λ (row : NickRow). row.item) (map (row_at buffer) items) ≡ items
same_items buffer [] = refl
same_items buffer (i ∷ items) = ap (λ is. i ∷ is) (same_items buffer items)

all_changes_of : (buffer : Handle) (ds : List DiffItem) → changes_are_of buffer.0 (map (change_at buffer) ds) ≡ true
all_changes_of buffer [] = refl
all_changes_of buffer (d ∷ ds) = rw (eq-eqb buffer.0 buffer.0 refl) (all_changes_of buffer ds)

same_changes : (buffer : Handle) (ds : List DiffItem) → map (λ (change : NickChange). change.diff) (map (change_at buffer) ds) ≡ ds
same_changes buffer [] = refl
same_changes buffer (d ∷ ds) = ap (λ is. d ∷ is) (same_changes buffer ds)

-- ---- a whole nicklist
full_read : (told : NickPart) (root buffer : Handle) (before now : List Row) → get told buffer.0 ≡ Some before → AreTellable now
    → with_full (map (row_at buffer) (full_list (root_item root) now)) told ≡ insert told buffer.0 now
unfolding with_full
full_read told root buffer before now held new =
    let items = full_list (root_item root) now in
    ap (λ b. cond b (put_rows buffer.0 (rows_listed (map (λ (row : NickRow). row.item) (map (row_at buffer) items))) told) told) (all_of buffer (map (λ (r : Row). r.item) now))
    ∙ ap (λ is. put_rows buffer.0 (rows_listed is) told) (same_items buffer items)
    ∙ ap (λ rows. put_rows buffer.0 rows told) (listed root now new.held)
    ∙ ap (λ found. cond (is_some found) (insert told buffer.0 now) told) held

pub few_listed : (root : Handle) (rows : List Row) → Few rows → AreFew (full_list (root_item root) rows)
few_listed root rows few = (omega arith, by rows few)
  where
    by : (rows : List Row) → Few rows → AreFew (map (λ r. r.item) rows)
    by [] few = tt
    by (r ∷ rows) few = (few.0, by rows few.1)

full_shows : (id : List ℕ) (told : NickPart) (root buffer : Handle) (before now : List Row) → IsFree id → get told buffer.0 ≡ Some before → AreTellable now
    → HasNicks (fold_nicks id (Some told) (message_of event.Nicklist (nick_objects (map (nick_item buffer) (full_list (root_item root) now))))) (insert told buffer.0 now)
full_shows id told root buffer before now free held new =
    rw (other_id (codes "nicklist") id free)
    (ap (λ rows. Ok (Some (with_full_told rows told))) (rows_told buffer (full_list (root_item root) now) (few_listed root now new.levels))
    ∙ ap (λ part. Ok (Some part)) (full_read told root buffer before now held new))

-- ---- a diff
diff_read : (told : NickPart) (buffer : Handle) (before now : List Row) (d : DiffItem) (ds : List DiffItem) → get told buffer.0 ≡ Some before → applied_all (d ∷ ds) before ≡ Ok now
    → with_diff (map (change_at buffer) (d ∷ ds)) told ≡ Ok (insert told buffer.0 now)
unfolding with_diff
diff_read told buffer before now d ds held applies =
    ap (λ b. cond b (apply_to buffer.0 (map (λ (change : NickChange). change.diff) (map (change_at buffer) (d ∷ ds))) told (get told buffer.0)) (Ok told)) (all_changes_of buffer ds)
    ∙ ap (λ is. apply_to buffer.0 is told (get told buffer.0)) (same_changes buffer (d ∷ ds))
    ∙ ap (apply_to buffer.0 (d ∷ ds) told) held
    ∙ ap (put_applied buffer.0 told) applies

diff_shows : (id : List ℕ) (told : NickPart) (buffer : Handle) (before now : List Row) (d : DiffItem) (ds : List DiffItem) → IsFree id → get told buffer.0 ≡ Some before
    → AreFewChanges (d ∷ ds) → applied_all (d ∷ ds) before ≡ Ok now
    → HasNicks (fold_nicks id (Some told) (message_of event.NicklistDiff (diff_objects (map (diff_item buffer) (d ∷ ds))))) (insert told buffer.0 now)
diff_shows id told buffer before now d ds free held few applies =
    rw (other_id (codes "nicklist_diff") id free)
    (ap (λ changes. some_part (with_diff_told changes told)) (changes_told buffer (d ∷ ds) few)
    ∙ ap some_part (diff_read told buffer before now d ds held applies))

-- ---- nothing to be told
nothing_shows : (told : NickPart) (buffer : ℕ) (now : List Row) → get told buffer ≡ Some now → told ≡ insert told buffer now
nothing_shows told buffer now held = same_map nat_cmp_total nat_cmp-IsAntisymmetric told (insert told buffer now) (λ q.
    sym (get-insert nat_cmp_total told buffer now q ∙ by_bool (eqb q buffer) _
    (λ t. rw (tied q buffer, t) (sym (ap (get told) (eqb-true q buffer t) ∙ held)))
    (λ t. rw (tied q buffer, t) refl)))

pub push_shows : PushShows
push_shows id told root buffer before now free held old new =
    go (diff (root_item root) before now) (few_diff root before now old.levels new.levels) (diff_law (root_item root) before now refl (kept before old.held) (kept now new.held))
  where
    go : (ds : List DiffItem) → AreFewChanges ds → applied_all ds before ≡ Ok now
        → HasNicks (fold_told_nicks id (Some told) (push_message buffer (push_of (root_item root) ds now))) (insert told buffer.0 now)
    go [] few applies =
        let same : before ≡ now = (let z = applies in cc) in
        ap (λ part. Ok (Some part)) (nothing_shows told buffer.0 now (held ∙ ap Some same))
    go (d ∷ ds) few applies = by_bool (nat_lt (length (d ∷ ds)) (length now + 1)) _
        (λ t. rw t (diff_shows id told buffer before now d ds free held few applies))
        (λ t. rw t (full_shows id told root buffer before now free held new))
