-- What always holds of the world holds still after a change.
use Rattle.std.proofs.Common.{◌≡◌, ℕ, ◌+◌, ◌-◌, ◌<◌, ◌≤◌, ◌^◌, Bool, true, false, cond, ◌&&◌, eqb, ltb, List, [], ◌∷◌, ◌++◌, length, map, All, Option, Some, None, unwrap_or, refl, sym, ap, subst, ◌∙◌, arith, eq-eqb, eqb-true, IsUtf8}
use Rattle.std.specs.Int.{w8}
use Rattle.std.specs.Int.RustNames.{FitsSigned}
use Rattle.std.specs.List.{AllByRecursion}
use Rattle.std.specs.FinMap.{get, insert, remove, empty, get-insert, get-remove, get-empty}
use Rattle.std.specs.Ordering.{nat_cmp, eq_by_cmp}
use Rattle.std.specs.Cmp.{nat_cmp_total}
use Rattle.std.proofs.lemmas.Bool.{false≢true, or_parts}
use Rattle.std.proofs.lemmas.Bool.Decides.{nat_tests}
use Rattle.std.proofs.lemmas.List.{map-append}
use Rattle.std.proofs.lemmas.List.Elements.{All-nil, All-push, All-drop}
use Rattle.std.proofs.lemmas.List.Folds.{list_any-append}
use Rattle.wc_text.specs.declared.names.Handle.{Handle}
use Rattle.wc_lines.specs.declared.line.Line.{Line}
use Rattle.wc_lines.specs.Ring.{last_of}
use Rattle.wc_buffers.specs.declared.row.BufferEntry.{BufferEntry}
use Rattle.wc_buffers.specs.declared.refused.BufferRefused.{BufferRefused}
use Rattle.wc_buffers.specs.declared.row.BufferSpec.{BufferSpec}
use Rattle.wc_nicklist.specs.declared.item.Item.{Item}
use Rattle.wc_nicklist.specs.declared.item.Row.{Row}
use Rattle.wc_nicklist.specs.Calls.{remove_refusal, change_refusal, add_row}
use Rattle.wc_nicklist.specs.Order.{key_at}
use Rattle.wc_nicklist.specs.Rows.{find_row, remove_row, change_row}
use Rattle.wc_nicklist.proofs.Lengths.{length-change_row}
use Rattle.wc_buffers.specs.Calls.{EntryGroups, no_buffer, bad_names, handle_of, is_there, entry_of, with_buffer, new_entry, without_buffer, move_group_to, merge_groups, unmerge_group, with_entry, with_hidden, with_full_name, with_short_name, with_title, with_var, without_var, add_refusal, add_refusal_so_far, too_many_vars, lacks_var, is_full}
use Rattle.wc_buffers.specs.Entries.{IsText}
use Rattle.wc_buffers.specs.Groups.{rows, has, in_group, times}
use Rattle.wc_buffers.specs.Kept.{IsBuffer, handles}
use Rattle.wc_buffers.specs.Table.{AreGroups}
use Rattle.wc_buffers.specs.Vars.{cut_to, var as cut_var, vars_of}
use Rattle.wc_buffers.proofs.GroupLaws.{by_bool}
use Rattle.wc_buffers.proofs.TableLemmas.{added_are}
use Rattle.wc_buffers.proofs.RefusalLemmas.{there_good, move_good, merge_good, unmerge_good, rename_good, short_name_good, set_var_good, remove_var_good, add_good}
use Rattle.wc_buffers.proofs.Fits.{or_none, opened_fits, hidden_fits, short_name_fits, title_fits, full_name_fits, var_fits, removed_fits, cut_short, cut_is_utf8}
use Rattle.wc_world.proofs.GroupRows.{some_row, in_rows, has-move, has-merge, has-unmerge, has-update, has-take_out, merged_apart}
use Rattle.wc_world.proofs.First.{core_text}
use Rattle.wc_world.proofs.FlipLemmas.{apart_more, apart_drop, apart_printed}
use Rattle.wc_world.proofs.HeldLemmas.{tied}
use Rattle.wc_world.proofs.NicksDone.{may_add, may_edit}
use Rattle.wc_model.specs.declared.change.LineSpec.{LineSpec}
use Rattle.wc_model.specs.declared.change.What.{What}
use Rattle.wc_model.specs.declared.change.What.TheVariants.{Add, Close, MoveTo, MergeInto, Unmerge, Hide, Unhide, Rename, ShortName, Title, SetVar, RemoveVar, Print, Clear, Flips, AddGroup, AddNick, RemoveGroup, RemoveNick, ChangeGroup, ChangeNick, Limit}
use Rattle.wc_model.specs.declared.refused.ChangeRefused.{ChangeRefused}
use Rattle.wc_model.specs.declared.refused.ChangeRefused.TheVariants as refused
use Rattle.wc_model.specs.World.{World, core_row, first_world, lines_at, printed_at, rows_at, row_count, row_limit, last_handle}
use Rattle.wc_model.specs.LineCuts.{line_of}
use Rattle.wc_model.specs.Apply.{refusal_of, after_of, of_buffers, or_else as or_refused, refusal_of_handles, with_groups, with_lines, row_of as new_row, adds_row, removes_row, changes_row, with_rows, item_with, with_row, without_row, handle_in, with_changed_row, with_limit}
use Rattle.wc_model.specs.Touches.{told_after}
use Rattle.wc_world.specs.Kept.{AreContentsApart}
use Rattle.wc_board.specs.Told.{Told}
use Rattle.wc_mirror_laws.specs.Changes.{IsTold}
use Rattle.wc_mirror_laws.specs.Nicks.{AreRowsKept, AreListsKept}
use Rattle.wc_mirror_laws.specs.Printed.{IsPrinted}
use Rattle.wc_mirror_laws.specs.Worlds.{IsBufferKept, IsWorldKept}
use Rattle.wc_mirror_laws.proofs.ListLemmas.{all_more}
use Rattle.wc_mirror_laws.proofs.LineWorlds.{last_within, none_last, limited_at, flipped}
use Rattle.wc_mirror_laws.proofs.HandleLemmas.{has_handles, times_handles, rows_handles, groups_taken, groups_moved, groups_merged, groups_unmerged, handles_updated}
use Rattle.wc_mirror_laws.proofs.NickRows.{length-added, length-removed, rows_added, rows_removed, rows_changed}
use Rattle.wc_mirror_laws.proofs.NickWorlds.{rows_few, lists_kept, lists_added, lists_closed, lists_put, count_added, count_closed, count_put, no_lists, none_counted}
use Rattle.wc_mirror_laws.proofs.PrintLemmas.{line_printed}
use Rattle.wc_mirror_laws.proofs.RowLemmas.{added_rows, taken_rows, moved_rows, merged_rows, unmerged_rows, updated_rows, row_has}
use Rattle.wc_mirror_laws.proofs.VarLemmas.{AreShort, short_set, short_removed, short_fixed, opened_short, set_name_short}

-- ---- refusals that do not hold

pub accepted : (o : Option BufferRefused) → of_buffers o ≡ None → o ≡ None
accepted None e = refl
accepted (Some r) e = absurd (let h = e in cc)

pub both_accepted : (a b : Option ChangeRefused) → or_refused a b ≡ None → (a ≡ None) × (b ≡ None)
both_accepted None b e = (refl, e)
both_accepted (Some r) b e = absurd (let h = e in cc)

unspent : (n : ℕ) (world : World) → refusal_of_handles n world ≡ None → world.next + n ≤ 2 ^ 62 + 1
unspent n world e = by (ltb (last_handle + 1) (world.next + n)) refl e where
  by : (b : Bool) → ltb (last_handle + 1) (world.next + n) ≡ b → cond b (Some refused.Spent) None ≡ None → world.next + n ≤ 2 ^ 62 + 1
  by true t e = absurd (let h = e in cc)
  by false t e = grind (arith, nat_tests)

-- ---- changes of groups alone

pub once : (limit : ℕ) (w : World) → IsWorldKept limit w → (h : ℕ) → times handle_of h w.groups ≤ 1
once limit w is h = subst (λ n. n ≤ 1) (times_handles h w.groups) (is.groups.once h)

regrouped : (limit : ℕ) (w : World) (gs : EntryGroups) → IsWorldKept limit w → AreGroups (handles gs) → AllByRecursion (IsBufferKept w.next) (rows gs)
    → ((q : ℕ) → has handle_of q gs ≡ has handle_of q w.groups) → IsWorldKept limit (with_groups w gs)
regrouped limit w gs is groups each same = record {
  same = is.same;
  started = is.started;
  ended = is.ended;
  groups = groups;
  each = each;
  within = is.within;
  printed = is.printed;
  apart = is.apart;
  none = λ h lacks. is.none h (sym (same h) ∙ lacks);
  nicks = lists_kept w.next w.next w.groups gs w.nicks (omega arith) same is.nicks;
  counted = is.counted;
}

-- a buffer that is changed by F
rewritten : (limit : ℕ) (w : World) (h : Handle) (F : BufferEntry → BufferEntry) → IsWorldKept limit w → is_there h w.groups ≡ true
    → ((x : BufferEntry) → (F x).row.handle ≡ x.row.handle) → ((x : BufferEntry) → (F x).row.own_lines ≡ x.row.own_lines)
    → ((x : BufferEntry) → (F x).row.mixed_lines ≡ x.row.mixed_lines)
    → ((e : BufferEntry) → entry_of h w.groups ≡ Some e → IsBuffer e → IsBuffer (F e)) → ((e : BufferEntry) → AreShort e.vars → AreShort (F e).vars)
    → IsWorldKept limit (with_groups w (with_entry h F w.groups))
rewritten limit w h F is there same own mixed fits short =
    let r = some_row handle_of h.0 w.groups there in
    let e = r.0 in
    let old : IsBufferKept w.next e = row_has (IsBufferKept w.next) handle_of h.0 (rows w.groups) e r.1 is.each in
    let new : IsBufferKept w.next (F e) = record {
      fit = fits e r.1 old.fit;
      names = short e old.names;
      some = subst (λ (k : Handle). 0 < k.0) (sym (same e)) old.some;
      below = subst (λ (k : Handle). k.0 < w.next) (sym (same e)) old.below;
      own = subst (λ (k : Handle). k.0 < w.next) (sym (own e)) old.own;
      mixed = subst (λ (k : Handle). k.0 < w.next) (sym (mixed e)) old.mixed;
    } in
    regrouped limit w (with_entry h F w.groups) is (subst AreGroups (sym (handles_updated h.0 F same w.groups)) is.groups)
    (updated_rows handle_of (IsBufferKept w.next) (IsBufferKept w.next) h.0 F (λ x k. k) e new w.groups (once limit w is h.0) r.1 is.each)
    (λ q. has-update handle_of h.0 F (λ x. ap (λ (k : Handle). k.0) (same x)) q w.groups)

-- ---- lines

abbrev no_line_list : List Line
no_line_list = []

pub turn : (a b : ℕ) → eqb a b ≡ eqb b a
turn a b = by_bool (eqb a b) _ (λ t. t ∙ sym (eq-eqb b a (sym (eqb-true a b t)))) (λ t. t ∙ sym (let z : eqb b a ≡ false = grind (arith, nat_tests) in z))

-- the lines where a buffer was given others
pub put_at : (w : World) (k : ℕ) (ms : List Line) (q : ℕ) → unwrap_or (get (insert w.lines k ms) q) [] ≡ cond (eqb q k) ms (lines_at w q)
put_at w k ms q = ap (λ o. unwrap_or o []) (get-insert nat_cmp_total w.lines k ms q ∙ ap (λ b. cond b (Some ms) (get w.lines q)) (tied q k)) ∙ by (eqb q k) where
  by : (b : Bool) → unwrap_or (cond b (Some ms) (get w.lines q)) [] ≡ cond b ms (lines_at w q)
  by true = refl
  by false = refl

pub removed_at : (w : World) (k q : ℕ) → unwrap_or (get (remove w.lines k) q) [] ≡ cond (eqb q k) [] (lines_at w q)
removed_at w k q = ap (λ o. unwrap_or o []) (get-remove nat_cmp_total w.lines k q ∙ ap (λ b. cond b None (get w.lines q)) (tied q k)) ∙ by (eqb q k) where
  by : (b : Bool) → unwrap_or (cond b None (get w.lines q)) [] ≡ cond b [] (lines_at w q)
  by true = refl
  by false = refl

-- a world in which the lines of one buffer were changed
relined : (limit : ℕ) (w v : World) (k : ℕ) (ms : List Line) → IsWorldKept limit w → v.limit ≡ w.limit → w.next ≤ v.next → v.next ≤ 2 ^ 62 + 1
    → AreGroups (handles v.groups) → AllByRecursion (IsBufferKept v.next) (rows v.groups) → ((q : ℕ) → lines_at v q ≡ cond (eqb q k) ms (lines_at w q))
    → length ms ≤ limit → All IsPrinted ms → AreContentsApart v.next ms → ((q : ℕ) → has handle_of q v.groups ≡ false → cond (eqb q k) ms (lines_at w q) ≡ []) → AreListsKept v.next v.groups v.nicks → row_count v ≤ row_limit → IsWorldKept limit v
relined limit w v k ms is same more ended groups each lines few printed apart none nicks counted = record {
  same = same ∙ is.same;
  started = (let started = is.started in omega arith);
  ended = ended;
  groups = groups;
  each = each;
  within = λ q. subst (λ ls. length ls ≤ limit) (sym (lines q)) (short q (eqb q k));
  printed = λ q. subst (All IsPrinted) (sym (lines q)) (all q (eqb q k));
  apart = λ q. subst (AreContentsApart v.next) (sym (lines q)) (differ q (eqb q k));
  none = λ q lacks. lines q ∙ none q lacks;
  nicks = nicks;
  counted = counted;
}
  where
    short : (q : ℕ) (b : Bool) → length (cond b ms (lines_at w q)) ≤ limit
    short q true = few
    short q false = is.within q

    all : (q : ℕ) (b : Bool) → All IsPrinted (cond b ms (lines_at w q))
    all q true = printed
    all q false = is.printed q

    differ : (q : ℕ) (b : Bool) → AreContentsApart v.next (cond b ms (lines_at w q))
    differ q true = apart
    differ q false = apart_more w.next v.next (lines_at w q) (omega arith) (is.apart q)

grown : (n m : ℕ) → n ≤ m → (e : BufferEntry) → IsBufferKept n e → IsBufferKept m e
grown n m le e is = record { fit = is.fit; names = is.names; some = is.some; below = (let b = is.below in omega arith); own = (let b = is.own in omega arith); mixed = (let b = is.mixed in omega arith) }

pub all_grown : (n m : ℕ) → n ≤ m → (gs : EntryGroups) → AllByRecursion (IsBufferKept n) (rows gs) → AllByRecursion (IsBufferKept m) (rows gs)
all_grown n m le gs a = all_more (IsBufferKept n) (IsBufferKept m) (rows gs) (grown n m le) a

-- other lines of a buffer that is there
there_or_none : (w : World) (limit k : ℕ) (ms : List Line) → IsWorldKept limit w → has handle_of k w.groups ≡ true → (q : ℕ) → has handle_of q w.groups ≡ false → cond (eqb q k) ms (lines_at w q) ≡ []
there_or_none w limit k ms is there q lacks = by (eqb q k) refl where
  by : (b : Bool) → eqb q k ≡ b → cond b ms (lines_at w q) ≡ []
  by true t = absurd (false≢true (sym lacks ∙ ap (λ n. has handle_of n w.groups) (eqb-true q k t) ∙ there))
  by false t = is.none q lacks

-- ---- a printed line

print_kept : (limit : ℕ) (w : World) (h : Handle) (spec : LineSpec) → IsWorldKept limit w → is_there h w.groups ≡ true → w.next + 2 ≤ 2 ^ 62 + 1 → All IsUtf8 spec.tags → FitsSigned w8 spec.notify
    → IsWorldKept limit (record (with_lines w h (last_of w.limit (lines_at w h.0 ++ line_of (printed_at w h.0) w.next spec ∷ []))) { printed = insert w.printed h.0 (printed_at w h.0 + 1); next = w.next + 2 })
print_kept limit w h spec is there room tags level =
    let all = lines_at w h.0 ++ line_of (printed_at w h.0) w.next spec ∷ [] in
    let ms = last_of w.limit all in
    relined limit w (record (with_lines w h ms) { printed = insert w.printed h.0 (printed_at w h.0 + 1); next = w.next + 2 }) h.0 ms is refl (omega arith) room is.groups
    (all_grown w.next (w.next + 2) (omega arith) w.groups is.each)
    (put_at w h.0 ms)
    (subst (λ n. length ms ≤ n) is.same (last_within w.limit all))
    (All-drop IsPrinted (length all - w.limit) all (All-push IsPrinted (lines_at w h.0) (line_of (printed_at w h.0) w.next spec) (is.printed h.0) (line_printed (printed_at w h.0) w.next spec (omega arith) tags level)))
    (apart_printed w.next (w.next + 2) w.limit (line_of (printed_at w h.0) w.next spec) (lines_at w h.0) (is.apart h.0) (omega arith) (omega arith))
    (there_or_none w limit h.0 ms is there) (lists_kept w.next (w.next + 2) w.groups w.groups w.nicks (omega arith) (λ q. refl) is.nicks) is.counted

-- ---- another limit

limit_kept : (old limit : ℕ) (w : World) → IsWorldKept old w → IsWorldKept limit (with_limit limit w)
limit_kept old limit w is = record {
  same = refl;
  started = is.started;
  ended = is.ended;
  groups = is.groups;
  each = is.each;
  within = λ q. subst (λ ls. length ls ≤ limit) (sym (limited_at limit w q)) (last_within limit (lines_at w q));
  printed = λ q. subst (All IsPrinted) (sym (limited_at limit w q)) (All-drop IsPrinted (length (lines_at w q) - limit) (lines_at w q) (is.printed q));
  apart = λ q. subst (AreContentsApart w.next) (sym (limited_at limit w q)) (apart_drop w.next (length (lines_at w q) - limit) (lines_at w q) (is.apart q));
  none = λ q lacks. limited_at limit w q ∙ ap (last_of limit) (is.none q lacks) ∙ none_last limit;
  nicks = is.nicks;
  counted = is.counted;
}

-- ---- a new buffer

never_next : (next : ℕ) (xs : List BufferEntry) → AllByRecursion (IsBufferKept next) xs → in_group handle_of next xs ≡ false
never_next next [] a = refl
never_next next (x ∷ xs) a = let e : eqb (handle_of x) next ≡ false = (let b = a.0.below in grind (arith, nat_tests)) in rw e (never_next next xs a.1)

pub is_new : (limit : ℕ) (w : World) → IsWorldKept limit w → has handle_of w.next w.groups ≡ false
is_new limit w is = sym (in_rows handle_of w.next w.groups) ∙ never_next w.next (rows w.groups) is.each

add_kept : (limit : ℕ) (w : World) (spec : BufferSpec) → IsWorldKept limit w → add_refusal (new_row w.next spec) spec.vars w.groups ≡ None → w.next + 4 ≤ 2 ^ 62 + 1
    → IsTold (Add spec) → IsWorldKept limit (record w { groups = with_buffer (new_row w.next spec) spec.vars w.groups; lines = insert w.lines w.next []; printed = insert w.printed w.next 0; nicks = insert w.nicks w.next []; next = w.next + 4 })
unfolding add_refusal
add_kept limit w spec is good room told =
    let row = new_row w.next spec in
    let e = new_entry row spec.vars in
    let parts = or_none (add_refusal_so_far row spec.vars w.groups) (too_many_vars row.full_name spec.vars) good in
    let names = add_good row spec.vars w.groups parts.0 in
    let absent = has_handles w.next w.groups ∙ is_new limit w is in
    let fits = opened_fits row spec.vars (record { full_name = told.0; short_name = told.1; title = told.2 }) told.3 names.0 parts.1 in
    let new : IsBufferKept (w.next + 4) e = record { fit = fits; names = opened_short row spec.vars names.0; some = is.started; below = omega arith; own = omega arith; mixed = omega arith } in
    relined limit w (record w { groups = with_buffer row spec.vars w.groups; lines = insert w.lines w.next []; printed = insert w.printed w.next 0; nicks = insert w.nicks w.next []; next = w.next + 4 }) w.next [] is refl (omega arith) room
    (subst AreGroups (sym (map-append (map (λ (e : BufferEntry). e.row.handle)) w.groups ((e ∷ []) ∷ []))) (added_are row.handle (handles w.groups) is.groups absent (subst (λ n. n < 256) (sym (rows_handles w.groups)) names.2)))
    (added_rows (IsBufferKept (w.next + 4)) handle_of e w.groups new (all_grown w.next (w.next + 4) (omega arith) w.groups is.each))
    (put_at w w.next []) (omega arith) (All-nil IsPrinted) tt
    (λ q lacks. by q (eqb q w.next) (or_parts (has handle_of q w.groups) (has handle_of q ((e ∷ []) ∷ [])) (sym (list_any-append (in_group handle_of q) w.groups ((e ∷ []) ∷ [])) ∙ lacks)).0)
    (lists_added w.next w.next w.groups e w.nicks refl is.nicks) (count_added w.nicks w.next row_limit is.counted)
  where
    by : (q : ℕ) (b : Bool) → has handle_of q w.groups ≡ false → cond b [] (lines_at w q) ≡ []
    by q true lacks = refl
    by q false lacks = is.none q lacks

close_kept : (limit : ℕ) (w : World) (h : Handle) → IsWorldKept limit w → IsWorldKept limit (record w { groups = without_buffer h w.groups; lines = remove w.lines h.0; printed = remove w.printed h.0; nicks = remove w.nicks h.0 })
close_kept limit w h is =
    relined limit w (record w { groups = without_buffer h w.groups; lines = remove w.lines h.0; printed = remove w.printed h.0; nicks = remove w.nicks h.0 }) h.0 [] is refl (omega arith) is.ended
    (groups_taken h.0 w.groups is.groups) (taken_rows (IsBufferKept w.next) handle_of h.0 w.groups is.each)
    (removed_at w h.0) (omega arith) (All-nil IsPrinted) tt gone
    (lists_closed w.next h w.groups w.nicks is.nicks) (count_closed w.nicks h.0 row_limit is.counted)
  where
    by : (q : ℕ) (b : Bool) → eqb h.0 q ≡ b → has handle_of q (without_buffer h w.groups) ≡ false → cond b [] (lines_at w q) ≡ []
    by q true t lacks = refl
    by q false t lacks = is.none q (sym (has-take_out handle_of h.0 q w.groups ∙ ap (λ b. cond b false (has handle_of q w.groups)) t) ∙ lacks)

    gone : (q : ℕ) → has handle_of q (without_buffer h w.groups) ≡ false → cond (eqb q h.0) [] (lines_at w q) ≡ []
    gone q lacks = let turned : eqb q h.0 ≡ eqb h.0 q = turn q h.0 in rw turned (by q (eqb h.0 q) refl lacks)

-- ---- a nicklist

-- other rows of a buffer that is there
nicked : (limit : ℕ) (w : World) (h : Handle) (rows : List Row) (next : ℕ) → IsWorldKept limit w → no_buffer h w.groups ≡ None → w.next ≤ next → next ≤ 2 ^ 62 + 1 → AreRowsKept next rows
    → row_count w + length rows ≤ row_limit + length (rows_at w h.0) → IsWorldKept limit (record (with_rows w h rows) { next = next })
nicked limit w h rows next is there le ended new few = record {
  same = is.same;
  started = (let started = is.started in omega arith);
  ended = ended;
  groups = is.groups;
  each = all_grown w.next next le w.groups is.each;
  within = is.within;
  printed = is.printed;
  apart = λ q. apart_more w.next next (lines_at w q) (omega arith) (is.apart q);
  none = is.none;
  nicks = lists_put w.next next h.0 w.groups rows w.nicks le (there_good h w.groups there) new is.nicks;
  counted = count_put w.nicks h.0 row_limit rows few;
}

row_added : (limit : ℕ) (w : World) (h : Handle) (g : Bool) (parent : List ℕ) (item : Item) → IsWorldKept limit w → IsUtf8 item.name → adds_row w h g parent item ≡ None → IsWorldKept limit (with_row w h g parent item)
row_added limit w h g parent item is utf8 good =
    let may = may_add w h g parent item good in
    let old = rows_at w h.0 in
    let new = add_row g parent (item_with (record { 0 = w.next }) item) old in
    let room = may.room in
    let few : length old ≤ row_count w = rows_few w.nicks h.0 in
    let size : length new ≡ length old + 1 = length-added g parent (item_with (record { 0 = w.next }) item) old may.free in
    nicked limit w h new (w.next + 1) is may.there (omega arith) may.left (rows_added w.next g parent item old may.free utf8 (omega (arith, room, few)) (is.nicks.rows h.0)) (omega (arith, room, size))

row_removed : (limit : ℕ) (w : World) (h : Handle) (g : Bool) (name : List ℕ) → IsWorldKept limit w → removes_row w h g name ≡ None → IsWorldKept limit (without_row w h g name)
row_removed limit w h g name is good =
    let may = may_edit w h (remove_refusal g name (rows_at w h.0)) good in
    let old = rows_at w h.0 in
    let kept = is.nicks.rows h.0 in
    let counted = is.counted in
    nicked limit w h (remove_row (key_at g name) old) w.next is may.there (omega arith) is.ended (rows_removed w.next g name old may.free kept) (omega (arith, counted, length-removed g name old may.free kept.held))

row_changed : (limit : ℕ) (w : World) (h : Handle) (g : Bool) (item : Item) → IsWorldKept limit w → IsUtf8 item.name → changes_row w h g item ≡ None → IsWorldKept limit (with_changed_row w h (key_at g item.name) item)
row_changed limit w h g item is utf8 good =
    let may = may_edit w h (change_refusal g item.name (rows_at w h.0)) good in
    let old = rows_at w h.0 in
    let k = key_at g item.name in
    let new = item_with (handle_in (find_row k old)) item in
    let counted = is.counted in
    nicked limit w h (change_row k new old) w.next is may.there (omega arith) is.ended (rows_changed w.next k item old utf8 (is.nicks.rows h.0)) (omega (arith, counted, length-change_row k new old))

-- ---- any change

-- the limit of lines after a change
abbrev pub limit_after : ℕ → What → ℕ
limit_after limit (Limit other) = other
limit_after limit _ = limit

pub after_kept : (limit : ℕ) (w : World) (h : Handle) (a : What) → IsWorldKept limit w → IsTold a → refusal_of w h a ≡ None → IsWorldKept (limit_after limit a) (after_of w h a)
unfolding refusal_of after_of
after_kept limit w h (Add spec) is told good =
    let both = both_accepted _ _ good in
    add_kept limit w spec is (accepted _ both.0) (unspent 4 w both.1) told
after_kept limit w h Close is told good = close_kept limit w h is
after_kept limit w h (MoveTo n) is told good =
    let there = (move_good h n w.groups (accepted _ good)).0 in
    regrouped limit w (move_group_to h n w.groups) is (groups_moved h.0 (n - 1) w.groups there is.groups) (moved_rows (IsBufferKept w.next) handle_of h.0 (n - 1) w.groups is.each) (λ q. has-move handle_of h.0 (n - 1) q w.groups)
after_kept limit w h (MergeInto into) is told good =
    let g = merge_good h into w.groups (accepted _ good) in
    let apart = merged_apart handle_of h.0 into.0 w.groups g.0 g.2 in
    regrouped limit w (merge_groups h into w.groups) is (groups_merged h into w.groups g.0 g.1 apart is.groups) (merged_rows (IsBufferKept w.next) handle_of h.0 into.0 w.groups is.each) (λ q. has-merge handle_of h.0 into.0 q w.groups g.1 apart)
after_kept limit w h Unmerge is told good =
    let g = unmerge_good h w.groups (accepted _ good) in
    regrouped limit w (unmerge_group h w.groups) is (groups_unmerged h w.groups g.0 g.1 is.groups) (unmerged_rows (IsBufferKept w.next) handle_of h.0 w.groups is.each) (λ q. has-unmerge handle_of h.0 q w.groups)
after_kept limit w h Hide is told good = rewritten limit w h (with_hidden true) is (there_good h w.groups (accepted _ good)) (λ x. refl) (λ x. refl) (λ x. refl) (λ e at fit. hidden_fits true e fit) (λ e short. short)
after_kept limit w h Unhide is told good = rewritten limit w h (with_hidden false) is (there_good h w.groups (accepted _ good)) (λ x. refl) (λ x. refl) (λ x. refl) (λ e at fit. hidden_fits false e fit) (λ e short. short)
after_kept limit w h (Rename name flips) is told good =
    let g = rename_good h name w.groups (accepted _ (both_accepted _ _ good).0) in
    let v = with_groups w (with_entry h (with_full_name name) w.groups) in
    flipped limit v flips (rewritten limit w h (with_full_name name) is g.0 (λ x. refl) (λ x. refl) (λ x. refl) (λ e at fit. full_name_fits name e g.1 told fit) (λ e short. short_fixed name e.vars short))
after_kept limit w h (ShortName name) is told good =
    let g = short_name_good h name w.groups (accepted _ good) in
    rewritten limit w h (with_short_name name) is g.0 (λ x. refl) (λ x. refl) (λ x. refl) (λ e at fit. short_name_fits name e g.1 told fit) (λ e short. short)
after_kept limit w h (Title title) is told good =
    rewritten limit w h (with_title (cut_to 1024 title)) is (there_good h w.groups (accepted _ good)) (λ x. refl) (λ x. refl) (λ x. refl) (λ e at fit. title_fits (cut_to 1024 title) e (cut_short title) (cut_is_utf8 title) fit) (λ e short. short)
after_kept limit w h (SetVar var) is told good =
    let g = set_var_good h var.name w.groups (accepted _ good) in
    rewritten limit w h (with_var var.name var.value) is g.0 (λ x. refl) (λ x. refl) (λ x. refl)
    (λ e at fit. var_fits var.name var.value e g.1 (subst (λ o. (lacks_var var.name o && is_full o) ≡ false) at g.2) told fit)
    (λ e short. short_set (cut_var var.name var.value) e.vars (set_name_short h var.name w.groups (accepted _ good)) short)
after_kept limit w h (RemoveVar name) is told good =
    let g = remove_var_good h name w.groups (accepted _ good) in
    rewritten limit w h (without_var name) is g.0 (λ x. refl) (λ x. refl) (λ x. refl) (λ e at fit. removed_fits name e g.1 fit) (λ e short. short_removed name e.vars short)
after_kept limit w h (Print line) is told good =
    let both = both_accepted _ _ good in
    print_kept limit w h line is (there_good h w.groups (accepted _ both.0)) (unspent 2 w both.1) told.0 told.1
after_kept limit w h Clear is told good =
    relined limit w (with_lines w h []) h.0 [] is refl (omega arith) is.ended is.groups is.each (put_at w h.0 []) (omega arith) (All-nil IsPrinted) tt
    (there_or_none w limit h.0 [] is (there_good h w.groups (accepted _ good))) is.nicks is.counted
after_kept limit w h (Flips flips) is told good = flipped limit w flips is
after_kept limit w h (AddGroup parent item) is told good = row_added limit w h true parent item is told good
after_kept limit w h (AddNick group item) is told good = row_added limit w h false group item is told good
after_kept limit w h (RemoveGroup name) is told good = row_removed limit w h true name is good
after_kept limit w h (RemoveNick name) is told good = row_removed limit w h false name is good
after_kept limit w h (ChangeGroup item) is told good = row_changed limit w h true item is told good
after_kept limit w h (ChangeNick item) is told good = row_changed limit w h false item is told good
after_kept limit w h (Limit other) is told good = limit_kept limit other w is

-- a limit of lines stays below the greatest
pub limit_most : (limit : ℕ) (a : What) → IsTold a → limit ≤ 4096 → limit_after limit a ≤ 4096
limit_most limit (Limit other) told most = told.1
limit_most limit _ told most = most

same_kept : (w : World) (gs : EntryGroups) (lists : Told) → ((q : ℕ) → has handle_of q gs ≡ has handle_of q w.groups) → AreListsKept w.next w.groups lists → AreListsKept w.next gs lists
same_kept w gs lists same kept = lists_kept w.next w.next w.groups gs lists (omega arith) same kept

entry_kept : (w : World) (h : Handle) (F : BufferEntry → BufferEntry) (lists : Told) → ((x : BufferEntry) → handle_of (F x) ≡ handle_of x) → AreListsKept w.next w.groups lists → AreListsKept w.next (with_entry h F w.groups) lists
entry_kept w h F lists same kept = same_kept w (with_entry h F w.groups) lists (λ q. has-update handle_of h.0 F same q w.groups) kept

-- the rows that were told keep their limits too
pub told_kept : (limit : ℕ) (w : World) (h : Handle) (a : What) (told : Told) → IsWorldKept limit w → IsTold a → refusal_of w h a ≡ None → AreListsKept w.next w.groups told
    → AreListsKept (after_of w h a).next (after_of w h a).groups (told_after w h a told)
unfolding refusal_of after_of
told_kept limit w h (Add spec) lists is told good kept = lists_added w.next w.next w.groups (new_entry (new_row w.next spec) spec.vars) lists refl kept
told_kept limit w h Close lists is told good kept = lists_closed w.next h w.groups lists kept
told_kept limit w h (MoveTo n) lists is told good kept = same_kept w (move_group_to h n w.groups) lists (λ q. has-move handle_of h.0 (n - 1) q w.groups) kept
told_kept limit w h (MergeInto into) lists is told good kept =
    let g = merge_good h into w.groups (accepted _ good) in
    let apart = merged_apart handle_of h.0 into.0 w.groups g.0 g.2 in
    same_kept w (merge_groups h into w.groups) lists (λ q. has-merge handle_of h.0 into.0 q w.groups g.1 apart) kept
told_kept limit w h Unmerge lists is told good kept = same_kept w (unmerge_group h w.groups) lists (λ q. has-unmerge handle_of h.0 q w.groups) kept
told_kept limit w h Hide lists is told good kept = entry_kept w h (with_hidden true) lists (λ x. refl) kept
told_kept limit w h Unhide lists is told good kept = entry_kept w h (with_hidden false) lists (λ x. refl) kept
told_kept limit w h (Rename name flips) lists is told good kept = entry_kept w h (with_full_name name) lists (λ x. refl) kept
told_kept limit w h (ShortName name) lists is told good kept = entry_kept w h (with_short_name name) lists (λ x. refl) kept
told_kept limit w h (Title title) lists is told good kept = entry_kept w h (with_title (cut_to 1024 title)) lists (λ x. refl) kept
told_kept limit w h (SetVar var) lists is told good kept = entry_kept w h (with_var var.name var.value) lists (λ x. refl) kept
told_kept limit w h (RemoveVar name) lists is told good kept = entry_kept w h (without_var name) lists (λ x. refl) kept
told_kept limit w h (Print line) lists is told good kept = lists_kept w.next (w.next + 2) w.groups w.groups lists (omega arith) (λ q. refl) kept
told_kept limit w h Clear lists is told good kept = kept
told_kept limit w h (Flips flips) lists is told good kept = kept
told_kept limit w h (AddGroup parent item) lists is told good kept = lists_kept w.next (w.next + 1) w.groups w.groups lists (omega arith) (λ q. refl) kept
told_kept limit w h (AddNick group item) lists is told good kept = lists_kept w.next (w.next + 1) w.groups w.groups lists (omega arith) (λ q. refl) kept
told_kept limit w h (RemoveGroup name) lists is told good kept = kept
told_kept limit w h (RemoveNick name) lists is told good kept = kept
told_kept limit w h (ChangeGroup item) lists is told good kept = kept
told_kept limit w h (ChangeNick item) lists is told good kept = kept
told_kept limit w h (Limit other) lists is told good kept = kept

-- ---- the start

pub no_lines : (limit q : ℕ) → lines_at (first_world limit) q ≡ []
no_lines limit q = ap (λ o. unwrap_or o []) (get-insert nat_cmp_total empty 1 [] q ∙ ap (cond (eq_by_cmp nat_cmp q 1) (Some [])) (get-empty nat_cmp q)) ∙ by (eq_by_cmp nat_cmp q 1) where
  by : (b : Bool) → unwrap_or (cond b (Some []) None) [] ≡ no_line_list
  by true = refl
  by false = refl

core_names : bad_names core_row [] ≡ None
unfolding bad_names
core_names = refl

core_vars : too_many_vars core_row.full_name [] ≡ None
unfolding too_many_vars vars_of
core_vars = refl

-- the core buffer has a nicklist without rows
pub first_lists : AreListsKept 5 (with_buffer core_row [] []) (insert empty 1 [])
first_lists = lists_added 1 1 [] (new_entry core_row []) empty refl (no_lists 1)

pub first_kept : (limit : ℕ) → IsWorldKept limit (first_world limit)
first_kept limit =
    let nobody : AreGroups [] = record { once = λ h. omega arith; filled = tt; few = omega arith } in
    let fits = opened_fits core_row [] core_text (All-nil IsText) core_names core_vars in
    record {
      same = refl;
      started = omega arith;
      ended = omega arith;
      groups = added_are core_row.handle [] nobody refl (omega arith);
      each = (record { fit = fits; names = opened_short core_row [] core_names; some = omega arith; below = omega arith; own = omega arith; mixed = omega arith }, tt);
      within = λ q. subst (λ ls. length ls ≤ limit) (sym (no_lines limit q)) (omega arith);
      printed = λ q. subst (All IsPrinted) (sym (no_lines limit q)) (All-nil IsPrinted);
      apart = λ q. subst (AreContentsApart 5) (sym (no_lines limit q)) tt;
      none = λ q lacks. no_lines limit q;
      nicks = first_lists;
      counted = count_added empty 1 row_limit (let none = none_counted in omega arith);
    }
