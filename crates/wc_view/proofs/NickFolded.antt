-- What messages make of the nicklists.
use Rattle.std.proofs.Common.{◌≡◌, ℕ, ◌<◌, ◌≤◌, Bool, true, false, cond, Option, Some, None, List, [], ◌∷◌, ◌++◌, length, map, refl, sym, ap, ◌∙◌, subst, arith}
use Rattle.std.specs.Prelude.{Result, Ok, Err, option_map, is_some}
use Rattle.std.specs.FinMap.{get, insert}
use Rattle.std.proofs.lemmas.Bool.{true≢false}
use Rattle.std.proofs.lemmas.List.{append-nil}
use Rattle.wc_nicklist.specs.declared.item.Row.{Row}
use Rattle.wc_nickdiff.specs.declared.diff_item.DiffItem.{DiffItem}
use Rattle.wc_nickdiff.specs.Apply.{applied_all, AreUtf8}
use Rattle.wc_objects.specs.Forms.{well_formed}
use Rattle.wc_objects.specs.declared.object.Object.{Object}
use Rattle.wc_view.specs.declared.nick_rows.NickRow.{NickRow}
use Rattle.wc_view.specs.declared.nick_rows.NickChange.{NickChange}
use Rattle.wc_view.specs.Each.{onto, each, only, following}
use Rattle.wc_view.specs.NickEntries.{NickEntry, nicks_at}
use Rattle.wc_view.specs.NickFold.{NickPart, rows_listed, part_listed, new_or, listed_or, are_of, put_rows, with_full, with_full_told, changes_are_of, put_applied, apply_to, with_diff, with_diff_told, some_part, with_opened}
use Rattle.wc_view.specs.NickGroups.{Group, with_item, by_buffer, entry_listed, GroupsAreUtf8}
use Rattle.wc_view.specs.NickLists.{ItemsAreUtf8}
use Rattle.wc_view.specs.NickRows.{nick_rows_on, nick_changes_on}
use Rattle.wc_view.specs.NickSteps.{buffer_of, put_new}
use Rattle.wc_view.specs.declared.told_buffer.ToldBuffer.{ToldBuffer}
use Rattle.wc_view.specs.Grouped.{key_of}
use Rattle.wc_view.proofs.EachLemmas.{after_onto}
use Rattle.wc_view.proofs.EntryLemmas.{by_bool}
use Rattle.wc_view.proofs.NickGroups.{one_group, more_groups, groups_utf8}
use Rattle.wc_view.proofs.NickTexts.{rows_utf8, changes_utf8}
use Rattle.wc_view.proofs.NickDumped.{part_by_groups}

-- ---- the lists of groups
abbrev pub Lists : List NickEntry → List Group → Option (List NickEntry) → Type 0
Lists front left all = following front (each entry_listed left) ≡ all

pub list_more : (front : List NickEntry) (left rest : List Group) (group : Group) (all : Option (List NickEntry)) (entry : NickEntry)
    → Lists front left all → left ≡ group ∷ rest → Some entry ≡ entry_listed group → Lists (front ++ entry ∷ []) rest all
list_more front left rest group all entry h e l =
    after_onto front entry (each entry_listed rest)
    ∙ ap (λ o. following front (onto o (each entry_listed rest))) l
    ∙ ap (λ z. following front (each entry_listed z)) (sym e) ∙ h

nothing_after : (front : List NickEntry) (rest : Option (List NickEntry)) → following front (onto None rest) ≡ None
nothing_after front rest = refl

pub list_none : (front : List NickEntry) (left rest : List Group) (group : Group) (all : Option (List NickEntry))
    → Lists front left all → left ≡ group ∷ rest → None ≡ entry_listed group → None ≡ all
list_none front left rest group all h e l =
    sym (ap (λ z. following front (each entry_listed z)) e
    ∙ ap (λ o. following front (onto o (each entry_listed rest))) (sym l)
    ∙ nothing_after front (each entry_listed rest)) ∙ h

pub list_all : (front : List NickEntry) (left : List Group) (all : Option (List NickEntry)) → Lists front left all → left ≡ [] → Some front ≡ all
list_all front left all h e = sym (ap (λ z. following front (each entry_listed z)) e ∙ ap Some (append-nil front)) ∙ h

pub group_utf8 : (left rest : List Group) (group : Group) → left ≡ group ∷ rest → GroupsAreUtf8 left → ItemsAreUtf8 group.1
group_utf8 left rest group e h = (subst GroupsAreUtf8 e h).0

pub rest_utf8 : (left rest : List Group) (group : Group) → left ≡ group ∷ rest → GroupsAreUtf8 left → GroupsAreUtf8 rest
rest_utf8 left rest group e h = (subst GroupsAreUtf8 e h).1

-- ---- the dump
abbrev Told : Type 0
Told = Option (List NickRow)

pub dump_nothing : (told : Told) (part : Option NickPart) → None ≡ told → part ≡ listed_or part told
dump_nothing told part e = ap (listed_or part) e

pub dump_all : (told : Told) (rows : List NickRow) (es : List NickEntry) (part : Option NickPart) → Some rows ≡ told → Some es ≡ each entry_listed (by_buffer rows)
    → Some (nicks_at es) ≡ listed_or part told
dump_all told rows es part t e = ap (new_or part) (ap (option_map nicks_at) e ∙ part_by_groups rows) ∙ ap (listed_or part) t

pub dump_refused : (told : Told) (rows : List NickRow) (part : Option NickPart) → Some rows ≡ told → None ≡ each entry_listed (by_buffer rows) → part ≡ listed_or part told
dump_refused told rows part t e = ap (new_or part) (ap (option_map nicks_at) e ∙ part_by_groups rows) ∙ ap (listed_or part) t

-- ---- full lists
only_more : (gs : List Group) → 2 ≤ length gs → only gs ≡ None
only_more [] l = absurd (omega arith)
only_more (g ∷ []) l = absurd (omega arith)
only_more (g ∷ h ∷ gs) l = refl

in_part : Option Group → NickPart → NickPart
in_part None part = part
in_part (Some g) part = put_rows g.0 (rows_listed g.1) part

by_groups : (rows : List NickRow) (part : NickPart) → in_part (only (by_buffer rows)) part ≡ with_full rows part
unfolding with_full in_part
by_groups [] part = refl
by_groups (row ∷ rows) part = by_bool (are_of row.buffer rows) _
    (λ t. rw t (ap (λ gs. in_part (only gs) part) (one_group row.buffer (row.item ∷ []) rows t)))
    (λ t. rw t (ap (λ o. in_part o part) (only_more (by_buffer (row ∷ rows)) (more_groups row.buffer (row.item ∷ []) rows t))))

pub full_nothing : (told : Told) (part : Option NickPart) → None ≡ told → part ≡ option_map (with_full_told told) part
full_nothing told None e = refl
full_nothing told (Some part) e = ap (λ t. Some (with_full_told t part)) e

pub full_other : (told : Told) (rows : List NickRow) (part : Option NickPart) → Some rows ≡ told → None ≡ only (by_buffer rows) → part ≡ option_map (with_full_told told) part
unfolding in_part
full_other told rows None t e = refl
full_other told rows (Some part) t e = ap Some (ap (λ o. in_part o part) e ∙ by_groups rows part) ∙ ap (λ z. Some (with_full_told z part)) t

in_entry : Option NickEntry → NickPart → NickPart
in_entry None part = part
in_entry (Some entry) part = put_rows entry.0 (Some entry.1) part

of_entry : (group : Group) (o : Option (List Row)) (part : NickPart) → in_entry (option_map (λ rows. (group.0, rows)) o) part ≡ put_rows group.0 o part
unfolding in_entry
of_entry group None part = refl
of_entry group (Some rows) part = refl

pub full_list : (told : Told) (rows : List NickRow) (group : Group) (entry : NickEntry) (part : Option NickPart) → Some rows ≡ told → Some group ≡ only (by_buffer rows)
    → Some entry ≡ entry_listed group → option_map (put_rows entry.0 (Some entry.1)) part ≡ option_map (with_full_told told) part
unfolding in_part in_entry
full_list told rows group entry None t e l = refl
full_list told rows group entry (Some part) t e l =
    ap (λ o. Some (in_entry o part)) l ∙ ap Some (of_entry group (rows_listed group.1) part)
    ∙ ap Some (ap (λ o. in_part o part) e ∙ by_groups rows part) ∙ ap (λ z. Some (with_full_told z part)) t

pub full_refused : (told : Told) (rows : List NickRow) (group : Group) (part : Option NickPart) → Some rows ≡ told → Some group ≡ only (by_buffer rows)
    → None ≡ entry_listed group → part ≡ option_map (with_full_told told) part
unfolding in_part in_entry
full_refused told rows group None t e l = refl
full_refused told rows group (Some part) t e l =
    ap (λ o. Some (in_entry o part)) l ∙ ap Some (of_entry group (rows_listed group.1) part)
    ∙ ap Some (ap (λ o. in_part o part) e ∙ by_groups rows part) ∙ ap (λ z. Some (with_full_told z part)) t

pub one_utf8 : (gs : List Group) (group : Group) → Some group ≡ only gs → GroupsAreUtf8 gs → ItemsAreUtf8 group.1
one_utf8 [] group e h = absurd cc
one_utf8 (g ∷ []) group e h = let same : g ≡ group = cc in subst (λ (z : Group). ItemsAreUtf8 z.1) same h.0
one_utf8 (g ∷ k ∷ gs) group e h = absurd cc

-- ---- texts
pub told_groups_utf8 : (objects : List Object) (rows : List NickRow) (groups : List Group) → well_formed objects ≡ true → Some rows ≡ nick_rows_on objects → groups ≡ by_buffer rows → GroupsAreUtf8 groups
told_groups_utf8 objects rows groups w e g = subst GroupsAreUtf8 (sym g) (groups_utf8 rows (rows_utf8 objects rows w (sym e)))

pub told_group_utf8 : (objects : List Object) (rows : List NickRow) (groups : List Group) (group : Group) → well_formed objects ≡ true → Some rows ≡ nick_rows_on objects
    → groups ≡ by_buffer rows → Some group ≡ only groups → ItemsAreUtf8 group.1
told_group_utf8 objects rows groups group w e g o = one_utf8 groups group o (told_groups_utf8 objects rows groups w e g)

pub told_diff_utf8 : (objects : List Object) (changes : List NickChange) (items : List DiffItem) → well_formed objects ≡ true → Some changes ≡ nick_changes_on objects
    → items ≡ map (λ (change : NickChange). change.diff) changes → AreUtf8 items
told_diff_utf8 objects changes items w e i = subst AreUtf8 (sym i) (changes_utf8 objects changes w (sym e))

-- ---- diffs
abbrev Changes : Type 0
Changes = Option (List NickChange)

abbrev diffs : List NickChange → List DiffItem
diffs changes = map (λ (change : NickChange). change.diff) changes

diff_parted : (changes : List NickChange) (part : NickPart) → None ≡ buffer_of changes → with_diff changes part ≡ Ok part
unfolding with_diff
diff_parted [] part e = refl
diff_parted (change ∷ changes) part e = by_bool (changes_are_of change.buffer changes) _
    (λ t. absurd (let z = e in let y : None ≡ Some change.buffer = rw t at z in cc))
    (λ t. rw t refl)

diff_of_one : (changes : List NickChange) (part : NickPart) (buffer : ℕ) → Some buffer ≡ buffer_of changes → with_diff changes part ≡ apply_to buffer (diffs changes) part (get part buffer)
unfolding with_diff
diff_of_one [] part buffer e = absurd cc
diff_of_one (change ∷ changes) part buffer e = by_bool (changes_are_of change.buffer changes) _
    (λ t.
    let y : Some buffer ≡ Some change.buffer = (let z = e in rw t at z) in
    let same : change.buffer ≡ buffer = cc in
    rw t (ap (λ b. apply_to b (diffs (change ∷ changes)) part (get part b)) same))
    (λ t. absurd (let z = e in let y : Some buffer ≡ None = rw t at z in cc))

pub diff_nothing : (told : Changes) (part : NickPart) → None ≡ told → some_part (with_diff_told told part) ≡ Ok (Some part)
diff_nothing told part e = ap (λ t. some_part (with_diff_told t part)) (sym e)

pub diff_other : (told : Changes) (changes : List NickChange) (part : NickPart) → Some changes ≡ told → None ≡ buffer_of changes → some_part (with_diff_told told part) ≡ Ok (Some part)
diff_other told changes part t e = ap (λ z. some_part (with_diff_told z part)) (sym t) ∙ ap some_part (diff_parted changes part e)

pub diff_unknown : (told : Changes) (changes : List NickChange) (part : NickPart) (buffer : ℕ) → Some changes ≡ told → Some buffer ≡ buffer_of changes → None ≡ get part buffer
    → some_part (with_diff_told told part) ≡ Ok (Some part)
diff_unknown told changes part buffer t e g =
    ap (λ z. some_part (with_diff_told z part)) (sym t) ∙ ap some_part (diff_of_one changes part buffer e)
    ∙ ap (λ o. some_part (apply_to buffer (diffs changes) part o)) (sym g)

pub diff_done : (told : Changes) (changes : List NickChange) (part : NickPart) (buffer : ℕ) (rows new : List Row) (items : List DiffItem)
    → Some changes ≡ told → Some buffer ≡ buffer_of changes → Some rows ≡ get part buffer → items ≡ diffs changes → applied_all items rows ≡ Ok new
    → some_part (with_diff_told told part) ≡ Ok (Some (put_rows buffer (Some new) part))
diff_done told changes part buffer rows new items t e g i a =
    ap (λ z. some_part (with_diff_told z part)) (sym t) ∙ ap some_part (diff_of_one changes part buffer e)
    ∙ ap (λ o. some_part (apply_to buffer (diffs changes) part o)) (sym g)
    ∙ ap (λ z. some_part (put_applied buffer part z)) (ap (λ z. applied_all z rows) (sym i) ∙ a)
    ∙ ap (λ o. Ok (Some (cond (is_some o) (insert part buffer new) part))) g

pub diff_refused : (told : Changes) (changes : List NickChange) (part : NickPart) (buffer : ℕ) (rows : List Row) (items : List DiffItem) (place : ℕ)
    → Some changes ≡ told → Some buffer ≡ buffer_of changes → Some rows ≡ get part buffer → items ≡ diffs changes → applied_all items rows ≡ Err place
    → some_part (with_diff_told told part) ≡ Err place
diff_refused told changes part buffer rows items place t e g i a =
    ap (λ z. some_part (with_diff_told z part)) (sym t) ∙ ap some_part (diff_of_one changes part buffer e)
    ∙ ap (λ o. some_part (apply_to buffer (diffs changes) part o)) (sym g)
    ∙ ap (λ z. some_part (put_applied buffer part z)) (ap (λ z. applied_all z rows) (sym i) ∙ a)

-- ---- buffers that come
pub opened_none : (told : Option ToldBuffer) (part : Option NickPart) → None ≡ option_map (λ (told : ToldBuffer). key_of told.buffer) told → part ≡ option_map (with_opened told) part
opened_none None None e = refl
opened_none None (Some part) e = refl
opened_none (Some told) part e = absurd cc

pub opened_some : (told : Option ToldBuffer) (buffer : ℕ) (part : Option NickPart) → Some buffer ≡ option_map (λ (told : ToldBuffer). key_of told.buffer) told
    → option_map (put_new (buffer, [])) part ≡ option_map (with_opened told) part
opened_some None buffer part e = absurd cc
opened_some (Some told) buffer part e = let same : buffer ≡ key_of told.buffer = cc in ap (λ b. option_map (put_new (b, [])) part) same

-- what `opened_step` needs
pub ruleset opened_step_facts = (opened_none, opened_some)

-- what `lists_of` needs
pub ruleset lists_of_facts = (list_none, list_all, group_utf8)

-- what `dump_step` needs
pub ruleset dump_step_facts = (dump_nothing, dump_all, dump_refused, told_groups_utf8)

-- what `full_step` needs
pub ruleset full_step_facts = (full_nothing, full_other, full_list, full_refused, told_group_utf8)

-- what `diff_step` needs
pub ruleset diff_step_facts = (diff_nothing, diff_other, diff_unknown, diff_done, diff_refused, told_diff_utf8)
