-- What is noticed of a change is within its limits.
use Rattle.std.proofs.Common.{◌≡◌, ℕ, ◌+◌, ◌-◌, ◌<◌, ◌≤◌, ◌^◌, Bool, true, false, cond, eqb, eqb-true, find, List, [], ◌∷◌, ◌++◌, map, filter, length, Option, Some, None, option_map, refl, sym, subst, arith, IsUtf8}
use Rattle.std.specs.List.{AllByRecursion, flat_map}
use Rattle.std.proofs.lemmas.Str.{IsUtf8-nil}
use Rattle.wc_text.specs.declared.names.Handle.{Handle}
use Rattle.wc_lines.specs.declared.line.Line.{Line}
use Rattle.wc_buffers.specs.declared.row.BufferEntry.{BufferEntry}
use Rattle.wc_buffers.specs.Calls.{handle_of, is_there, entry_of}
use Rattle.wc_buffers.specs.Groups.{rows, has}
use Rattle.wc_buffers.proofs.RefusalLemmas.{there_good, close_good, move_good, merge_good, unmerge_good, rename_good, short_name_good, set_var_good, remove_var_good}
use Rattle.wc_nicklist.specs.Calls.{remove_refusal, change_refusal}
use Rattle.wc_world.specs.Kept.{AreContentsApart}
use Rattle.wc_world.proofs.GroupRows.{some_row}
use Rattle.wc_world.proofs.NicksDone.{may_add, may_edit}
use Rattle.wc_model.specs.declared.change.What.{What}
use Rattle.wc_model.specs.declared.change.What.TheVariants.{Add, Close, MoveTo, MergeInto, Unmerge, Hide, Unhide, Rename, ShortName, Title, SetVar, RemoveVar, Print, Clear, Flips, AddGroup, AddNick, RemoveGroup, RemoveNick, ChangeGroup, ChangeNick, Limit}
use Rattle.wc_model.specs.declared.notice.EventKind.{EventKind}
use Rattle.wc_model.specs.declared.notice.Notice.{Notice}
use Rattle.wc_model.specs.World.{World, lines_at, rows_at}
use Rattle.wc_model.specs.Order.{before_in, first_of, after_in, order}
use Rattle.wc_model.specs.Apply.{refusal_of, after_of}
use Rattle.wc_model.specs.declared.notice.Trim.{Trim}
use Rattle.wc_model.specs.Notices.{notice_with, notice_at, notice_of, name_in, trim_of, trim_to}
use Rattle.wc_model.specs.Parts.{has_flips, flag_part, flag_parts, trim_part, parts_of}
use Rattle.wc_view.specs.Views.{ContentsDiffer, IsMirrorable}
use Rattle.wc_mirror_laws.specs.Worlds.{IsBufferKept, IsWorldKept}
use Rattle.wc_mirror_laws.proofs.ListLemmas.{all_append, all_filter, all_map, all_flat}
use Rattle.wc_mirror_laws.proofs.RowLemmas.{row_has}
use Rattle.wc_mirror_laws.specs.Changes.{IsTold}
use Rattle.wc_mirror_laws.proofs.WorldLemmas.{once, accepted, both_accepted, after_kept}

-- a handle of 64 bits, and no more lines than a buffer may have held
pub record IsTrimTold (trim : Trim) : Type 0 where
  pub buffer : trim.buffer.0 < 2 ^ 64
  pub count : trim.count ≤ 4097

-- handles of 64 bits, a full name, and the lines that went
pub record IsTelling (n : Notice) : Type 0 where
  pub buffer : n.buffer.0 < 2 ^ 64
  pub name : IsUtf8 n.full_name
  pub short : length n.full_name ≤ 256
  pub prev : n.prev.0 < 2 ^ 64
  pub next : n.next.0 < 2 ^ 64
  pub trims : AllByRecursion IsTrimTold n.trims

-- ---- the buffers before and after

abbrev AreSmall : List ℕ → Type 0
AreSmall ns = AllByRecursion (λ n. n < 2 ^ 64) ns

before_small : (before n : ℕ) (ms : List ℕ) → before < 2 ^ 64 → AreSmall ms → before_in before n ms < 2 ^ 64
before_small before n [] small all = omega arith
before_small before n (m ∷ ms) small all = by (eqb m n) (before_small m n ms all.0 all.1) where
  by : (b : Bool) → before_in m n ms < 2 ^ 64 → cond b before (before_in m n ms) < 2 ^ 64
  by true rest = small
  by false rest = rest

first_small : (ms : List ℕ) → AreSmall ms → first_of ms < 2 ^ 64
first_small [] all = omega arith
first_small (m ∷ ms) all = all.0

after_small : (n : ℕ) (ms : List ℕ) → AreSmall ms → after_in n ms < 2 ^ 64
after_small n [] all = omega arith
after_small n (m ∷ ms) all = by (eqb m n) (after_small n ms all.1) where
  by : (b : Bool) → after_in n ms < 2 ^ 64 → cond b (first_of ms) (after_in n ms) < 2 ^ 64
  by true rest = first_small ms all.1
  by false rest = rest

order_small : (limit : ℕ) (v : World) → IsWorldKept limit v → AreSmall (order v.groups)
order_small limit v is = all_map (IsBufferKept v.next) (λ n. n < 2 ^ 64) handle_of (rows v.groups) (λ e kept. (let b = kept.below in let ended = is.ended in omega arith)) is.each

-- ---- a notice

named : (limit : ℕ) (v : World) (o : Option BufferEntry) → ((e : BufferEntry) → o ≡ Some e → IsBufferKept v.next e)
    → IsUtf8 (name_in (option_map (λ (e : BufferEntry). e.row) o)) × (length (name_in (option_map (λ (e : BufferEntry). e.row) o)) ≤ 256)
named limit v None is = (IsUtf8-nil, omega arith)
named limit v (Some e) is = let kept = is e refl in (kept.fit.text.full_name, kept.fit.full_name.1)

telling_with : (limit : ℕ) (v : World) (kind : EventKind) (h : Handle) (lines flips : List Handle) (trims : List Trim) → IsWorldKept limit v → h.0 < 2 ^ 64 → AllByRecursion IsTrimTold trims
    → IsTelling (notice_with kind h v.groups lines flips trims)
telling_with limit v kind h lines flips trims is small trimmed =
    let name = named limit v (entry_of h v.groups) (λ e at. row_has (IsBufferKept v.next) handle_of h.0 (rows v.groups) e at is.each) in
    let all = order_small limit v is in
    record {
      buffer = small;
      name = name.0;
      short = name.1;
      prev = before_small 0 h.0 (order v.groups) (omega arith) all;
      next = after_small h.0 (order v.groups) all;
      trims = trimmed;
    }

telling_at : (limit : ℕ) (v : World) (kind : EventKind) (h : Handle) (lines flips : List Handle) → IsWorldKept limit v → h.0 < 2 ^ 64 → IsTelling (notice_at kind h v.groups lines flips)
telling_at limit v kind h lines flips is small = telling_with limit v kind h lines flips [] is small tt

-- ---- the lines that went

one_trim : (h : Handle) (count : ℕ) → h.0 < 2 ^ 64 → count ≤ 4097 → AllByRecursion IsTrimTold (trim_of h count)
one_trim h count small few = by (eqb count 0) where
  by : (b : Bool) → AllByRecursion IsTrimTold (cond b [] (record { buffer = h; count = count } ∷ []))
  by true = tt
  by false = (record { buffer = small; count = few }, tt)

limit_trims : (limit other : ℕ) (w : World) → limit ≤ 4096 → IsWorldKept limit w → AllByRecursion IsTrimTold (flat_map (trim_to other w) (order w.groups))
limit_trims limit other w most is =
    all_flat (λ n. n < 2 ^ 64) IsTrimTold (trim_to other w) (order w.groups) (λ n small. one_trim (record { 0 = n }) (length (lines_at w n) - other) small (let held = is.within n in omega arith)) (order_small limit w is)

-- the notice of such a trim is within its limits too
pub trim_telling : (trim : Trim) → IsTrimTold trim → IsTelling (trim_part trim)
trim_telling trim is = record { buffer = is.buffer; name = IsUtf8-nil; short = omega arith; prev = omega arith; next = omega arith; trims = (is, tt) }

-- ---- the lines whose flags differ

pub flag_telling : (flips : List Handle) (buffer : ℕ) → buffer < 2 ^ 64 → IsTelling (flag_part flips buffer)
flag_telling flips buffer small = record { buffer = small; name = IsUtf8-nil; short = omega arith; prev = omega arith; next = omega arith; trims = tt }

-- what holds of the notice of each buffer holds of all that are made
pub flags_all : (Q : Notice → Type 0) (limit : ℕ) (v : World) (flips : List Handle) → IsWorldKept limit v → ((flips : List Handle) (buffer : ℕ) → buffer < 2 ^ 64 → Q (flag_part flips buffer))
    → AllByRecursion Q (flag_parts v flips)
flags_all Q limit v [] is each = tt
flags_all Q limit v (flip ∷ flips) is each =
    all_map (λ n. n < 2 ^ 64) Q (flag_part (flip ∷ flips)) (filter (has_flips v (flip ∷ flips)) (order v.groups)) (each (flip ∷ flips))
    (all_filter (λ n. n < 2 ^ 64) (has_flips v (flip ∷ flips)) (order v.groups) (order_small limit v is))

-- ---- all parts

-- the parts beside the event of a change, of which a mirror with a limit of its own hears no lines that went
abbrev pub others_heard : Option ℕ → World → Notice → List Notice
others_heard None v n = flag_parts v n.flips ++ map trim_part n.trims
others_heard (Some own) v n = flag_parts v n.flips

pub others_all : (Q : Notice → Type 0) (own : Option ℕ) (limit : ℕ) (v : World) (n : Notice) → IsWorldKept limit v → IsTelling n → ((flips : List Handle) (buffer : ℕ) → buffer < 2 ^ 64 → Q (flag_part flips buffer))
    → ((trim : Trim) → IsTrimTold trim → Q (trim_part trim)) → AllByRecursion Q (others_heard own v n)
others_all Q None limit v n is tells flags trims = all_append Q (flag_parts v n.flips) (map trim_part n.trims) (flags_all Q limit v n.flips is flags) (all_map IsTrimTold Q trim_part n.trims trims tells.trims)
others_all Q (Some own) limit v n is tells flags trims = flags_all Q limit v n.flips is flags

pub parts_telling : (limit : ℕ) (v : World) (n : Notice) → IsWorldKept limit v → IsTelling n → AllByRecursion IsTelling (parts_of v n)
parts_telling limit v n is tells = (tells, others_all IsTelling None limit v n is tells flag_telling trim_telling)

pub found_key : (h : ℕ) (xs : List BufferEntry) (e : BufferEntry) → find (λ x. eqb (handle_of x) h) xs ≡ Some e → handle_of e ≡ h
found_key h [] e at = absurd (let f = at in cc)
found_key h (x ∷ xs) e at = by (eqb (handle_of x) h) refl at (found_key h xs e) where
  by : (b : Bool) → eqb (handle_of x) h ≡ b → cond b (Some x) (find (λ x. eqb (handle_of x) h) xs) ≡ Some e → (find (λ x. eqb (handle_of x) h) xs ≡ Some e → handle_of e ≡ h) → handle_of e ≡ h
  by true t f rest = let same : x ≡ e = cc in subst (λ (y : BufferEntry). handle_of y ≡ h) same (eqb-true (handle_of x) h t)
  by false t f rest = rest f

there_small : (limit : ℕ) (w : World) (h : Handle) → IsWorldKept limit w → is_there h w.groups ≡ true → h.0 < 2 ^ 64
there_small limit w h is there =
    let r = some_row handle_of h.0 w.groups there in
    let kept = row_has (IsBufferKept w.next) handle_of h.0 (rows w.groups) r.0 r.1 is.each in
    let same = found_key h.0 (rows w.groups) r.0 r.1 in
    (let b = kept.below in let ended = is.ended in omega arith)

-- it is of one buffer that is named, and none is added
abbrev pub IsOld : What → Type 0
IsOld (Add spec) = ⊥
IsOld (Flips flips) = ⊥
IsOld (Limit limit) = ⊥
IsOld _ = Unit {0}

-- the buffer of a change of one buffer that is accepted, where it is none that is added
pub target_there : (w : World) (h : Handle) (a : What) → IsTold a → refusal_of w h a ≡ None → IsOld a → is_there h w.groups ≡ true
unfolding refusal_of
target_there w h (Add spec) told good old = absurd old
target_there w h Close told good old = close_good h w.groups (accepted _ good)
target_there w h (MoveTo n) told good old = (move_good h n w.groups (accepted _ good)).0
target_there w h (MergeInto into) told good old = (merge_good h into w.groups (accepted _ good)).0
target_there w h Unmerge told good old = (unmerge_good h w.groups (accepted _ good)).0
target_there w h Hide told good old = there_good h w.groups (accepted _ good)
target_there w h Unhide told good old = there_good h w.groups (accepted _ good)
target_there w h (Rename name flips) told good old = (rename_good h name w.groups (accepted _ (both_accepted _ _ good).0)).0
target_there w h (ShortName name) told good old = (short_name_good h name w.groups (accepted _ good)).0
target_there w h (Title title) told good old = there_good h w.groups (accepted _ good)
target_there w h (SetVar var) told good old = (set_var_good h var.name w.groups (accepted _ good)).0
target_there w h (RemoveVar name) told good old = (remove_var_good h name w.groups (accepted _ good)).0
target_there w h (Print line) told good old = there_good h w.groups (accepted _ (both_accepted _ _ good).0)
target_there w h Clear told good old = there_good h w.groups (accepted _ good)
target_there w h (Flips flips) told good old = absurd old
target_there w h (AddGroup parent item) told good old = there_good h w.groups (may_add w h true parent item good).there
target_there w h (AddNick group item) told good old = there_good h w.groups (may_add w h false group item good).there
target_there w h (RemoveGroup name) told good old = there_good h w.groups (may_edit w h (remove_refusal true name (rows_at w h.0)) good).there
target_there w h (RemoveNick name) told good old = there_good h w.groups (may_edit w h (remove_refusal false name (rows_at w h.0)) good).there
target_there w h (ChangeGroup item) told good old = there_good h w.groups (may_edit w h (change_refusal true item.name (rows_at w h.0)) good).there
target_there w h (ChangeNick item) told good old = there_good h w.groups (may_edit w h (change_refusal false item.name (rows_at w h.0)) good).there
target_there w h (Limit limit) told good old = absurd old

-- what is noticed of an accepted change
pub telling : (limit : ℕ) (w : World) (h : Handle) (a : What) → limit ≤ 4096 → IsWorldKept limit w → IsTold a → refusal_of w h a ≡ None → IsTelling (notice_of w (after_of w h a) h a)
telling limit w h (Add spec) most is told good =
    telling_at limit (after_of w h (Add spec)) _ (record { 0 = w.next }) _ _ (after_kept limit w h (Add spec) is told good) (let ended = is.ended in omega arith)
telling limit w h Close most is told good = telling_at limit w _ h _ _ is (there_small limit w h is (target_there w h Close told good tt))
telling limit w h (MoveTo n) most is told good = telling_at limit (after_of w h (MoveTo n)) _ h _ _ (after_kept limit w h (MoveTo n) is told good) (there_small limit w h is (target_there w h (MoveTo n) told good tt))
telling limit w h (MergeInto into) most is told good = telling_at limit (after_of w h (MergeInto into)) _ h _ _ (after_kept limit w h (MergeInto into) is told good) (there_small limit w h is (target_there w h (MergeInto into) told good tt))
telling limit w h Unmerge most is told good = telling_at limit (after_of w h Unmerge) _ h _ _ (after_kept limit w h Unmerge is told good) (there_small limit w h is (target_there w h Unmerge told good tt))
telling limit w h Hide most is told good = telling_at limit (after_of w h Hide) _ h _ _ (after_kept limit w h Hide is told good) (there_small limit w h is (target_there w h Hide told good tt))
telling limit w h Unhide most is told good = telling_at limit (after_of w h Unhide) _ h _ _ (after_kept limit w h Unhide is told good) (there_small limit w h is (target_there w h Unhide told good tt))
telling limit w h (Rename name flips) most is told good = telling_at limit (after_of w h (Rename name flips)) _ h _ _ (after_kept limit w h (Rename name flips) is told good) (there_small limit w h is (target_there w h (Rename name flips) told good tt))
telling limit w h (ShortName name) most is told good = telling_at limit (after_of w h (ShortName name)) _ h _ _ (after_kept limit w h (ShortName name) is told good) (there_small limit w h is (target_there w h (ShortName name) told good tt))
telling limit w h (Title title) most is told good = telling_at limit (after_of w h (Title title)) _ h _ _ (after_kept limit w h (Title title) is told good) (there_small limit w h is (target_there w h (Title title) told good tt))
telling limit w h (SetVar var) most is told good = telling_at limit (after_of w h (SetVar var)) _ h _ _ (after_kept limit w h (SetVar var) is told good) (there_small limit w h is (target_there w h (SetVar var) told good tt))
telling limit w h (RemoveVar name) most is told good = telling_at limit (after_of w h (RemoveVar name)) _ h _ _ (after_kept limit w h (RemoveVar name) is told good) (there_small limit w h is (target_there w h (RemoveVar name) told good tt))
telling limit w h (Print line) most is told good =
    let small = there_small limit w h is (target_there w h (Print line) told good tt) in
    telling_with limit (after_of w h (Print line)) _ h _ _ _ (after_kept limit w h (Print line) is told good) small (one_trim h (length (lines_at w h.0) + 1 - w.limit) small (let held = is.within h.0 in omega arith))
telling limit w h Clear most is told good = telling_at limit (after_of w h Clear) _ h _ _ (after_kept limit w h Clear is told good) (there_small limit w h is (target_there w h Clear told good tt))
telling limit w h (Flips flips) most is told good = telling_at limit (after_of w h (Flips flips)) _ (record { 0 = 0 }) _ _ (after_kept limit w h (Flips flips) is told good) (omega arith)
telling limit w h (AddGroup parent item) most is told good = telling_at limit (after_of w h (AddGroup parent item)) _ h _ _ (after_kept limit w h (AddGroup parent item) is told good) (there_small limit w h is (target_there w h (AddGroup parent item) told good tt))
telling limit w h (AddNick group item) most is told good = telling_at limit (after_of w h (AddNick group item)) _ h _ _ (after_kept limit w h (AddNick group item) is told good) (there_small limit w h is (target_there w h (AddNick group item) told good tt))
telling limit w h (RemoveGroup name) most is told good = telling_at limit (after_of w h (RemoveGroup name)) _ h _ _ (after_kept limit w h (RemoveGroup name) is told good) (there_small limit w h is (target_there w h (RemoveGroup name) told good tt))
telling limit w h (RemoveNick name) most is told good = telling_at limit (after_of w h (RemoveNick name)) _ h _ _ (after_kept limit w h (RemoveNick name) is told good) (there_small limit w h is (target_there w h (RemoveNick name) told good tt))
telling limit w h (ChangeGroup item) most is told good = telling_at limit (after_of w h (ChangeGroup item)) _ h _ _ (after_kept limit w h (ChangeGroup item) is told good) (there_small limit w h is (target_there w h (ChangeGroup item) told good tt))
telling limit w h (ChangeNick item) most is told good = telling_at limit (after_of w h (ChangeNick item)) _ h _ _ (after_kept limit w h (ChangeNick item) is told good) (there_small limit w h is (target_there w h (ChangeNick item) told good tt))
telling limit w h (Limit other) most is told good =
    telling_with other (after_of w h (Limit other)) _ (record { 0 = 0 }) _ _ _ (after_kept limit w h (Limit other) is told good) (omega arith) (limit_trims limit other w most is)

-- ---- in the words of the mirror

pub drawn : (limit : ℕ) (w : World) → IsWorldKept limit w → (h : ℕ) → has handle_of h w.groups ≡ true → h < w.next
drawn limit w is h there =
    let r = some_row handle_of h w.groups there in
    let kept = row_has (IsBufferKept w.next) handle_of h (rows w.groups) r.0 r.1 is.each in
    subst (λ n. n < w.next) (found_key h (rows w.groups) r.0 r.1) kept.below

-- the contents of a buffer's lines differ
pub contents_differ : (next : ℕ) (lines : List Line) → AreContentsApart next lines → ContentsDiffer lines
contents_differ next [] apart = tt
contents_differ next (line ∷ lines) apart = (apart.1, contents_differ next lines apart.2)

pub stands : (limit : ℕ) (w : World) → limit ≤ 4096 → IsWorldKept limit w → IsMirrorable w
stands limit w most is = record {
  once = once limit w is;
  drawn = drawn limit w is;
  within = λ h. subst (λ n. length (lines_at w h) ≤ n) (sym is.same) (is.within h);
  most = subst (λ n. n ≤ 4096) (sym is.same) most;
  gone = is.none;
}
