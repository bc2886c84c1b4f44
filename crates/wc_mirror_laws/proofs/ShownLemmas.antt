-- Each accepted change leaves the flags of lines as the filters have them, where no content is held by two buffers.
use Rattle.std.proofs.Common.{◌≡◌, ℕ, ◌+◌, ◌-◌, ◌<◌, ◌≤◌, Bool, true, false, cond, not, eqb, List, [], ◌∷◌, ◌++◌, ◌⊎◌, inl, inr, length, map, filter, find, zero, suc, drop, flat_map, All, Option, Some, None, option_map, unwrap_or, refl, sym, ap, subst, ◌∙◌, arith, eq-eqb, eqb-true}
use Rattle.std.specs.List.{AllByRecursion}
use Rattle.std.proofs.lemmas.Bool.{false≢true, true≢false, or_parts, or_right, or_cases}
use Rattle.std.proofs.lemmas.List.Elements.{All-nil, All-same, All-map, All-push, All-drop, All-from_recursion, recursion_from_All}
use Rattle.std.proofs.lemmas.List.Folds.{list_any-append}
use Rattle.std.proofs.lemmas.List.{map-append}
use Rattle.wc_text.specs.declared.names.Handle.{Handle}
use Rattle.wc_lines.specs.declared.line.Line.{Line}
use Rattle.wc_lines.specs.Flags.{set_flag, with_own_flag}
use Rattle.wc_lines.specs.Ring.{last_of, has_content}
use Rattle.wc_buffers.specs.declared.row.BufferEntry.{BufferEntry}
use Rattle.wc_buffers.specs.Calls.{EntryGroups, handle_of, is_there, with_entry, with_hidden, with_full_name, with_short_name, with_title, with_var, without_var, new_entry, without_buffer, move_group_to, merge_groups, unmerge_group}
use Rattle.wc_buffers.specs.Groups.{rows, has, in_group, row_of, times_in}
use Rattle.wc_buffers.specs.Vars.{cut_to}
use Rattle.wc_buffers.proofs.GroupLaws.{by_bool, list_any-map}
use Rattle.wc_buffers.proofs.RefusalLemmas.{rename_good}
use Rattle.wc_model.specs.declared.change.Change.{Change}
use Rattle.wc_model.specs.declared.change.Flip.{Flip}
use Rattle.wc_model.specs.declared.change.LineSpec.{LineSpec}
use Rattle.wc_model.specs.declared.change.What.{What}
use Rattle.wc_model.specs.declared.change.What.TheVariants.{Add, Close, MoveTo, MergeInto, Unmerge, Hide, Unhide, Rename, ShortName, Title, SetVar, RemoveVar, Print, Clear, Flips, AddGroup, AddNick, RemoveGroup, RemoveNick, ChangeGroup, ChangeNick, Limit}
use Rattle.wc_model.specs.World.{World, first_world, lines_at, printed_at}
use Rattle.wc_model.specs.Apply.{refusal, refusal_of, after, after_of, flip_all, with_flips, with_groups, with_limit, row_of as new_row}
use Rattle.wc_model.specs.LineCuts.{line_of}
use Rattle.wc_model.specs.Notices.{name_in, bool_eq}
use Rattle.wc_model.specs.Order.{order}
use Rattle.wc_world.specs.Flips.{last_from, last_flag, lies_in}
use Rattle.wc_world.specs.Kept.{AreContentsApart}
use Rattle.wc_world.proofs.FlipsDone.{stands}
use Rattle.wc_world.proofs.GroupRows.{or_some, some_row, in_rows, row_of-append, row_of-update}
use Rattle.wc_world.proofs.LastFlags.{flipped_last}
use Rattle.wc_filters.specs.declared.filter.Filter.{Filter}
use Rattle.wc_rules.specs.Displayed.{is_flipped, flip_of, flips_of, line_is_displayed}
use Rattle.wc_core.specs.Fitted.{fitted, fitted_line, fitted_what, full_name_at, flips_at, flips_everywhere, flips_change, IsShownAt, AreShown}
use Rattle.wc_mirror_laws.specs.Changes.{IsAsked}
use Rattle.wc_mirror_laws.specs.Worlds.{IsWorldKept, Holds, AreHeldOnce}
use Rattle.wc_mirror_laws.proofs.LineWorlds.{changed_at, none_flipped, limited_at}
use Rattle.wc_mirror_laws.proofs.ListLemmas.{all_more, all_map}
use Rattle.wc_mirror_laws.proofs.RowLemmas.{row_has, times_rows, taken_rows, moved_rows, merged_rows, unmerged_rows}
use Rattle.wc_mirror_laws.proofs.WorldLemmas.{accepted, both_accepted, once, put_at, removed_at, turn, no_lines}

-- the flag of a line is the one that the filters give in the buffer of this name
abbrev Shown : List Filter → List ℕ → Line → Type 0
Shown filters name line = line.displayed ≡ line_is_displayed filters name line

abbrev no_line_list : List Line
no_line_list = []

-- ---- lists

all_two : {A : Type 0} (P Q R : A → Type 0) (xs : List A) → ((x : A) → P x → Q x → R x) → AllByRecursion P xs → AllByRecursion Q xs → AllByRecursion R xs
all_two P Q R [] both a b = tt
all_two P Q R (x ∷ xs) both a b = (both x a.0 b.0, all_two P Q R xs both a.1 b.1)

empty_parts : {A : Type 0} (xs ys : List A) → xs ++ ys ≡ [] → (xs ≡ []) × (ys ≡ [])
empty_parts [] ys e = (refl, e)
empty_parts (x ∷ xs) ys e = absurd (let f = e in cc)

module _ {A : Type 0} (key : A → ℕ) where
  own_each : (xs : List A) → AllByRecursion (λ x. in_group key (key x) xs ≡ true) xs
  own_each [] = tt
  own_each (x ∷ xs) = (
    rw (eq-eqb (key x) (key x) refl) refl,
    all_more (λ y. in_group key (key y) xs ≡ true) (λ y. in_group key (key y) (x ∷ xs) ≡ true) xs (λ y t. or_right (eqb (key x) (key y)) (in_group key (key y) xs) t) (own_each xs),
  )

  own_keys : (xs : List A) → AllByRecursion (λ n. in_group key n xs ≡ true) (map key xs)
  own_keys xs = all_map (λ x. in_group key (key x) xs ≡ true) (λ n. in_group key n xs ≡ true) key xs (λ x t. t) (own_each xs)

  at_key : (P : ℕ → Type 0) (n : ℕ) (xs : List A) → in_group key n xs ≡ true → AllByRecursion P (map key xs) → P n
  at_key P n [] t a = absurd (false≢true t)
  at_key P n (x ∷ xs) t a = by_bool (eqb (key x) n) _ (λ u. subst P (eqb-true (key x) n u) a.0) (λ u. at_key P n xs (rw u at t) a.1)

-- ---- buffers one by one

abbrev name_at : World → ℕ → List ℕ
name_at world q = full_name_at world (record { 0 = q })

each_shown : (filters : List Filter) (w : World) → ((q : ℕ) → has handle_of q w.groups ≡ false → lines_at w q ≡ []) → AreShown filters w → (q : ℕ) → IsShownAt filters w q
each_shown filters w none shown q = by_bool (has handle_of q w.groups) _
    (λ t. at_key handle_of (λ b. IsShownAt filters w b) q (rows w.groups) (in_rows handle_of q w.groups ∙ t) (recursion_from_All (λ b. IsShownAt filters w b) (order w.groups) shown))
    (λ t. All-same (Shown filters (name_at w q)) (lines_at w q) [] (none q t) (All-nil (Shown filters (name_at w q))))

all_shown : (filters : List Filter) (w : World) → ((q : ℕ) → has handle_of q w.groups ≡ true → IsShownAt filters w q) → AreShown filters w
all_shown filters w each =
    All-from_recursion (λ b. IsShownAt filters w b) (order w.groups)
    (all_more (λ q. in_group handle_of q (rows w.groups) ≡ true) (λ b. IsShownAt filters w b) (order w.groups)
    (λ q t. each q (sym (in_rows handle_of q w.groups) ∙ t)) (own_keys handle_of (rows w.groups)))

-- a buffer has no lines, or its lines and its name as before
abbrev Stays : World → World → ℕ → Type 0
Stays w v q = (lines_at v q ≡ []) ⊎ ((lines_at v q ≡ lines_at w q) × (name_at v q ≡ name_at w q))

stayed : (filters : List Filter) (w v : World) (q : ℕ) → IsShownAt filters w q → Stays w v q → IsShownAt filters v q
stayed filters w v q shown (inl none) = All-same (Shown filters (name_at v q)) (lines_at v q) [] none (All-nil (Shown filters (name_at v q)))
stayed filters w v q shown (inr same) = subst (λ name. All (Shown filters name) (lines_at v q)) (sym same.1) (All-same (Shown filters (name_at w q)) (lines_at v q) (lines_at w q) same.0 shown)

-- where the lines of one buffer are taken away
cleared : (w v : World) (q : ℕ) (b : Bool) → lines_at v q ≡ cond b [] (lines_at w q) → name_at v q ≡ name_at w q → Stays w v q
cleared w v q true lines name = inl lines
cleared w v q false lines name = inr (lines, name)

-- ---- names in groups that were changed

abbrev row_name : Option BufferEntry → List ℕ
row_name o = name_in (option_map (λ (e : BufferEntry). e.row) o)

abbrev name_of : ℕ → EntryGroups → List ℕ
name_of q gs = row_name (row_of handle_of q gs)

found_key : (q : ℕ) (xs : List BufferEntry) (e : BufferEntry) → find (λ (x : BufferEntry). eqb (handle_of x) q) xs ≡ Some e → handle_of e ≡ q
found_key q [] e f = absurd (let g = f in cc)
found_key q (x ∷ xs) e f = by (eqb (handle_of x) q) refl f (λ g. found_key q xs e g) where
  by : (b : Bool) → eqb (handle_of x) q ≡ b → cond b (Some x) (find (λ (x : BufferEntry). eqb (handle_of x) q) xs) ≡ Some e → (find (λ (x : BufferEntry). eqb (handle_of x) q) xs ≡ Some e → handle_of e ≡ q) → handle_of e ≡ q
  by true t g rest = let same : x ≡ e = cc in ap (λ (x : BufferEntry). handle_of x) (sym same) ∙ eqb-true (handle_of x) q t
  by false t g rest = rest g

abbrev IsFound : List BufferEntry → BufferEntry → Type 0
IsFound xs e = find (λ (x : BufferEntry). eqb (handle_of x) (handle_of e)) xs ≡ Some e

skip_row : (x : BufferEntry) (xs ys : List BufferEntry) → times_in handle_of (handle_of x) ys ≡ 0 → AllByRecursion (IsFound xs) ys → AllByRecursion (IsFound (x ∷ xs)) ys
skip_row x xs [] none a = tt
skip_row x xs (y ∷ ys) none a =
    let other : eqb (handle_of x) (handle_of y) ≡ false = by_bool (eqb (handle_of y) (handle_of x)) _ (λ t. absurd (grind (arith, t, none))) (λ t. turn (handle_of x) (handle_of y) ∙ t) in
    (rw other a.0, skip_row x xs ys (omega arith) a.1)

all_found : (xs : List BufferEntry) → ((h : ℕ) → times_in handle_of h xs ≤ 1) → AllByRecursion (IsFound xs) xs
all_found [] once = tt
all_found (x ∷ xs) once =
    let here = rw (eq-eqb (handle_of x) (handle_of x) refl) at (once (handle_of x)) in (
      rw (eq-eqb (handle_of x) (handle_of x) refl) refl,
      skip_row x xs xs (omega (arith, here)) (all_found xs (λ h. let o = once h in omega (arith, o))),
    )

-- the full name of a row is the one that its handle has in these groups
abbrev IsNamed : EntryGroups → BufferEntry → Type 0
IsNamed gs e = name_of (handle_of e) gs ≡ e.row.full_name

all_named : (limit : ℕ) (w : World) → IsWorldKept limit w → AllByRecursion (IsNamed w.groups) (rows w.groups)
all_named limit w is =
    all_more (IsFound (rows w.groups)) (IsNamed w.groups) (rows w.groups) (λ e found. ap row_name found)
    (all_found (rows w.groups) (λ h. let o = once limit w is h in let t = times_rows handle_of h w.groups in omega arith))

same_name : (gs hs : EntryGroups) (q : ℕ) → AllByRecursion (IsNamed gs) (rows hs) → has handle_of q hs ≡ true → name_of q hs ≡ name_of q gs
same_name gs hs q named t =
    let r = some_row handle_of q hs t in
    let is : IsNamed gs r.0 = row_has (IsNamed gs) handle_of q (rows hs) r.0 r.1 named in
    ap row_name r.1 ∙ sym is ∙ ap (λ n. name_of n gs) (found_key q (rows hs) r.0 r.1)

rows_mapped : (f : BufferEntry → BufferEntry) (gs : EntryGroups) → rows (map (map f) gs) ≡ map f (rows gs)
rows_mapped f [] = refl
rows_mapped f (g ∷ gs) = ap (λ r. map f g ++ r) (rows_mapped f gs) ∙ sym (map-append f g (rows gs))

found_mapped : (f : BufferEntry → BufferEntry) → ((x : BufferEntry) → handle_of (f x) ≡ handle_of x) → (q : ℕ) (xs : List BufferEntry)
    → find (λ (x : BufferEntry). eqb (handle_of x) q) (map f xs) ≡ option_map f (find (λ (x : BufferEntry). eqb (handle_of x) q) xs)
found_mapped f same q [] = refl
found_mapped f same q (x ∷ xs) =
    let own : eqb (handle_of (f x)) q ≡ eqb (handle_of x) q = ap (λ k. eqb k q) (same x) in
    by_bool (eqb (handle_of x) q) _ (λ t. rw (own, t) refl) (λ t. rw (own, t) (found_mapped f same q xs))

module _ (h : Handle) (F : BufferEntry → BufferEntry) (same : (x : BufferEntry) → handle_of (F x) ≡ handle_of x) (gs : EntryGroups) where
  abbrev entry_changed : BufferEntry → BufferEntry
  entry_changed x = cond (eqb (handle_of x) h.0) (F x) x

  entry_row : (q : ℕ) → row_of handle_of q (with_entry h F gs) ≡ option_map entry_changed (row_of handle_of q gs)
  entry_row q =
      ap (find (λ (x : BufferEntry). eqb (handle_of x) q)) (rows_mapped entry_changed gs)
      ∙ found_mapped entry_changed (λ x. by_bool (eqb (handle_of x) h.0) _ (λ t. rw t (same x)) (λ t. rw t refl)) q (rows gs)

  -- a change that leaves full names
  entry_name : ((x : BufferEntry) → (F x).row.full_name ≡ x.row.full_name) → (q : ℕ) → name_of q (with_entry h F gs) ≡ name_of q gs
  entry_name left q = ap row_name (entry_row q) ∙ by (row_of handle_of q gs) where
    by : (o : Option BufferEntry) → row_name (option_map entry_changed o) ≡ row_name o
    by None = refl
    by (Some x) = by_bool (eqb (handle_of x) h.0) _ (λ t. rw t (left x)) (λ t. rw t refl)

  -- the names of the other buffers
  other_name : (q : ℕ) → eqb q h.0 ≡ false → name_of q (with_entry h F gs) ≡ name_of q gs
  other_name q other = ap row_name (entry_row q) ∙ by (row_of handle_of q gs) (λ x f. found_key q (rows gs) x f) where
    by : (o : Option BufferEntry) → ((x : BufferEntry) → o ≡ Some x → handle_of x ≡ q) → row_name (option_map entry_changed o) ≡ row_name o
    by None key = refl
    by (Some x) key = rw (ap (λ k. eqb k h.0) (key x refl) ∙ other) refl

name_renamed : (h : Handle) (name : List ℕ) (gs : EntryGroups) → is_there h gs ≡ true → name_of h.0 (with_entry h (with_full_name name) gs) ≡ name
name_renamed h name gs t =
    let row = some_row handle_of h.0 gs t in
    ap row_name (row_of-update handle_of h.0 (with_full_name name) (λ x. refl) gs ∙ ap (option_map (with_full_name name)) row.1)

-- ---- the flags that flips set last

last_append : (content : ℕ) (xs ys : List Flip) (flag : Option Bool) → last_from flag content (xs ++ ys) ≡ last_from (last_from flag content xs) content ys
last_append content [] ys flag = refl
last_append content (x ∷ xs) ys flag = last_append content xs ys (cond (eqb x.content.0 content) (Some x.displayed) flag)

-- the flips of the lines that pass a test
module _ (p : Line → Bool) where
  abbrev flips_by : List Line → List Flip
  flips_by lines = map flip_of (filter p lines)

  not_set : (content : ℕ) (lines : List Line) → has_content (record { 0 = content }) lines ≡ false → (flag : Option Bool) → last_from flag content (flips_by lines) ≡ flag
  not_set content [] e flag = refl
  not_set content (x ∷ xs) e flag =
      let o = or_parts (eqb x.content.0 content) (has_content (record { 0 = content }) xs) e in
      by_bool (p x) _ (λ t. rw t (ap (λ b. last_from (cond b (Some (not x.displayed)) flag) content (flips_by xs)) o.0 ∙ not_set content xs o.1 flag)) (λ t. rw t (not_set content xs o.1 flag))

  abbrev IsSet : List Line → Line → Type 0
  IsSet lines x = (flag : Option Bool) → last_from flag x.content.0 (flips_by lines) ≡ cond (p x) (Some (not x.displayed)) flag

  skip_line : (x : Line) (xs ys : List Line) → has_content x.content ys ≡ false → AllByRecursion (IsSet xs) ys → AllByRecursion (IsSet (x ∷ xs)) ys
  skip_line x xs [] e a = tt
  skip_line x xs (y ∷ ys) e a =
      let o = or_parts (eqb y.content.0 x.content.0) (has_content x.content ys) e in
      let other : eqb x.content.0 y.content.0 ≡ false = turn x.content.0 y.content.0 ∙ o.0 in
      (λ flag. by_bool (p x) _ (λ t. rw t (ap (λ b. last_from (cond b (Some (not x.displayed)) flag) y.content.0 (flips_by xs)) other ∙ a.0 flag)) (λ t. rw t (a.0 flag)), skip_line x xs ys o.1 a.1)

  all_set : (n : ℕ) (lines : List Line) → AreContentsApart n lines → AllByRecursion (IsSet lines) lines
  all_set n [] a = tt
  all_set n (x ∷ xs) a = (
    λ flag. by_bool (p x) _
        (λ t. rw t (ap (λ b. last_from (cond b (Some (not x.displayed)) flag) x.content.0 (flips_by xs)) (eq-eqb x.content.0 x.content.0 refl) ∙ not_set x.content.0 xs a.1 (Some (not x.displayed))))
        (λ t. rw t (not_set x.content.0 xs a.1 flag)),
    skip_line x xs xs a.1 (all_set n xs a.2),
  )

  none_pass : (lines : List Line) → flips_by lines ≡ [] → AllByRecursion (λ x. p x ≡ false) lines
  none_pass [] e = tt
  none_pass (x ∷ xs) e = by (p x) refl e (none_pass xs) where
    by : (b : Bool) → p x ≡ b → map flip_of (cond b (x ∷ filter p xs) (filter p xs)) ≡ [] → (flips_by xs ≡ [] → AllByRecursion (λ x. p x ≡ false) xs) → (p x ≡ false) × AllByRecursion (λ x. p x ≡ false) xs
    by true t f rest = absurd (let g = f in cc)
    by false t f rest = (t, rest f)

-- the flips of several buffers, of which one sets a flag and the others do not
module _ (content : ℕ) (sets on : Bool) (q : ℕ) (G : ℕ → List Flip) (own : (flag : Option Bool) → last_from flag content (G q) ≡ cond sets (Some on) flag)
    (others : (b : ℕ) → eqb b q ≡ false → (flag : Option Bool) → last_from flag content (G b) ≡ flag) where
  set_again : (s l : Bool) (flag : Option Bool) → cond l (cond s (Some on) (cond s (Some on) flag)) (cond s (Some on) flag) ≡ cond s (Some on) flag
  set_again true true flag = refl
  set_again true false flag = refl
  set_again false true flag = refl
  set_again false false flag = refl

  through : (ns : List ℕ) (flag : Option Bool) → last_from flag content (flat_map G ns) ≡ cond (lies_in q ns) (cond sets (Some on) flag) flag
  through [] flag = refl
  through (b ∷ ns) flag =
      last_append content (G b) (flat_map G ns) flag
      ∙ by_bool (eqb b q) _
      (λ t. rw t (ap (λ f. last_from f content (flat_map G ns)) (ap (λ k. last_from flag content (G k)) (eqb-true b q t) ∙ own flag) ∙ through ns (cond sets (Some on) flag) ∙ set_again sets (lies_in q ns) flag))
      (λ t. rw t (ap (λ f. last_from f content (flat_map G ns)) (others b t flag) ∙ through ns flag))

-- ---- lines with their flags

flag_same : (displayed wanted : Bool) → not (bool_eq displayed wanted) ≡ false → displayed ≡ wanted
flag_same true true e = refl
flag_same true false e = absurd (true≢false e)
flag_same false true e = absurd (true≢false e)
flag_same false false e = refl

flag_turned : (displayed wanted : Bool) (flag : Option Bool) → flag ≡ cond (not (bool_eq displayed wanted)) (Some (not displayed)) None → unwrap_or flag displayed ≡ wanted
flag_turned true true flag e = ap (λ f. unwrap_or f true) e
flag_turned true false flag e = ap (λ f. unwrap_or f true) e
flag_turned false true flag e = ap (λ f. unwrap_or f false) e
flag_turned false false flag e = ap (λ f. unwrap_or f false) e

set_shown : (filters : List Filter) (name : List ℕ) (x : Line) (flag : Option Bool) → unwrap_or flag x.displayed ≡ line_is_displayed filters name x → Shown filters name (set_flag flag x)
set_shown filters name x None e = e
set_shown filters name x (Some on) e = e

-- each line is flipped where the filters give the other flag, and else it is not
abbrev IsFlippedTo : List Filter → List ℕ → List Flip → Line → Type 0
IsFlippedTo filters name flips x = last_flag flips x.content.0 ≡ cond (is_flipped filters name x) (Some (not x.displayed)) None

flips_shown : (filters : List Filter) (name : List ℕ) (flips : List Flip) (lines : List Line) → AllByRecursion (IsFlippedTo filters name flips) lines → All (Shown filters name) (map (with_own_flag (last_flag flips)) lines)
flips_shown filters name flips lines a =
    let own = with_own_flag (last_flag flips) in
    All-map (Shown filters name) own lines
    (All-from_recursion (λ x. Shown filters name (own x)) lines
    (all_more (IsFlippedTo filters name flips) (λ x. Shown filters name (own x)) lines
    (λ x e. set_shown filters name x (last_flag flips x.content.0) (flag_turned x.displayed (line_is_displayed filters name x) (last_flag flips x.content.0) e)) a))

left_lines : (flips : List Flip) (lines : List Line) → AllByRecursion (λ x. last_flag flips x.content.0 ≡ None) lines → map (with_own_flag (last_flag flips)) lines ≡ lines
left_lines flips [] a = refl
left_lines flips (x ∷ xs) a = λ i. set_flag (a.0 i) x ∷ left_lines flips xs a.1 i

flipped_at : (limit : ℕ) (w : World) (flips : List Flip) → IsWorldKept limit w → (q : ℕ) → lines_at (flip_all flips w) q ≡ map (with_own_flag (last_flag flips)) (lines_at w q)
flipped_at limit w flips is q = changed_at (with_flips flips) (none_flipped flips) w q ∙ flipped_last w.next flips (lines_at w q) (is.apart q)

-- a content of one buffer is not held by another
elsewhere : (w : World) → AreHeldOnce w → (a b content : ℕ) → eqb b a ≡ false → Holds w a content → has_content (record { 0 = content }) (lines_at w b) ≡ false
elsewhere w held a b content other here = by_bool (has_content (record { 0 = content }) (lines_at w b)) _
    (λ t. absurd (false≢true (sym other ∙ eq-eqb b a (held b a content t here))))
    (λ t. t)

own_contents : (lines : List Line) → AllByRecursion (λ (x : Line). has_content x.content lines ≡ true) lines
own_contents lines = own_each (λ (x : Line). x.content.0) lines

-- ---- a new name

module _ (limit : ℕ) (filters : List Filter) (w : World) (h : Handle) (name : List ℕ) (is : IsWorldKept limit w) (held : AreHeldOnce w) (there : is_there h w.groups ≡ true) where
  abbrev new_flips : List Flip
  new_flips = flips_of filters name (lines_at w h.0)

  abbrev renamed : World
  renamed = flip_all new_flips (with_groups w (with_entry h (with_full_name name) w.groups))

  own_shown : All (Shown filters name) (map (with_own_flag (last_flag new_flips)) (lines_at w h.0))
  own_shown =
      flips_shown filters name new_flips (lines_at w h.0)
      (all_more (IsSet (is_flipped filters name) (lines_at w h.0)) (IsFlippedTo filters name new_flips) (lines_at w h.0) (λ x set. set None) (all_set (is_flipped filters name) w.next (lines_at w h.0) (is.apart h.0)))

  others_left : (q : ℕ) → eqb q h.0 ≡ false → map (with_own_flag (last_flag new_flips)) (lines_at w q) ≡ lines_at w q
  others_left q other =
      left_lines new_flips (lines_at w q)
      (all_more (λ (x : Line). has_content x.content (lines_at w q) ≡ true) (λ (x : Line). last_flag new_flips x.content.0 ≡ None) (lines_at w q)
      (λ x here. not_set (is_flipped filters name) x.content.0 (lines_at w h.0) (elsewhere w held q h.0 x.content.0 (turn h.0 q ∙ other) here) None)
      (own_contents (lines_at w q)))

  rename_shown : ((q : ℕ) → IsShownAt filters w q) → AreShown filters renamed
  rename_shown each = all_shown filters renamed (λ q t. by_bool (eqb q h.0) _ (λ own. here q (eqb-true q h.0 own)) (λ other. stayed filters w renamed q (each q) (inr (flipped_at limit w new_flips is q ∙ others_left q other, other_name h (with_full_name name) (λ x. refl) w.groups q other))))
    where
      here : (q : ℕ) → q ≡ h.0 → IsShownAt filters renamed q
      here q e =
          subst (λ k. IsShownAt filters renamed k) (sym e)
          (subst (λ n. All (Shown filters n) (lines_at renamed h.0)) (sym (name_renamed h name w.groups there))
          (All-same (Shown filters name) (lines_at renamed h.0) (map (with_own_flag (last_flag new_flips)) (lines_at w h.0)) (flipped_at limit w new_flips is h.0) own_shown))

-- ---- the flags of all buffers

module _ (limit : ℕ) (filters : List Filter) (w : World) (is : IsWorldKept limit w) (held : AreHeldOnce w) where
  abbrev all_flips : List Flip
  all_flips = flips_everywhere filters w

  all_flipped : (q : ℕ) → has handle_of q w.groups ≡ true → AllByRecursion (IsFlippedTo filters (name_at w q) all_flips) (lines_at w q)
  all_flipped q t =
      let p = is_flipped filters (name_at w q) in
      all_two (IsSet p (lines_at w q)) (λ (x : Line). has_content x.content (lines_at w q) ≡ true) (IsFlippedTo filters (name_at w q) all_flips) (lines_at w q)
      (λ x set here.
      through x.content.0 (p x) (not x.displayed) q (flips_at filters w) set
      (λ b other flag. not_set (is_flipped filters (name_at w b)) x.content.0 (lines_at w b) (elsewhere w held q b x.content.0 other here) flag)
      (order w.groups) None
      ∙ rw (stands q w.groups ∙ t) refl)
      (all_set p w.next (lines_at w q) (is.apart q))
      (own_contents (lines_at w q))

  refilter : AreShown filters (flip_all all_flips w)
  refilter = all_shown filters (flip_all all_flips w) (λ q t. All-same (Shown filters (name_at w q)) (lines_at (flip_all all_flips w) q) (map (with_own_flag (last_flag all_flips)) (lines_at w q)) (flipped_at limit w all_flips is q) (flips_shown filters (name_at w q) all_flips (lines_at w q) (all_flipped q t)))

-- all flags are as the filters have them once the flags of all buffers are set anew
pub shown-refilter : (limit : ℕ) (filters : List Filter) (world : World) → IsWorldKept limit world → AreHeldOnce world → AreShown filters (after world (flips_change (flips_everywhere filters world)))
unfolding after_of
shown-refilter limit filters world is held = refilter limit filters world is held

none_at : (G : ℕ → List Flip) (ns : List ℕ) → flat_map G ns ≡ [] → AllByRecursion (λ b. G b ≡ []) ns
none_at G [] e = tt
none_at G (b ∷ ns) e = let parts = empty_parts (G b) (flat_map G ns) e in (parts.0, none_at G ns parts.1)

-- they are where no flag has to be set
pub shown-none : (filters : List Filter) (world : World) → flips_everywhere filters world ≡ [] → AreShown filters world
shown-none filters world e =
    All-from_recursion (λ b. IsShownAt filters world b) (order world.groups)
    (all_more (λ b. flips_at filters world b ≡ []) (λ b. IsShownAt filters world b) (order world.groups)
    (λ b none.
    All-from_recursion (Shown filters (name_at world b)) (lines_at world b)
    (all_more (λ x. is_flipped filters (name_at world b) x ≡ false) (Shown filters (name_at world b)) (lines_at world b)
    (λ x same. flag_same x.displayed (line_is_displayed filters (name_at world b) x) same)
    (none_pass (is_flipped filters (name_at world b)) (lines_at world b) none)))
    (none_at (flips_at filters world) (order world.groups) e))

-- ---- any change

-- a line that is printed, with its flag
fitted_shown : (filters : List Filter) (name : List ℕ) (printed handle : ℕ) (spec : LineSpec) → Shown filters name (line_of printed handle (fitted_line filters name spec))
fitted_shown filters name printed handle spec = refl

module _ (limit : ℕ) (filters : List Filter) (w : World) (is : IsWorldKept limit w) (each : (q : ℕ) → IsShownAt filters w q) where
  -- where lines and names stay, or the lines of a buffer go
  kept_shown : (v : World) → ((q : ℕ) → has handle_of q v.groups ≡ true → Stays w v q) → AreShown filters v
  kept_shown v stays = all_shown filters v (λ q t. stayed filters w v q (each q) (stays q t))

  regrouped : (gs : EntryGroups) → AllByRecursion (IsNamed w.groups) (rows gs) → AreShown filters (with_groups w gs)
  regrouped gs named = kept_shown (with_groups w gs) (λ q t. inr (refl, same_name w.groups gs q named t))

  rewritten : (h : Handle) (F : BufferEntry → BufferEntry) → ((x : BufferEntry) → handle_of (F x) ≡ handle_of x) → ((x : BufferEntry) → (F x).row.full_name ≡ x.row.full_name)
      → AreShown filters (with_groups w (with_entry h F w.groups))
  rewritten h F same left = kept_shown (with_groups w (with_entry h F w.groups)) (λ q t. inr (refl, entry_name h F same w.groups left q))

  added_stays : (v : World) (e : BufferEntry) → v.groups ≡ w.groups ++ (e ∷ []) ∷ [] → ((q : ℕ) → lines_at v q ≡ cond (eqb q w.next) [] (lines_at w q)) → (q : ℕ) → Stays w v q
  added_stays v e groups lines q = by_bool (has handle_of q w.groups) _
      (λ t.
      let r = some_row handle_of q w.groups t in
      let found : row_of handle_of q v.groups ≡ row_of handle_of q w.groups =
      ap (row_of handle_of q) groups ∙ row_of-append handle_of q w.groups ((e ∷ []) ∷ []) ∙ ap (λ o. or_some o (row_of handle_of q ((e ∷ []) ∷ []))) r.1 ∙ sym r.1 in
      cleared w v q (eqb q w.next) (lines q) (ap row_name found))
      (λ t. inl (lines q ∙ ap (cond (eqb q w.next) []) (is.none q t) ∙ none (eqb q w.next)))
    where
      none : (b : Bool) → cond b [] [] ≡ no_line_list
      none true = refl
      none false = refl

  closed_stays : (v : World) (h : Handle) → v.groups ≡ without_buffer h w.groups → ((q : ℕ) → lines_at v q ≡ cond (eqb q h.0) [] (lines_at w q)) → (q : ℕ) → has handle_of q v.groups ≡ true → Stays w v q
  closed_stays v h groups lines q t =
      let all = subst (λ gs. AllByRecursion (IsNamed w.groups) (rows gs)) (sym groups) (taken_rows (IsNamed w.groups) handle_of h.0 w.groups (all_named limit w is)) in
      cleared w v q (eqb q h.0) (lines q) (same_name w.groups v.groups q all t)

  module _ (v : World) (h : Handle) (spec : LineSpec) (most printed : ℕ) where
    abbrev with_new : List Line
    with_new = lines_at w h.0 ++ line_of printed w.next (fitted_line filters (name_at w h.0) spec) ∷ []

    own_printed : (q : ℕ) → v.groups ≡ w.groups → q ≡ h.0 → lines_at v q ≡ last_of most with_new → IsShownAt filters v q
    own_printed q groups e lines =
        subst (λ n. All (Shown filters n) (lines_at v q)) (sym (ap (name_of q) groups ∙ ap (λ k. name_of k w.groups) e))
        (All-same (Shown filters (name_at w h.0)) (lines_at v q) (last_of most with_new) lines
        (All-drop (Shown filters (name_at w h.0)) (length with_new - most) with_new
        (All-push (Shown filters (name_at w h.0)) (lines_at w h.0) (line_of printed w.next (fitted_line filters (name_at w h.0) spec)) (each h.0)
        (fitted_shown filters (name_at w h.0) printed w.next spec))))

    printed_shown : v.groups ≡ w.groups → ((q : ℕ) → lines_at v q ≡ cond (eqb q h.0) (last_of most with_new) (lines_at w q)) → AreShown filters v
    printed_shown groups lines = all_shown filters v (λ q t. by_bool (eqb q h.0) _
        (λ own. own_printed q groups (eqb-true q h.0 own) (lines q ∙ ap (λ b. cond b (last_of most with_new) (lines_at w q)) own))
        (λ other. stayed filters w v q (each q) (inr (lines q ∙ ap (λ b. cond b (last_of most with_new) (lines_at w q)) other, ap (name_of q) groups))))

  limited_shown : (most : ℕ) → AreShown filters (with_limit most w)
  limited_shown most = all_shown filters (with_limit most w) (λ q t.
      All-same (Shown filters (name_at w q)) (lines_at (with_limit most w) q) (last_of most (lines_at w q)) (limited_at most w q)
      (All-drop (Shown filters (name_at w q)) (length (lines_at w q) - most) (lines_at w q) (each q)))

what_shown : (limit : ℕ) (filters : List Filter) (w : World) (h : Handle) (a : What) → IsWorldKept limit w → AreHeldOnce w → AreShown filters w → ((q : ℕ) → IsShownAt filters w q) → IsAsked a
    → refusal_of w h (fitted_what filters w h a) ≡ None → AreShown filters (after_of w h (fitted_what filters w h a))
unfolding refusal_of after_of
what_shown limit filters w h (Add spec) is held shown each asked good = kept_shown limit filters w is each (after_of w h (Add spec)) (λ q t. added_stays limit filters w is each (after_of w h (Add spec)) (new_entry (new_row w.next spec) spec.vars) refl (put_at w w.next []) q)
what_shown limit filters w h Close is held shown each asked good = kept_shown limit filters w is each (after_of w h Close) (closed_stays limit filters w is each (after_of w h Close) h refl (removed_at w h.0))
what_shown limit filters w h (MoveTo n) is held shown each asked good = regrouped limit filters w is each (move_group_to h n w.groups) (moved_rows (IsNamed w.groups) handle_of h.0 (n - 1) w.groups (all_named limit w is))
what_shown limit filters w h (MergeInto into) is held shown each asked good = regrouped limit filters w is each (merge_groups h into w.groups) (merged_rows (IsNamed w.groups) handle_of h.0 into.0 w.groups (all_named limit w is))
what_shown limit filters w h Unmerge is held shown each asked good = regrouped limit filters w is each (unmerge_group h w.groups) (unmerged_rows (IsNamed w.groups) handle_of h.0 w.groups (all_named limit w is))
what_shown limit filters w h Hide is held shown each asked good = rewritten limit filters w is each h (with_hidden true) (λ x. refl) (λ x. refl)
what_shown limit filters w h Unhide is held shown each asked good = rewritten limit filters w is each h (with_hidden false) (λ x. refl) (λ x. refl)
what_shown limit filters w h (Rename name flips) is held shown each asked good = rename_shown limit filters w h name is held (rename_good h name w.groups (accepted _ (both_accepted _ _ good).0)).0 each
what_shown limit filters w h (ShortName name) is held shown each asked good = rewritten limit filters w is each h (with_short_name name) (λ x. refl) (λ x. refl)
what_shown limit filters w h (Title title) is held shown each asked good = rewritten limit filters w is each h (with_title (cut_to 1024 title)) (λ x. refl) (λ x. refl)
what_shown limit filters w h (SetVar var) is held shown each asked good = rewritten limit filters w is each h (with_var var.name var.value) (λ x. refl) (λ x. refl)
what_shown limit filters w h (RemoveVar name) is held shown each asked good = rewritten limit filters w is each h (without_var name) (λ x. refl) (λ x. refl)
what_shown limit filters w h (Print spec) is held shown each asked good =
    printed_shown limit filters w is each (after_of w h (Print (fitted_line filters (name_at w h.0) spec))) h spec w.limit (printed_at w h.0) refl
    (put_at w h.0 (last_of w.limit (lines_at w h.0 ++ line_of (printed_at w h.0) w.next (fitted_line filters (name_at w h.0) spec) ∷ [])))
what_shown limit filters w h Clear is held shown each asked good = kept_shown limit filters w is each (after_of w h Clear) (λ q t. cleared w (after_of w h Clear) q (eqb q h.0) (put_at w h.0 [] q) refl)
what_shown limit filters w h (Flips flips) is held shown each asked good = absurd asked
what_shown limit filters w h (AddGroup parent item) is held shown each asked good = shown
what_shown limit filters w h (AddNick group item) is held shown each asked good = shown
what_shown limit filters w h (RemoveGroup name) is held shown each asked good = shown
what_shown limit filters w h (RemoveNick name) is held shown each asked good = shown
what_shown limit filters w h (ChangeGroup item) is held shown each asked good = shown
what_shown limit filters w h (ChangeNick item) is held shown each asked good = shown
what_shown limit filters w h (Limit most) is held shown each asked good = limited_shown limit filters w is each most

-- after a change that is not refused, with the flags that the filters give, all flags are as the filters have them
pub shown-change : (limit : ℕ) (filters : List Filter) (world : World) (change : Change) → IsWorldKept limit world → AreHeldOnce world → AreShown filters world → IsAsked change.what
    → refusal world (fitted filters world change) ≡ None → AreShown filters (after world (fitted filters world change))
shown-change limit filters world change is held shown asked good = what_shown limit filters world change.buffer change.what is held shown (each_shown filters world is.none shown) asked good

-- ---- contents that one buffer alone holds

-- where each buffer holds only what it held
fewer : (w v : World) → ((q content : ℕ) → Holds v q content → Holds w q content) → AreHeldOnce w → AreHeldOnce v
fewer w v less held a b content here there = held a b content (less a content here) (less b content there)

in_cleared : (content : Handle) (b : Bool) (ls ms : List Line) → ls ≡ cond b [] ms → has_content content ls ≡ true → has_content content ms ≡ true
in_cleared content true ls ms e t = absurd (false≢true (sym (ap (has_content content) e) ∙ t))
in_cleared content false ls ms e t = sym (ap (has_content content) e) ∙ t

in_dropped : (content : Handle) (k : ℕ) (ls : List Line) → has_content content (drop k ls) ≡ true → has_content content ls ≡ true
in_dropped content zero ls t = t
in_dropped content (suc k) [] t = t
in_dropped content (suc k) (x ∷ xs) t = or_right (eqb x.content.0 content.0) (has_content content xs) (in_dropped content k xs t)

in_flagged : (flags : ℕ → Option Bool) (content : Handle) (ls : List Line) → has_content content (map (with_own_flag flags) ls) ≡ has_content content ls
in_flagged flags content ls = list_any-map (with_own_flag flags) (λ (x : Line). eqb x.content.0 content.0) (λ (x : Line). eqb x.content.0 content.0) (λ x. by (flags x.content.0) x) ls where
  by : (flag : Option Bool) (x : Line) → eqb (set_flag flag x).content.0 content.0 ≡ eqb x.content.0 content.0
  by None x = refl
  by (Some on) x = refl

in_pushed : (content : Handle) (x : Line) (ls : List Line) → has_content content (ls ++ x ∷ []) ≡ true → (has_content content ls ≡ true) ⊎ (x.content.0 ≡ content.0)
in_pushed content x ls t = by (or_cases (has_content content ls) (has_content content (x ∷ [])) (sym (list_any-append (λ (y : Line). eqb y.content.0 content.0) ls (x ∷ [])) ∙ t)) where
  by : (has_content content ls ≡ true) ⊎ (has_content content (x ∷ []) ≡ true) → (has_content content ls ≡ true) ⊎ (x.content.0 ≡ content.0)
  by (inl held) = inl held
  by (inr new) = by_bool (eqb x.content.0 content.0) _ (λ u. inr (eqb-true x.content.0 content.0 u)) (λ u. absurd (false≢true (rw u at new)))

below_next : (next content : ℕ) (ls : List Line) → AreContentsApart next ls → has_content (record { 0 = content }) ls ≡ true → content < next
below_next next content [] a t = absurd (false≢true t)
below_next next content (x ∷ xs) a t = by_bool (eqb x.content.0 content) _
    (λ u. let e = eqb-true x.content.0 content u in let l = a.0 in omega arith)
    (λ u. below_next next content xs a.2 (rw u at t))

module _ (limit : ℕ) (w : World) (is : IsWorldKept limit w) (held : AreHeldOnce w) where
  flips_once : (flips : List Flip) → AreHeldOnce (flip_all flips w)
  flips_once flips = fewer w (flip_all flips w) (λ q content t. sym (ap (has_content (record { 0 = content })) (flipped_at limit w flips is q) ∙ in_flagged (last_flag flips) (record { 0 = content }) (lines_at w q)) ∙ t) held

  -- a new line has a content that was not drawn before
  printed_once : (v : World) (h : Handle) (x : Line) (most : ℕ) → x.content.0 ≡ w.next + 1 → ((q : ℕ) → lines_at v q ≡ cond (eqb q h.0) (last_of most (lines_at w h.0 ++ x ∷ [])) (lines_at w q)) → AreHeldOnce v
  printed_once v h x most new lines a b content here there = both (old a here) (old b there) where
    held_or_new : (q : ℕ) → Holds v q content → Holds w q content ⊎ ((q ≡ h.0) × (content ≡ w.next + 1))
    held_or_new q t = by_bool (eqb q h.0) _
        (λ own. ours q (eqb-true q h.0 own) (in_pushed (record { 0 = content }) x (lines_at w h.0)
        (in_dropped (record { 0 = content }) (length (lines_at w h.0 ++ x ∷ []) - most) (lines_at w h.0 ++ x ∷ [])
        (sym (ap (has_content (record { 0 = content })) (lines q ∙ ap (λ b. cond b (last_of most (lines_at w h.0 ++ x ∷ [])) (lines_at w q)) own)) ∙ t))))
        (λ other. inl (sym (ap (has_content (record { 0 = content })) (lines q ∙ ap (λ b. cond b (last_of most (lines_at w h.0 ++ x ∷ [])) (lines_at w q)) other)) ∙ t))
      where
        ours : (q : ℕ) → q ≡ h.0 → (has_content (record { 0 = content }) (lines_at w h.0) ≡ true) ⊎ (x.content.0 ≡ content) → Holds w q content ⊎ ((q ≡ h.0) × (content ≡ w.next + 1))
        ours q e (inl t) = inl (ap (λ k. has_content (record { 0 = content }) (lines_at w k)) e ∙ t)
        ours q e (inr same) = inr (e, sym same ∙ new)

    old : (q : ℕ) → Holds v q content → (Holds w q content × (content < w.next)) ⊎ ((q ≡ h.0) × (content ≡ w.next + 1))
    old q t = by (held_or_new q t) where
      by : Holds w q content ⊎ ((q ≡ h.0) × (content ≡ w.next + 1)) → (Holds w q content × (content < w.next)) ⊎ ((q ≡ h.0) × (content ≡ w.next + 1))
      by (inl t) = inl (t, below_next w.next content (lines_at w q) (is.apart q) t)
      by (inr new) = inr new

    both : (Holds w a content × (content < w.next)) ⊎ ((a ≡ h.0) × (content ≡ w.next + 1)) → (Holds w b content × (content < w.next)) ⊎ ((b ≡ h.0) × (content ≡ w.next + 1)) → a ≡ b
    both (inl x) (inl y) = held a b content x.0 y.0
    both (inl x) (inr y) = absurd (let l = x.1 in let e = y.1 in omega arith)
    both (inr x) (inl y) = absurd (let l = y.1 in let e = x.1 in omega arith)
    both (inr x) (inr y) = x.0 ∙ sym y.0

what_once : (limit : ℕ) (w : World) (h : Handle) (a : What) → IsWorldKept limit w → AreHeldOnce w → AreHeldOnce (after_of w h a)
unfolding after_of
what_once limit w h (Add spec) is held = fewer w (after_of w h (Add spec)) (λ q content t. in_cleared (record { 0 = content }) (eqb q w.next) (lines_at (after_of w h (Add spec)) q) (lines_at w q) (put_at w w.next [] q) t) held
what_once limit w h Close is held = fewer w (after_of w h Close) (λ q content t. in_cleared (record { 0 = content }) (eqb q h.0) (lines_at (after_of w h Close) q) (lines_at w q) (removed_at w h.0 q) t) held
what_once limit w h (Rename name flips) is held = flips_once limit w is held flips
what_once limit w h (Print spec) is held =
    let x = line_of (printed_at w h.0) w.next spec in
    printed_once limit w is held (after_of w h (Print spec)) h x w.limit refl (put_at w h.0 (last_of w.limit (lines_at w h.0 ++ x ∷ [])))
what_once limit w h Clear is held = fewer w (after_of w h Clear) (λ q content t. in_cleared (record { 0 = content }) (eqb q h.0) (lines_at (after_of w h Clear) q) (lines_at w q) (put_at w h.0 [] q) t) held
what_once limit w h (Flips flips) is held = flips_once limit w is held flips
what_once limit w h (Limit most) is held = fewer w (after_of w h (Limit most)) (λ q content t. in_dropped (record { 0 = content }) (length (lines_at w q) - most) (lines_at w q) (sym (ap (has_content (record { 0 = content })) (limited_at most w q)) ∙ t)) held
what_once limit w h _ is held = held

pub once-change : (limit : ℕ) (world : World) (change : Change) → IsWorldKept limit world → AreHeldOnce world → AreHeldOnce (after world change)
once-change limit world change is held = what_once limit world change.buffer change.what is held

pub once-first : (limit : ℕ) → AreHeldOnce (first_world limit)
once-first limit a b content here there = absurd (false≢true (sym (ap (has_content (record { 0 = content })) (no_lines limit a)) ∙ here))

-- there are no lines at the start, and no filters
pub shown-first : (limit : ℕ) → AreShown [] (first_world limit)
shown-first limit = all_shown [] (first_world limit) (λ q t. All-same (Shown [] (name_at (first_world limit) q)) (lines_at (first_world limit) q) [] (no_lines limit q) (All-nil (Shown [] (name_at (first_world limit) q))))
