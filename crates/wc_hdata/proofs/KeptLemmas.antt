-- What is known of the places of a walk.
use Rattle.std.proofs.Common.{◌≡◌, ℕ, suc, Bool, true, false, List, [], ◌∷◌, map, take, drop, Option, Some, None, arith, refl, sym, ap, subst, ◌∙◌}
use Rattle.std.specs.Prelude.{All, ◌==◌, find, nat_le, nat_lt, not, option_map, unwrap_or, length, ◌<◌, IfSome}
use Rattle.std.specs.List.{AllByRecursion, list_any, prefix_len}
use Rattle.std.proofs.lemmas.Bool.Decides.{nat_tests}
use Rattle.wc_text.specs.declared.names.Handle.{Handle}
use Rattle.wc_lines.specs.declared.line.Line.{Line}
use Rattle.wc_lines.specs.Held.{RingView}
use Rattle.wc_lines.specs.LineText.{HasUtf8Texts}
use Rattle.wc_buffers.specs.Calls.{EntryGroups, handle_of, is_there, buffer_of}
use Rattle.wc_buffers.specs.Groups.{in_group, has}
use Rattle.wc_buffers.specs.Kept.{handles}
use Rattle.wc_buffers.specs.declared.row.BufferEntry.{BufferEntry}
use Rattle.wc_buffers.proofs.GroupLaws.{by_bool, list_any-map}
use Rattle.wc_model.specs.World.{World}
use Rattle.wc_world.specs.Kept.{LinesView, lines_view}
use Rattle.wc_hdata.specs.declared.count.Count.{Count}
use Rattle.wc_hdata.specs.declared.count.Count.TheVariants.{One}
use Rattle.wc_hdata.specs.declared.element.Element.{Element}
use Rattle.wc_hdata.specs.declared.place.HeldLine.{HeldLine as LentLine}
use Rattle.wc_hdata.specs.declared.place.LineList.{LineList}
use Rattle.wc_hdata.specs.declared.place.LineList.TheVariants.{Own, Mixed}
use Rattle.wc_hdata.specs.Along.{along}
use Rattle.wc_hdata.specs.Kept.{Listed, AllMade, AreKept, IsHeld, IsKept, IsKeptList, IsMade, IsThere, is_made}
use Rattle.wc_hdata.specs.Lists.{by_handle, group_of, group_with, held_by, is_in, list_of_group, own_lines, put_line, shown_list}
use Rattle.wc_hdata.specs.Reached.{HeldLine, Place, Buffer, Line_at, held_line}
use Rattle.wc_hdata.specs.Starts.{list_at, mixed_among, own_at, has_own, row_is, named_in, is_named}
use Rattle.wc_hdata.specs.Steps.{all_buffers, buffers_from, place_in}
use Rattle.wc_hdata.proofs.Everywhere.{all_append, all_along, all_map, all_of, all_weaken, any_back, any_front, or_left, or_right}

-- ---- lines

all_put : (P : HeldLine → Type 0) (held : HeldLine) (lines : List HeldLine) → P held → AllByRecursion P lines → AllByRecursion P (put_line held lines)
all_put P held [] p a = (p, tt)
all_put P held (other ∷ lines) p a = by_bool (nat_le held.line.handle.0 other.line.handle.0) _
    (λ t. rw t (p, a))
    (λ f. rw f (a.0, all_put P held lines p a.1))

pub all_sorted : (P : HeldLine → Type 0) (lines : List HeldLine) → AllByRecursion P lines → AllByRecursion P (by_handle lines)
all_sorted P [] a = tt
all_sorted P (held ∷ lines) a = all_put P held (by_handle lines) a.0 (all_sorted P lines a.1)

pub lines_held : (world : World) (buffer : Handle) (lines : List Line) → is_there buffer world.groups ≡ true → All HasUtf8Texts lines → AllByRecursion (IsHeld world) (map (held_by buffer) lines)
lines_held world buffer lines there text =
    all_map HasUtf8Texts (IsHeld world) (held_by buffer) (λ line utf8. record { text = utf8; there = there }) lines (all_of HasUtf8Texts lines text)

pub lines_of_ring : (o : Option (List Line)) (limit count : ℕ) (ring : RingView) → Some (lines_view ring) ≡ option_map (λ (lines : List Line). record { limit = limit; lines = lines; pushed = count }) o → unwrap_or o [] ≡ ring.lines
lines_of_ring None limit count ring e = absurd (cc)
lines_of_ring (Some lines) limit count ring e = let same : lines_view ring ≡ record { limit = limit; lines = lines; pushed = count } = cc in ap (λ (view : LinesView). view.lines) (sym same)

-- ---- buffers

in_own : (group : List BufferEntry) → AllByRecursion (λ (h : Handle). in_group handle_of h.0 group ≡ true) (map (λ (e : BufferEntry). e.row.handle) group)
in_own [] = tt
in_own (e ∷ es) =
    let same : (handle_of e == handle_of e) ≡ true = grind (arith, nat_tests) in (
      or_left (handle_of e == handle_of e) (in_group handle_of (handle_of e) es) same,
      all_weaken _ _ (λ h t. or_right (handle_of e == h.0) (in_group handle_of h.0 es) t) (map (λ (e : BufferEntry). e.row.handle) es) (in_own es),
    )

there_later : (group : List BufferEntry) (groups : EntryGroups) (hs : List Handle) → AllByRecursion (IsThere groups) hs → AllByRecursion (IsThere (group ∷ groups)) hs
there_later group groups hs a = all_weaken (IsThere groups) (IsThere (group ∷ groups)) (λ h t. or_right (in_group handle_of h.0 group) (has handle_of h.0 groups) t) hs a

there_first : (group : List BufferEntry) (groups : EntryGroups) → AllByRecursion (IsThere (group ∷ groups)) (map (λ (e : BufferEntry). e.row.handle) group)
there_first group groups = all_weaken (λ (h : Handle). in_group handle_of h.0 group ≡ true) (IsThere (group ∷ groups)) (λ h t. or_left (in_group handle_of h.0 group) (has handle_of h.0 groups) t) (map (λ (e : BufferEntry). e.row.handle) group) (in_own group)

pub group_there : (groups : EntryGroups) (buffer : ℕ) → AllByRecursion (IsThere groups) (group_of groups buffer)
group_there [] buffer = tt
group_there (group ∷ groups) buffer = by_bool (is_in buffer (map (λ (e : BufferEntry). e.row.handle) group)) _
    (λ t. rw t (there_first group groups))
    (λ f. rw f (there_later group groups (group_of groups buffer) (group_there groups buffer)))

pub all_there : (groups : EntryGroups) → AllByRecursion (IsThere groups) (all_buffers groups)
all_there [] = tt
all_there (group ∷ groups) = all_append (IsThere (group ∷ groups)) (map (λ (e : BufferEntry). e.row.handle) group) (all_buffers groups) (there_first group groups) (there_later group groups (all_buffers groups) (all_there groups))

-- ---- places along a list

pub buffers_kept : (listed : Listed) (count : Count) (at : ℕ) → AreKept listed (map Buffer (along count at (all_buffers listed.world.groups)))
buffers_kept listed count at = all_map (IsThere listed.world.groups) (IsKept listed) Buffer (λ h t. t) _ (all_along (IsThere listed.world.groups) count at (all_buffers listed.world.groups) (all_there listed.world.groups))

pub lines_kept : (listed : Listed) (count : Count) (at : ℕ) (lines : List HeldLine) → AllByRecursion (IsHeld listed.world) lines → AreKept listed (map Line_at (along count at lines))
lines_kept listed count at lines a = all_map (IsHeld listed.world) (IsKept listed) Line_at (λ h t. t) _ (all_along (IsHeld listed.world) count at lines a)

-- ---- lists

made_of : (listed : Listed) (buffer : Handle) (groups : List (List Handle)) → AllByRecursion (IsMade listed.firsts) groups → is_there buffer listed.world.groups ≡ true → IsKeptList listed (list_of_group buffer (group_with buffer.0 groups))
made_of listed buffer [] made there = there
made_of listed buffer (group ∷ groups) made there = by_bool (is_in buffer.0 group) _
    (λ t. rw t (of_group group made.0))
    (λ f. rw f (made_of listed buffer groups made.1 there)) where
      of_group : (group : List Handle) → IsMade listed.firsts group → IsKeptList listed (list_of_group buffer group)
      of_group [] m = there
      of_group (first ∷ []) m = there
      of_group (first ∷ (second ∷ others)) m = m

-- the list that a buffer shows is its own, or one that was made
pub shown_kept : (listed : Listed) (buffer : Handle) → AllMade listed → is_there buffer listed.world.groups ≡ true → IsKeptList listed (shown_list listed.world.groups buffer)
shown_kept listed buffer made there = made_of listed buffer (handles listed.world.groups) made there

pub list_kept : (listed : Listed) (buffer : Handle) (list : LineList) → list ≡ shown_list listed.world.groups buffer → AllMade listed → is_there buffer listed.world.groups ≡ true → IsKeptList listed list
list_kept listed buffer list e made there = subst (IsKeptList listed) (sym e) (shown_kept listed buffer made there)

found_in : {A : Type 0} (P : A → Type 0) (p : A → Bool) (xs : List A) (x : A) → AllByRecursion P xs → find p xs ≡ Some x → P x
found_in P p [] x a e = absurd (cc)
found_in P p (y ∷ ys) x a e = by_bool (p y) _
    (λ t. let same : y ≡ x = (let h : Some y ≡ Some x = (rw t at e) in cc) in subst P same a.0)
    (λ f. found_in P p ys x a.1 (rw f at e))

mixed_made : (firsts : List Handle) (groups : EntryGroups) (pointer : ℕ) (all : List (List Handle)) (first : Handle) → AllByRecursion (IsMade firsts) all → mixed_among groups pointer all ≡ Some first → is_made firsts first.0 ≡ true
mixed_made firsts groups pointer [] first a e = absurd (cc)
mixed_made firsts groups pointer ([] ∷ all) first a e = mixed_made firsts groups pointer all first a.1 e
mixed_made firsts groups pointer ((one ∷ []) ∷ all) first a e = mixed_made firsts groups pointer all first a.1 e
mixed_made firsts groups pointer ((one ∷ (two ∷ others)) ∷ all) first a e = by_bool (row_is (λ row. row.mixed_lines.0 == pointer) (buffer_of one groups)) _
    (λ t. let same : one ≡ first = (let h : Some one ≡ Some first = (rw t at e) in cc) in subst (λ (h : Handle). is_made firsts h.0 ≡ true) same a.0)
    (λ f. mixed_made firsts groups pointer all first a.1 (rw f at e))

-- the list that a pointer names is the own one of a buffer, or one that was made
pub at_kept : (listed : Listed) (pointer : ℕ) (list : LineList) → AllMade listed → list_at listed.world.groups pointer ≡ Some list → IsKeptList listed list
at_kept listed pointer list made e = by (own_at listed.world.groups pointer) refl where
  by_mixed : (o : Option Handle) → mixed_among listed.world.groups pointer (handles listed.world.groups) ≡ o → option_map Mixed o ≡ Some list → IsKeptList listed list
  by_mixed None m f = absurd (cc)
  by_mixed (Some first) m f = let same : Mixed first ≡ list = cc in subst (IsKeptList listed) same (mixed_made listed.firsts listed.world.groups pointer (handles listed.world.groups) first made m)

  by : (o : Option Handle) → own_at listed.world.groups pointer ≡ o → IsKeptList listed list
  by None m = by_mixed _ refl (rw m at e)
  by (Some buffer) m =
      let own : Some (Own buffer) ≡ Some list = rw m at e in
      let same : Own buffer ≡ list = cc in
      subst (IsKeptList listed) same (found_in (IsThere listed.world.groups) (has_own listed.world.groups pointer) (all_buffers listed.world.groups) buffer (all_there listed.world.groups) m)

-- ---- lines that pointers name

pub named_held : (world : World) (element : Element) (pointer : ℕ) (lines : List HeldLine) (held : HeldLine) → AllByRecursion (IsHeld world) lines → named_in element pointer lines ≡ Some held → IsHeld world held
named_held world element pointer lines held a e = found_in (IsHeld world) (λ held. is_named element pointer held.line) lines held a e

-- ---- the buffer at its own place

abbrev others : Handle → Handle → Bool
others buffer h = not (h.0 == buffer.0)

one_at : (buffer : Handle) (all : List Handle) → list_any (λ (h : Handle). h.0 == buffer.0) all ≡ true → (prefix_len (others buffer) all < length all) × (take 1 (drop (prefix_len (others buffer) all) all) ≡ buffer ∷ [])
one_at buffer [] t = absurd (cc)
one_at buffer (first ∷ all) t = by_bool (first.0 == buffer.0) _ here (λ other. later other (one_at buffer all (rw other at t))) where
  here : (first.0 == buffer.0) ≡ true → (prefix_len (others buffer) (first ∷ all) < length (first ∷ all)) × (take 1 (drop (prefix_len (others buffer) (first ∷ all)) (first ∷ all)) ≡ buffer ∷ [])
  here same =
      let e : first.0 ≡ buffer.0 = grind (arith, nat_tests) in
      let none : prefix_len (others buffer) (first ∷ all) ≡ 0 = rw same refl in
      (omega (arith, none), ap (λ n. take 1 (drop n (first ∷ all))) none ∙ ap (λ (n : ℕ). record { 0 = n } ∷ []) e)

  later : (first.0 == buffer.0) ≡ false → (prefix_len (others buffer) all < length all) × (take 1 (drop (prefix_len (others buffer) all) all) ≡ buffer ∷ [])
      → (prefix_len (others buffer) (first ∷ all) < length (first ∷ all)) × (take 1 (drop (prefix_len (others buffer) (first ∷ all)) (first ∷ all)) ≡ buffer ∷ [])
  later other on =
      let more : prefix_len (others buffer) (first ∷ all) ≡ suc (prefix_len (others buffer) all) = rw other (omega arith) in
      (let lt = on.0 in omega (arith, more, lt), ap (λ n. take 1 (drop n (first ∷ all))) more ∙ on.1)

any_of : (buffer : Handle) (groups : EntryGroups) → is_there buffer groups ≡ true → list_any (λ (h : Handle). h.0 == buffer.0) (all_buffers groups) ≡ true
any_of buffer [] t = absurd (cc)
any_of buffer (group ∷ groups) t = by_bool (in_group handle_of buffer.0 group) _
    (λ here. any_front (λ (h : Handle). h.0 == buffer.0) (map (λ (e : BufferEntry). e.row.handle) group) (all_buffers groups) (list_any-map (λ (e : BufferEntry). e.row.handle) (λ (h : Handle). h.0 == buffer.0) (λ e. handle_of e == buffer.0) (λ e. refl) group ∙ here))
    (λ gone. any_back (λ (h : Handle). h.0 == buffer.0) (map (λ (e : BufferEntry). e.row.handle) group) (all_buffers groups) (any_of buffer groups (rw gone at t)))

-- a buffer that is there is the one at its own place
pub one_buffer : (groups : EntryGroups) (count : Count) (buffer : Handle) (cursor : List Place) → is_there buffer groups ≡ true → count ≡ One → cursor ≡ Buffer buffer ∷ [] → cursor ≡ buffers_from groups count buffer
one_buffer groups count buffer cursor there one is =
    let all = all_buffers groups in
    let on = one_at buffer all (any_of buffer groups there) in
    let lt = on.0 in
    let t : nat_lt (prefix_len (others buffer) all) (length all) ≡ true = grind (arith, nat_tests) in
    let place : place_in buffer all ≡ prefix_len (others buffer) all = rw t refl in
    is ∙ ap (map Buffer) (sym (ap (λ n. take 1 (drop n all)) place ∙ on.1)) ∙ ap (λ c. buffers_from groups c buffer) (sym one)

-- ---- places, by what they are made of

pub kept_buffers : (listed : Listed) (buffers : List Handle) (count : Count) (at : ℕ) (cursor : List Place) → buffers ≡ all_buffers listed.world.groups → cursor ≡ map Buffer (along count at buffers) → AreKept listed cursor
kept_buffers listed buffers count at cursor all is = subst (AreKept listed) (sym (is ∙ ap (λ bs. map Buffer (along count at bs)) all)) (buffers_kept listed count at)

pub kept_own : (listed : Listed) (world : World) (buffer : Handle) (lines : List Line) (count : Count) (at : ℕ) (cursor : List Place) → world ≡ listed.world → is_there buffer listed.world.groups ≡ true
    → (is_there buffer world.groups ≡ true → AllByRecursion (IsHeld world) (own_lines world buffer)) → own_lines world buffer ≡ map (held_by buffer) lines → cursor ≡ map Line_at (along count at (map (held_by buffer) lines)) → AreKept listed cursor
kept_own listed world buffer lines count at cursor same there held own is =
    let first : AllByRecursion (IsHeld world) (map (held_by buffer) lines) = subst (AllByRecursion (IsHeld world)) own (held (subst (λ (w : World). is_there buffer w.groups ≡ true) (sym same) there)) in
    let second : AllByRecursion (IsHeld listed.world) (map (held_by buffer) lines) = subst (λ (w : World). AllByRecursion (IsHeld w) (map (held_by buffer) lines)) same first in
    subst (AreKept listed) (sym is) (lines_kept listed count at (map (held_by buffer) lines) second)

pub kept_list : (listed : Listed) (groups : EntryGroups) (pointer : ℕ) (list : LineList) → groups ≡ listed.world.groups → AllMade listed → Some list ≡ list_at groups pointer → IsKeptList listed list
kept_list listed groups pointer list same made e = at_kept listed pointer list made (ap (λ (gs : EntryGroups). list_at gs pointer) (sym same) ∙ sym e)

pub line_held : (world : World) (element : Element) (pointer : ℕ) (own lines : List HeldLine) (result : Option LentLine) → own ≡ lines → AllByRecursion (IsHeld world) own → option_map held_line result ≡ named_in element pointer lines → IfSome result (λ held. IsHeld world (held_line held))
line_held world element pointer own lines None same a got = tt
line_held world element pointer own lines (Some held) same a got = named_held world element pointer lines (held_line held) (subst (AllByRecursion (IsHeld world)) same a) (sym got)

pub there_all : (listed : Listed) (world : World) (buffers : List Handle) → world ≡ listed.world → buffers ≡ all_buffers listed.world.groups → AllByRecursion (IsThere world.groups) buffers
there_all listed world buffers same all = subst (λ (w : World). AllByRecursion (IsThere w.groups) buffers) (sym same) (subst (AllByRecursion (IsThere listed.world.groups)) (sym all) (all_there listed.world.groups))
