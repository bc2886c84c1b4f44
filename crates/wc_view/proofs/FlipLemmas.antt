-- Lines that are the same but for their flags, and what the events of these make of them.
use Rattle.std.proofs.Common.{◌≡◌, ◌⊎◌, inl, inr, ℕ, Bool, true, false, not, ◌||◌, List, [], ◌∷◌, ◌++◌, map, flat_map, Option, Some, None, option_map, refl, sym, ap, subst, ◌∙◌, arith, eqb}
use Rattle.std.specs.Prelude.{unwrap_or, bytes_eq}
use Rattle.std.specs.List.{list_any, find as find_first}
use Rattle.std.specs.FinMap.{get, find, entries, from_entries, get-from_entries, get-entries}
use Rattle.std.specs.Ordering.{nat_cmp}
use Rattle.std.specs.Cmp.{nat_cmp_total}
use Rattle.std.proofs.lemmas.Bool.{eq-eqb, eqb-true, or_parts}
use Rattle.std.proofs.lemmas.Bool.Decides.{nat_tests}
use Rattle.std.proofs.lemmas.List.{map-append}
use Rattle.std.proofs.lemmas.List.Folds.{list_any-append}
use Rattle.wc_text.specs.declared.names.Handle.{Handle}
use Rattle.wc_lines.specs.declared.line.Line.{Line}
use Rattle.wc_lines.specs.Ring.{has_content, set_displayed}
use Rattle.wc_buffers.specs.declared.row.BufferEntry.{BufferEntry}
use Rattle.wc_buffers.specs.Groups.{has, in_group, rows}
use Rattle.wc_buffers.specs.Calls.{EntryGroups, handle_of}
use Rattle.wc_model.specs.declared.change.Flip.{Flip}
use Rattle.wc_model.specs.declared.notice.EventKind.TheVariants as kind
use Rattle.wc_model.specs.World.{World, lines_at as lines_in}
use Rattle.wc_model.specs.Order.{order}
use Rattle.wc_model.specs.Apply.{flip_all, with_flips}
use Rattle.wc_model.specs.Notices.{bool_eq, same_flag, is_flipped as differs, flips_in, flips_between}
use Rattle.wc_model.specs.Parts.{is_flipped, flag_part}
use Rattle.wc_events.specs.BufferObjects.{id_of}
use Rattle.wc_view.specs.Parts.{Part}
use Rattle.wc_view.specs.Views.{shown_line, view_of, HasAll, IsMirrorable, ContentsDiffer, fold_all, part_events}
use Rattle.wc_view.proofs.EntryLemmas.{by_bool, tied}
use Rattle.wc_view.proofs.FlagTold.{Alike, as_lines, all_events}
use Rattle.wc_view.proofs.TrimTold.{from_lines}

-- ---- the lines of a world after flags were set
pub nothing_flipped : (flips : List Flip) → with_flips flips [] ≡ []
nothing_flipped [] = refl
nothing_flipped (flip ∷ flips) = nothing_flipped flips

find_mapped : {X : Type 0} (f : X → X) (q : ℕ) (es : List (ℕ × X)) → find nat_cmp q (map (λ e. (e.0, f e.1)) es) ≡ option_map f (find nat_cmp q es)
find_mapped f q [] = refl
find_mapped f q (e ∷ es) = by_bool (eqb q e.0) _
    (λ t. rw (tied q e.0, t) refl)
    (λ t. rw (tied q e.0, t) (find_mapped f q es))

pub mapped_lines : (f : List Line → List Line) (world following : World) → f [] ≡ [] → following.lines ≡ from_entries (map (λ e. (e.0, f e.1)) (entries world.lines))
    → (q : ℕ) → lines_in following q ≡ f (lines_in world q)
mapped_lines f world following nothing is q =
    ap (λ m. unwrap_or (get m q) []) is ∙ ap (λ o. unwrap_or o []) (get-from_entries nat_cmp_total (map (λ e. (e.0, f e.1)) (entries world.lines)) q
    ∙ find_mapped f q (entries world.lines) ∙ ap (option_map f) (sym (get-entries world.lines q)))
    ∙ by (get world.lines q)
  where
    by : (o : Option (List Line)) → unwrap_or (option_map f o) [] ≡ f (unwrap_or o [])
    by None = sym nothing
    by (Some lines) = refl

pub flipped_lines : (flips : List Flip) (world following : World) → following.lines ≡ (flip_all flips world).lines → (q : ℕ) → lines_in following q ≡ with_flips flips (lines_in world q)
flipped_lines flips world following is q = mapped_lines (with_flips flips) world following (nothing_flipped flips) is q

-- ---- lines that are the same but for their flags
abbrev SameBut : List Line → List Line → Type 0
SameBut [] [] = Unit {0}
SameBut (line ∷ lines) (new ∷ news) = (record line { displayed = new.displayed } ≡ new) × SameBut lines news
SameBut _ _ = ⊥

same_self : (lines : List Line) → SameBut lines lines
same_self [] = tt
same_self (line ∷ lines) = (refl, same_self lines)

same_set : (content : Handle) (on : Bool) (lines news : List Line) → SameBut lines news → SameBut lines (set_displayed content on news)
same_set content on [] [] s = s
same_set content on [] (new ∷ news) s = absurd s
same_set content on (line ∷ lines) [] s = absurd s
same_set content on (line ∷ lines) (new ∷ news) s = by_bool (eqb new.content.0 content.0) _
    (λ t. rw t (ap (λ (l : Line). record l { displayed = on }) s.0, s.1))
    (λ t. rw t (s.0, same_set content on lines news s.1))

same_flipped : (flips : List Flip) (lines news : List Line) → SameBut lines news → SameBut lines (with_flips flips news)
same_flipped [] lines news s = s
same_flipped (flip ∷ flips) lines news s = same_flipped flips lines (set_displayed flip.content flip.displayed news) (same_set flip.content flip.displayed lines news s)

-- the line of the same content
abbrev Found : List Line → List Line → List Line → Type 0
Found all [] [] = Unit {0}
Found all (line ∷ lines) (new ∷ news) = (find_first (λ (other : Line). eqb other.content.0 new.content.0) all ≡ Some line) × Found all lines news
Found all _ _ = ⊥

found_after : (x : Line) (all lines news : List Line) → has_content x.content news ≡ false → Found all lines news → Found (x ∷ all) lines news
found_after x all [] [] e f = tt
found_after x all [] (new ∷ news) e f = absurd f
found_after x all (line ∷ lines) [] e f = absurd f
found_after x all (line ∷ lines) (new ∷ news) e f =
    let o = or_parts (eqb new.content.0 x.content.0) (has_content x.content news) e in
    let apart : eqb x.content.0 new.content.0 ≡ false = (let z = o.0 in grind (arith, nat_tests)) in
    (rw apart f.0, found_after x all lines news o.1 f.1)

found_all : (lines news : List Line) → SameBut lines news → ContentsDiffer news → Found lines lines news
found_all [] [] s apart = tt
found_all [] (new ∷ news) s apart = absurd s
found_all (line ∷ lines) [] s apart = absurd s
found_all (line ∷ lines) (new ∷ news) s apart =
    let is : line.content ≡ new.content = ap (λ (l : Line). l.content) s.0 in
    let same : eqb line.content.0 new.content.0 ≡ true = eq-eqb line.content.0 new.content.0 (ap (λ (h : Handle). h.0) is) in
    (rw same refl, found_after line lines lines news (subst (λ c. has_content c news ≡ false) (sym is) apart.0) (found_all lines news s.1 apart.1))

-- what differs is told
abbrev Tells : List Line → List Handle → List Line → Type 0
Tells all told [] = Unit {0}
Tells all told (new ∷ news) = (differs all new ≡ true → is_flipped told new ≡ true) × Tells all told news

tells_within : (all : List Line) (told more : List Handle) (news : List Line) → ((new : Line) → is_flipped told new ≡ true → is_flipped more new ≡ true) → Tells all told news → Tells all more news
tells_within all told more [] in_more t = tt
tells_within all told more (new ∷ news) in_more t = (λ e. in_more new (t.0 e), tells_within all told more news in_more t.1)

flips_with : (all : List Line) (new : Line) (news : List Line) → differs all new ≡ true → flips_in all (new ∷ news) ≡ new.content ∷ flips_in all news
flips_with all new news t = rw t refl

flips_without : (all : List Line) (new : Line) (news : List Line) → differs all new ≡ false → flips_in all (new ∷ news) ≡ flips_in all news
flips_without all new news t = rw t refl

one_of : (flips : List Handle) (line : Line) → is_flipped (line.content ∷ flips) line ≡ true
one_of flips line = rw (eq-eqb line.content.0 line.content.0 refl) refl

one_more : (flip : Handle) (flips : List Handle) (line : Line) → is_flipped flips line ≡ true → is_flipped (flip ∷ flips) line ≡ true
one_more flip flips line e = by_bool (eqb flip.0 line.content.0) _ (λ u. rw u refl) (λ u. rw u e)

own_tells : (all news : List Line) → Tells all (flips_in all news) news
own_tells all [] = tt
own_tells all (new ∷ news) = by_bool (differs all new) _
    (λ t. subst (λ told. Tells all told (new ∷ news)) (sym (flips_with all new news t)) (
      (λ e. one_of (flips_in all news) new),
      tells_within all (flips_in all news) (new.content ∷ flips_in all news) news (λ other e. one_more new.content (flips_in all news) other e) (own_tells all news),
    ))
    (λ t. subst (λ told. Tells all told (new ∷ news)) (sym (flips_without all new news t)) (
      (λ e. absurd (let z : false ≡ true = sym t ∙ e in cc)),
      own_tells all news,
    ))

same_bools : (a b : Bool) → not (bool_eq a b) ≡ false → a ≡ b
same_bools true true e = refl
same_bools true false e = absurd (let z = e in cc)
same_bools false true e = absurd (let z = e in cc)
same_bools false false e = refl

alike_by : (all : List Line) (told : List Handle) (lines news : List Line) → SameBut lines news → Found all lines news → Tells all told news → Alike told (view_of lines) news
alike_by all told [] [] s f t = tt
alike_by all told [] (new ∷ news) s f t = absurd s
alike_by all told (line ∷ lines) [] s f t = absurd s
alike_by all told (line ∷ lines) (new ∷ news) s f t =
    (record { like = ap shown_line s.0; same = same }, alike_by all told lines news s.1 f.1 t.1)
  where
    same : is_flipped told new ≡ false → shown_line line ≡ shown_line new
    same e = by_bool (differs all new) _
        (λ u. absurd (let z : true ≡ false = sym (t.0 u) ∙ e in cc))
        (λ u. let flag : new.displayed ≡ line.displayed = same_bools new.displayed line.displayed (ap (λ o. not (same_flag new o)) (sym f.0) ∙ u) in
        ap (λ d. shown_line (record line { displayed = d })) (sym flag) ∙ ap shown_line s.0)

-- ---- what is told of all buffers
or_true : (b : Bool) → (b || true) ≡ true
or_true true = refl
or_true false = refl

part_told : {A : Type 0} (test : A → Bool) (f : ℕ → List A) (q : ℕ) (buffers : List ℕ) → list_any (λ b. eqb b q) buffers ≡ true → list_any test (f q) ≡ true
    → list_any test (flat_map f buffers) ≡ true
part_told test f q [] there e = absurd (let z = there in cc)
part_told test f q (b ∷ buffers) there e =
    list_any-append test (f b) (flat_map f buffers) ∙ by_bool (eqb b q) _
    (λ t. let one : list_any test (f b) ≡ true = ap (λ h. list_any test (f h)) (eqb-true b q t) ∙ e in rw one refl)
    (λ t. let more : list_any test (flat_map f buffers) ≡ true = part_told test f q buffers (rw t at there) e in rw more (or_true (list_any test (f b))))

abbrev between : World → World → ℕ → List Handle
between world following buffer = flips_in (lines_in world buffer) (lines_in following buffer)

all_tell : (world following : World) (q : ℕ) → list_any (λ b. eqb b q) (order following.groups) ≡ true
    → Tells (lines_in world q) (flips_between world following) (lines_in following q)
all_tell world following q there =
    tells_within (lines_in world q) (between world following q) (flips_between world following) (lines_in following q)
    (λ new e. part_told (λ (flip : Handle). eqb flip.0 new.content.0) (between world following) q (order following.groups) there e)
    (own_tells (lines_in world q) (lines_in following q))

-- the buffers in order
in_rows : (q : ℕ) (g : List BufferEntry) → list_any (λ b. eqb b q) (map handle_of g) ≡ in_group handle_of q g
in_rows q [] = refl
in_rows q (e ∷ g) = rw (in_rows q g) refl

in_order : (q : ℕ) (groups : EntryGroups) → list_any (λ b. eqb b q) (order groups) ≡ has handle_of q groups
in_order q [] = refl
in_order q (g ∷ groups) =
    ap (list_any (λ b. eqb b q)) (map-append handle_of g (rows groups)) ∙ list_any-append (λ b. eqb b q) (map handle_of g) (order groups)
    ∙ λ i. in_rows q g i || in_order q groups i

flagged_like : (flips : List Flip) (world following : World) → IsMirrorable world → ((q : ℕ) → has handle_of q following.groups ≡ has handle_of q world.groups)
    → ((q : ℕ) → lines_in following q ≡ with_flips flips (lines_in world q)) → ((q : ℕ) → ContentsDiffer (lines_in following q))
    → (q : ℕ) → Alike (flips_between world following) (view_of (lines_in world q)) (lines_in following q)
flagged_like flips world following stands groups lines apart q = by_bool (has handle_of q following.groups) _
    (λ t. alike_by (lines_in world q) (flips_between world following) (lines_in world q) (lines_in following q) same (found_all (lines_in world q) (lines_in following q) same (apart q))
    (all_tell world following q (in_order q following.groups ∙ t)))
    (λ t. let none : lines_in world q ≡ [] = stands.gone q (sym (groups q) ∙ t) in
    let after_none : lines_in following q ≡ [] = lines q ∙ ap (with_flips flips) none ∙ nothing_flipped flips in
    subst (λ ls. Alike (flips_between world following) (view_of ls) (lines_in following q)) (sym none)
    (subst (Alike (flips_between world following) []) (sym after_none) tt))
  where
    same : SameBut (lines_in world q) (lines_in following q)
    same = subst (SameBut (lines_in world q)) (sym (lines q)) (same_flipped flips (lines_in world q) (lines_in world q) (same_self (lines_in world q)))

-- ---- what a client has after the events of flags
flags_show : (limit : Option ℕ) (id : List ℕ) (part : Option Part) (world following : World) (told : List Handle) (buffers : List ℕ) → bytes_eq (id_of kind.LineDataChanged) id ≡ false
    → ((q : ℕ) → ContentsDiffer (lines_in following q)) → ((q : ℕ) → Alike told (view_of (lines_in world q)) (lines_in following q))
    → ((q : ℕ) → (list_any (λ b. eqb b q) buffers ≡ true) ⊎ (lines_in world q ≡ lines_in following q))
    → HasAll part world → HasAll (fold_all limit id part (part_events following (map (flag_part told) buffers))) following
flags_show limit id part world following told buffers other apart like there had q =
    as_lines _ following q (all_events limit id following told (λ b. 0) other apart buffers part (λ b. view_of (lines_in world b)) like (λ b. from_lines part b (lines_in world b) (had b)) q (by (there q)))
  where
    by : (list_any (λ b. eqb b q) buffers ≡ true) ⊎ (lines_in world q ≡ lines_in following q)
        → (list_any (λ b. eqb b q) buffers ≡ true) ⊎ (view_of (lines_in world q) ≡ view_of (lines_in following q))
    by (inl t) = inl t
    by (inr e) = inr (ap view_of e)

-- once the flags of all buffers were told, and of some before
pub flips_show : (limit : Option ℕ) (id : List ℕ) (part : Option Part) (world following : World) (flips : List Flip) (before : List ℕ) → IsMirrorable world → bytes_eq (id_of kind.LineDataChanged) id ≡ false
    → ((q : ℕ) → has handle_of q following.groups ≡ has handle_of q world.groups) → ((q : ℕ) → lines_in following q ≡ with_flips flips (lines_in world q))
    → ((q : ℕ) → ContentsDiffer (lines_in following q)) → HasAll part world
    → HasAll (fold_all limit id part (part_events following (map (flag_part (flips_between world following)) (before ++ order following.groups)))) following
flips_show limit id part world following flips before stands other groups lines apart had =
    flags_show limit id part world following (flips_between world following) (before ++ order following.groups) other apart (flagged_like flips world following stands groups lines apart) there had
  where
    there : (q : ℕ) → (list_any (λ b. eqb b q) (before ++ order following.groups) ≡ true) ⊎ (lines_in world q ≡ lines_in following q)
    there q = by_bool (has handle_of q following.groups) _
        (λ t. inl (list_any-append (λ b. eqb b q) before (order following.groups) ∙ ap (λ b. list_any (λ b. eqb b q) before || b) (in_order q following.groups ∙ t) ∙ or_true (list_any (λ b. eqb b q) before)))
        (λ t. let none : lines_in world q ≡ [] = stands.gone q (sym (groups q) ∙ t) in
        inr (none ∙ sym (lines q ∙ ap (with_flips flips) none ∙ nothing_flipped flips)))
