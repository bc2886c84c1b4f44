-- The events of flags are folded to the lines after a change.
use Rattle.std.proofs.Common.{◌≡◌, ◌⊎◌, inl, inr, ℕ, true, false, cond, List, [], ◌∷◌, drop, map, filter, fold, codes, Option, Some, None, refl, sym, ap, subst, ◌∙◌, arith, eqb}
use Rattle.std.specs.Prelude.{unwrap_or, bytes_eq}
use Rattle.std.specs.Option.{option_and_then}
use Rattle.std.specs.List.{list_any, cons_option, drop-map}
use Rattle.std.specs.FinMap.{get, get-insert}
use Rattle.std.specs.Cmp.{nat_cmp_total}
use Rattle.std.proofs.lemmas.Bool.{eq-eqb, eqb-true, or_parts}
use Rattle.std.proofs.lemmas.Bool.Decides.{nat_tests}
use Rattle.std.proofs.lemmas.List.{map-id}
use Rattle.wc_text.specs.declared.names.Handle.{Handle}
use Rattle.wc_lines.specs.declared.line.Line.{Line}
use Rattle.wc_lines.specs.Ring.{has_content}
use Rattle.wc_model.specs.declared.notice.EventKind.TheVariants as kind
use Rattle.wc_model.specs.declared.notice.Notice.{Notice}
use Rattle.wc_model.specs.World.{World, lines_at as lines_in}
use Rattle.wc_model.specs.Order.{order}
use Rattle.wc_model.specs.Parts.{is_flipped, has_flips, flag_part, flag_parts}
use Rattle.wc_objects.specs.declared.object.WireMessage.{WireMessage}
use Rattle.wc_events.specs.BufferObjects.{id_of, event_of, objects_of, flag_keys, flag_item, flag_items, flag_objects}
use Rattle.wc_view.specs.declared.mirror_buffer.MirrorLine.{MirrorLine}
use Rattle.wc_view.specs.declared.flags.LineFlag.{LineFlag}
use Rattle.wc_view.specs.Each.{each}
use Rattle.wc_view.specs.Flags.{flag_in, flags_on}
use Rattle.wc_view.specs.Parts.{Part, lines_at, flagged_line, with_line_flag, flagged_in, with_flag, with_flags}
use Rattle.wc_view.specs.Fold.{fold_lines, with_shown_flags}
use Rattle.wc_view.specs.Views.{shown_line, view_of, HasLines, HasAll, ContentsDiffer, fold_all, part_events}
use Rattle.wc_view.proofs.EntryLemmas.{by_bool, tied}
use Rattle.wc_view.proofs.LineTold.{pointer_told, truth_told, items_told}
use Rattle.wc_view.proofs.TrimTold.{HasThese}

-- ---- what is read of an event of flags
abbrev flag_of : ℕ → Line → LineFlag
flag_of buffer line = record { buffer = buffer; content = line.content.0; displayed = line.displayed }

flag_told : (buffer : ℕ) (line : Line) → flag_in (flag_item (record { 0 = buffer }) line) ≡ Some (flag_of buffer line)
unfolding flag_in
flag_told buffer line = rw (pointer_told, truth_told) refl

each_told : (buffer : ℕ) (lines : List Line) → each flag_in (map (flag_item (record { 0 = buffer })) lines) ≡ Some (map (flag_of buffer) lines)
each_told buffer [] = refl
each_told buffer (line ∷ lines) = rw (flag_told buffer line, each_told buffer lines) refl

abbrev flags_of : ℕ → List Handle → List Line → List LineFlag
flags_of buffer flips lines = map (flag_of buffer) (filter (is_flipped flips) lines)

flags_told : (buffer : ℕ) (flips : List Handle) (lines : List Line) → flags_on (flag_objects (record { 0 = buffer }) flips lines) ≡ Some (flags_of buffer flips lines)
flags_told buffer flips lines =
    ap (option_and_then (each flag_in)) (items_told (codes "line_data") flag_keys (flag_items (record { 0 = buffer }) flips lines) refl refl)
    ∙ each_told buffer (filter (is_flipped flips) lines)

abbrev flag_message : ℕ → List Handle → List Line → WireMessage
flag_message buffer flips lines = record { id = id_of kind.LineDataChanged; objects = flag_objects (record { 0 = buffer }) flips lines }

after_flags : (limit : Option ℕ) (id : List ℕ) (held : Part) (buffer : ℕ) (flips : List Handle) (lines : List Line) → bytes_eq (id_of kind.LineDataChanged) id ≡ false
    → fold_lines limit id (Some held) (flag_message buffer flips lines) ≡ Some (with_flags held (flags_of buffer flips lines))
after_flags limit id held buffer flips lines other = rw other (ap (λ flags. with_shown_flags flags (Some held)) (flags_told buffer flips lines))

-- ---- what flags of one buffer make of its lines
abbrev all_flagged : List MirrorLine → List LineFlag → List MirrorLine
all_flagged lines flags = fold (λ lines flag. with_line_flag flag lines) lines flags

one_flag : (held : Part) (flag : LineFlag) (q : ℕ) → lines_at (with_flag held flag) q ≡ cond (eqb q flag.buffer) (with_line_flag flag (lines_at held flag.buffer)) (lines_at held q)
one_flag held flag q = by (get held flag.buffer) refl
  where
    by : (o : Option (List MirrorLine)) → get held flag.buffer ≡ o
        → lines_at (flagged_in flag held (get held flag.buffer)) q ≡ cond (eqb q flag.buffer) (with_line_flag flag (unwrap_or (get held flag.buffer) [])) (lines_at held q)
    by None e = rw e (by_bool (eqb q flag.buffer) _
        (λ t. rw t (ap (λ b. lines_at held b) (eqb-true q flag.buffer t) ∙ ap (λ o. unwrap_or o []) e))
        (λ t. rw t refl))
    by (Some lines) e = rw e (ap (λ o. unwrap_or o []) (get-insert nat_cmp_total held flag.buffer (with_line_flag flag lines) q) ∙ by_bool (eqb q flag.buffer) _
        (λ t. rw (tied q flag.buffer, t) refl)
        (λ t. rw (tied q flag.buffer, t) refl))

all_flags : (held : Part) (buffer : ℕ) (lines : List Line) (q : ℕ)
    → lines_at (with_flags held (map (flag_of buffer) lines)) q ≡ cond (eqb q buffer) (all_flagged (lines_at held buffer) (map (flag_of buffer) lines)) (lines_at held q)
all_flags held buffer [] q = by_bool (eqb q buffer) _
    (λ t. rw t (ap (λ b. lines_at held b) (eqb-true q buffer t)))
    (λ t. rw t refl)
all_flags held buffer (line ∷ lines) q =
    let now = with_flag held (flag_of buffer line) in
    let here : lines_at now buffer ≡ with_line_flag (flag_of buffer line) (lines_at held buffer) =
    one_flag held (flag_of buffer line) buffer ∙ ap (λ b. cond b (with_line_flag (flag_of buffer line) (lines_at held buffer)) (lines_at held buffer)) (eq-eqb buffer buffer refl) in
    all_flags now buffer lines q ∙ by_bool (eqb q buffer) _
    (λ t. rw t (ap (λ ls. all_flagged ls (map (flag_of buffer) lines)) here))
    (λ t. rw t (one_flag held (flag_of buffer line) q ∙ ap (λ b. cond b (with_line_flag (flag_of buffer line) (lines_at held buffer)) (lines_at held q)) t))

-- a line of a client that is a line of the buffer but for the flag, and with the flag where that is not told
pub record IsLike (flips : List Handle) (held : MirrorLine) (line : Line) : Type 0 where
  pub like : record held { displayed = line.displayed } ≡ shown_line line
  pub same : is_flipped flips line ≡ false → held ≡ shown_line line

abbrev pub Alike : List Handle → List MirrorLine → List Line → Type 0
Alike flips [] [] = Unit {0}
Alike flips (held ∷ more) (line ∷ lines) = IsLike flips held line × Alike flips more lines
Alike flips _ _ = ⊥

pub alike_view : (flips : List Handle) (lines : List Line) → Alike flips (view_of lines) lines
alike_view flips [] = tt
alike_view flips (line ∷ lines) = (record { like = refl; same = λ e. refl }, alike_view flips lines)

-- a flag of another content does nothing
abbrev line_flagged : MirrorLine → List LineFlag → MirrorLine
line_flagged line flags = fold (λ line flag. flagged_line flag line) line flags

all_lines_flagged : (lines : List MirrorLine) (flags : List LineFlag) → all_flagged lines flags ≡ map (λ line. line_flagged line flags) lines
all_lines_flagged [] [] = refl
all_lines_flagged (x ∷ lines) [] = ap (λ ls. x ∷ ls) (all_lines_flagged lines [])
all_lines_flagged lines (flag ∷ flags) = all_lines_flagged (with_line_flag flag lines) flags ∙ by lines
  where
    by : (lines : List MirrorLine) → map (λ line. line_flagged line flags) (with_line_flag flag lines) ≡ map (λ line. line_flagged line (flag ∷ flags)) lines
    by [] = refl
    by (x ∷ lines) = ap (λ ls. line_flagged x (flag ∷ flags) ∷ ls) (by lines)

flags_with : (flips : List Handle) (buffer : ℕ) (line : Line) (lines : List Line) → is_flipped flips line ≡ true
    → flags_of buffer flips (line ∷ lines) ≡ flag_of buffer line ∷ flags_of buffer flips lines
flags_with flips buffer line lines t = rw t refl

flags_without : (flips : List Handle) (buffer : ℕ) (line : Line) (lines : List Line) → is_flipped flips line ≡ false
    → flags_of buffer flips (line ∷ lines) ≡ flags_of buffer flips lines
flags_without flips buffer line lines t = rw t refl

other_line : (flag : LineFlag) (held : MirrorLine) → eqb held.content.0 flag.content ≡ false → flagged_line flag held ≡ held
other_line flag held e = rw e refl

own_line : (flag : LineFlag) (held : MirrorLine) → eqb held.content.0 flag.content ≡ true → flagged_line flag held ≡ record held { displayed = flag.displayed }
own_line flag held e = rw e refl

-- a line after another of another content
skip_line : (flips : List Handle) (buffer : ℕ) (held : MirrorLine) (line : Line) (lines : List Line) → eqb held.content.0 line.content.0 ≡ false
    → line_flagged held (flags_of buffer flips (line ∷ lines)) ≡ line_flagged held (flags_of buffer flips lines)
skip_line flips buffer held line lines apart = by_bool (is_flipped flips line) _
    (λ t. ap (line_flagged held) (flags_with flips buffer line lines t)
    ∙ ap (λ l. line_flagged l (flags_of buffer flips lines)) (other_line (flag_of buffer line) held apart))
    (λ t. ap (line_flagged held) (flags_without flips buffer line lines t))

others_flags : (flips : List Handle) (buffer : ℕ) (held : MirrorLine) (lines : List Line) → has_content held.content lines ≡ false
    → line_flagged held (flags_of buffer flips lines) ≡ held
others_flags flips buffer held [] e = refl
others_flags flips buffer held (line ∷ lines) e =
    let o = or_parts (eqb line.content.0 held.content.0) (has_content held.content lines) e in
    let apart : eqb held.content.0 line.content.0 ≡ false = (let z = o.0 in grind (arith, nat_tests)) in
    skip_line flips buffer held line lines apart ∙ others_flags flips buffer held lines o.1

content_of : (flips : List Handle) (held : MirrorLine) (line : Line) → IsLike flips held line → held.content ≡ line.content
content_of flips held line is = ap (λ (l : MirrorLine). l.content) is.like

here_flagged : (flips : List Handle) (buffer : ℕ) (held : MirrorLine) (line : Line) (lines : List Line) → IsLike flips held line → has_content line.content lines ≡ false
    → line_flagged held (flags_of buffer flips (line ∷ lines)) ≡ shown_line line
here_flagged flips buffer held line lines is apart =
    let same : eqb held.content.0 line.content.0 ≡ true = eq-eqb held.content.0 line.content.0 (ap (λ (h : Handle). h.0) (content_of flips held line is)) in
    by_bool (is_flipped flips line) _
    (λ t. ap (line_flagged held) (flags_with flips buffer line lines t)
    ∙ ap (λ l. line_flagged l (flags_of buffer flips lines)) (own_line (flag_of buffer line) held same ∙ is.like)
    ∙ others_flags flips buffer (shown_line line) lines apart)
    (λ t. ap (line_flagged held) (flags_without flips buffer line lines t)
    ∙ ap (λ l. line_flagged l (flags_of buffer flips lines)) (is.same t) ∙ others_flags flips buffer (shown_line line) lines apart)

passed_over : (flips : List Handle) (buffer : ℕ) (line : Line) (rest : List Line) (held : List MirrorLine) (lines : List Line) → Alike flips held lines → has_content line.content lines ≡ false
    → map (λ l. line_flagged l (flags_of buffer flips (line ∷ rest))) held ≡ map (λ l. line_flagged l (flags_of buffer flips rest)) held
passed_over flips buffer line rest [] [] a e = refl
passed_over flips buffer line rest [] (x ∷ lines) a e = absurd a
passed_over flips buffer line rest (x ∷ held) [] a e = absurd a
passed_over flips buffer line rest (x ∷ held) (next ∷ lines) a e =
    let o = or_parts (eqb next.content.0 line.content.0) (has_content line.content lines) e in
    let is : x.content.0 ≡ next.content.0 = ap (λ (h : Handle). h.0) (content_of flips x next a.0) in
    let apart : eqb x.content.0 line.content.0 ≡ false = ap (λ n. eqb n line.content.0) is ∙ o.0 in
    λ i. skip_line flips buffer x line rest apart i ∷ passed_over flips buffer line rest held lines a.1 o.1 i

all_shown : (flips : List Handle) (buffer : ℕ) (held : List MirrorLine) (lines : List Line) → Alike flips held lines → ContentsDiffer lines
    → map (λ l. line_flagged l (flags_of buffer flips lines)) held ≡ view_of lines
all_shown flips buffer [] [] a apart = refl
all_shown flips buffer [] (line ∷ lines) a apart = absurd a
all_shown flips buffer (x ∷ held) [] a apart = absurd a
all_shown flips buffer (x ∷ held) (line ∷ lines) a apart =
    let rest : map (λ l. line_flagged l (flags_of buffer flips (line ∷ lines))) held ≡ view_of lines =
    passed_over flips buffer line lines held lines a.1 apart.0 ∙ all_shown flips buffer held lines a.1 apart.1 in
    λ i. here_flagged flips buffer x line lines a.0 apart.0 i ∷ rest i

-- ---- one event after another

-- the lines of each buffer once the flags of one were told
abbrev after_told : World → List Handle → ℕ → (ℕ → List MirrorLine) → ℕ → List MirrorLine
after_told world flips buffer now q =
    cond (eqb q buffer) (map (λ l. line_flagged l (flags_of buffer flips (lines_in world buffer))) (now buffer)) (now q)

none_flipped : (flips : List Handle) (lines : List Line) → list_any (is_flipped flips) lines ≡ false → filter (is_flipped flips) lines ≡ []
none_flipped flips [] e = refl
none_flipped flips (line ∷ lines) e =
    let o = or_parts (is_flipped flips line) (list_any (is_flipped flips) lines) e in
    rw o.0 (none_flipped flips lines o.1)

-- the lines after the event of a notice, where there is one
abbrev pub fold_told : Option ℕ → List ℕ → Option Part → Option WireMessage → Option Part
fold_told limit id part None = part
fold_told limit id part (Some message) = fold_lines limit id part message

pub told_then : (limit : Option ℕ) (id : List ℕ) (part : Option Part) (world : World) (notice : Notice) (parts : List Notice)
    → fold_all limit id part (part_events world (notice ∷ parts)) ≡ fold_all limit id (fold_told limit id part (event_of world notice)) (part_events world parts)
told_then limit id part world notice parts = by (event_of world notice)
  where
    by : (o : Option WireMessage) → fold_all limit id part (cons_option o (part_events world parts)) ≡ fold_all limit id (fold_told limit id part o) (part_events world parts)
    by None = refl
    by (Some message) = refl

one_event : (limit : Option ℕ) (id : List ℕ) (part : Option Part) (world : World) (flips : List Handle) (now : ℕ → List MirrorLine) (buffer : ℕ) → bytes_eq (id_of kind.LineDataChanged) id ≡ false
    → ((q : ℕ) → HasThese part q (now q))
    → (q : ℕ) → HasThese (fold_told limit id part (event_of world (flag_part flips buffer))) q (after_told world flips buffer now q)
unfolding objects_of
one_event limit id None world flips now buffer other has q = absurd (has 0)
one_event limit id (Some held) world flips now buffer other has q =
    by_bool (list_any (is_flipped flips) (lines_in world buffer)) _
    (λ t. rw t (subst (λ p. HasThese p q (after_told world flips buffer now q)) (sym (after_flags limit id held buffer flips (lines_in world buffer) other))
    (all_flags held buffer (filter (is_flipped flips) (lines_in world buffer)) q ∙ by_bool (eqb q buffer) _
    (λ u. rw u (all_lines_flagged (lines_at held buffer) (flags_of buffer flips (lines_in world buffer))
    ∙ ap (map (λ l. line_flagged l (flags_of buffer flips (lines_in world buffer)))) (has buffer)))
    (λ u. rw u (has q)))))
    (λ t. rw t (has q ∙ by_bool (eqb q buffer) _
    (λ u. rw u (ap now (eqb-true q buffer u) ∙ sym (ap (λ ls. map (λ l. line_flagged l (map (flag_of buffer) ls)) (now buffer)) (none_flipped flips (lines_in world buffer) t) ∙ map-id (now buffer))))
    (λ u. rw u refl)))

-- a client has the lines of a world, of each buffer but for so many of the oldest that it holds
abbrev pub HasLast : (ℕ → ℕ) → World → Option Part → ℕ → Type 0
HasLast count world None q = ⊥
HasLast count world (Some held) q = drop (count q) (lines_at held q) ≡ view_of (lines_in world q)

-- all of them where none is to go
pub as_lines : (part : Option Part) (world : World) (q : ℕ) → HasLast (λ b. 0) world part q → HasLines part q (lines_in world q)
as_lines None world q h = absurd h
as_lines (Some held) world q h = h

from_all : (part : Option Part) (world : World) (q : ℕ) → HasLines part q (lines_in world q) → HasLast (λ b. 0) world part q
from_all None world q h = absurd h
from_all (Some held) world q h = h

last_lines : (count : ℕ → ℕ) (world : World) (part : Option Part) (q : ℕ) (lines : List MirrorLine) → HasThese part q lines → drop (count q) lines ≡ view_of (lines_in world q) → HasLast count world part q
last_lines count world None q lines has is = absurd has
last_lines count world (Some held) q lines has is = ap (drop (count q)) has ∙ is

pub all_events : (limit : Option ℕ) (id : List ℕ) (world : World) (flips : List Handle) (count : ℕ → ℕ) → bytes_eq (id_of kind.LineDataChanged) id ≡ false → ((q : ℕ) → ContentsDiffer (lines_in world q))
    → (buffers : List ℕ) (part : Option Part) (now : ℕ → List MirrorLine) → ((q : ℕ) → Alike flips (drop (count q) (now q)) (lines_in world q)) → ((q : ℕ) → HasThese part q (now q))
    → (q : ℕ) → (list_any (λ b. eqb b q) buffers ≡ true) ⊎ (drop (count q) (now q) ≡ view_of (lines_in world q))
    → HasLast count world (fold_all limit id part (part_events world (map (flag_part flips) buffers))) q
all_events limit id world flips count other apart [] part now like has q (inl e) = absurd (let z = e in cc)
all_events limit id world flips count other apart [] part now like has q (inr e) = last_lines count world part q (now q) (has q) e
all_events limit id world flips count other apart (b ∷ buffers) part now like has q there =
    let new = after_told world flips b now in
    subst (λ p. HasLast count world p q) (sym (told_then limit id part world (flag_part flips b) (map (flag_part flips) buffers)))
    (all_events limit id world flips count other apart buffers (fold_told limit id part (event_of world (flag_part flips b))) new
    (λ p. by_bool (eqb p b) _
    (λ t. rw t (subst (λ h. Alike flips (drop (count h) (map (λ l. line_flagged l (flags_of b flips (lines_in world b))) (now b))) (lines_in world h)) (sym (eqb-true p b t))
    (subst (λ ls. Alike flips ls (lines_in world b)) (sym shown) (alike_view flips (lines_in world b)))))
    (λ t. rw t (like p)))
    (one_event limit id part world flips now b other has)
    q (choice there))
  where
    shown : drop (count b) (map (λ l. line_flagged l (flags_of b flips (lines_in world b))) (now b)) ≡ view_of (lines_in world b)
    shown =
        drop-map (λ l. line_flagged l (flags_of b flips (lines_in world b))) (count b) (now b)
        ∙ all_shown flips b (drop (count b) (now b)) (lines_in world b) (like b) (apart b)

    choice : (list_any (λ b. eqb b q) (b ∷ buffers) ≡ true) ⊎ (drop (count q) (now q) ≡ view_of (lines_in world q))
        → (list_any (λ b. eqb b q) buffers ≡ true) ⊎ (drop (count q) (after_told world flips b now q) ≡ view_of (lines_in world q))
    choice o = by_bool (eqb q b) _
        (λ t. inr (rw t (ap (λ h. drop (count h) (map (λ l. line_flagged l (flags_of b flips (lines_in world b))) (now b))) (eqb-true q b t) ∙ shown ∙ ap (λ h. view_of (lines_in world h)) (sym (eqb-true q b t)))))
        (λ t. else t o)
      where
        else : eqb q b ≡ false → (list_any (λ b. eqb b q) (b ∷ buffers) ≡ true) ⊎ (drop (count q) (now q) ≡ view_of (lines_in world q))
            → (list_any (λ b. eqb b q) buffers ≡ true) ⊎ (drop (count q) (after_told world flips b now q) ≡ view_of (lines_in world q))
        else t (inl e) = let u : eqb b q ≡ false = grind (arith, nat_tests) in inl (rw u at e)
        else t (inr e) = inr (rw t e)

-- ---- the parts of a change that are of flags

-- of a buffer that has no such lines nothing is told
not_told : (world : World) (flips : List Handle) (buffer : ℕ) → has_flips world flips buffer ≡ false → event_of world (flag_part flips buffer) ≡ None
unfolding objects_of
not_told world flips buffer t = rw t refl

told_of_some : (world : World) (flips : List Handle) (buffers : List ℕ)
    → part_events world (map (flag_part flips) (filter (has_flips world flips) buffers)) ≡ part_events world (map (flag_part flips) buffers)
told_of_some world flips [] = refl
told_of_some world flips (b ∷ buffers) = by_bool (has_flips world flips b) _
    (λ t. rw t (ap (cons_option (event_of world (flag_part flips b))) (told_of_some world flips buffers)))
    (λ t. rw t (told_of_some world flips buffers ∙ sym (ap (λ o. cons_option o (part_events world (map (flag_part flips) buffers))) (not_told world flips b t))))

no_flips : (lines : List Line) → list_any (is_flipped []) lines ≡ false
no_flips [] = refl
no_flips (line ∷ lines) = no_flips lines

told_of_none : (world : World) (buffers : List ℕ) → part_events world (map (flag_part []) buffers) ≡ []
told_of_none world [] = refl
told_of_none world (b ∷ buffers) =
    ap (λ o. cons_option o (part_events world (map (flag_part []) buffers))) (not_told world [] b (no_flips (lines_in world b))) ∙ told_of_none world buffers

-- they tell the same as the parts of all buffers
pub flags_told_all : (world : World) (flips : List Handle) → part_events world (flag_parts world flips) ≡ part_events world (map (flag_part flips) (order world.groups))
flags_told_all world [] = sym (told_of_none world (order world.groups))
flags_told_all world (flip ∷ flips) = told_of_some world (flip ∷ flips) (order world.groups)

-- flags that a client has already stay
pub flags_stay : (limit : Option ℕ) (id : List ℕ) (part : Option Part) (world : World) (flips : List Handle) (count : ℕ → ℕ) → bytes_eq (id_of kind.LineDataChanged) id ≡ false
    → ((q : ℕ) → ContentsDiffer (lines_in world q)) → ((q : ℕ) → HasLast count world part q)
    → (q : ℕ) → HasLast count world (fold_all limit id part (part_events world (flag_parts world flips))) q
flags_stay limit id None world flips count other apart has q = absurd (has 0)
flags_stay limit id (Some held) world flips count other apart has q =
    subst (λ events. HasLast count world (fold_all limit id (Some held) events) q) (sym (flags_told_all world flips))
    (all_events limit id world flips count other apart (order world.groups) (Some held) (λ b. lines_at held b)
    (λ b. subst (λ ls. Alike flips ls (lines_in world b)) (sym (has b)) (alike_view flips (lines_in world b)))
    (λ b. refl) q (inr (has q)))

pub flags_kept : (limit : Option ℕ) (id : List ℕ) (part : Option Part) (world : World) (flips : List Handle) → bytes_eq (id_of kind.LineDataChanged) id ≡ false → ((q : ℕ) → ContentsDiffer (lines_in world q))
    → HasAll part world → HasAll (fold_all limit id part (part_events world (flag_parts world flips))) world
flags_kept limit id part world flips other apart had q =
    as_lines _ world q (flags_stay limit id part world flips (λ b. 0) other apart (λ b. from_all part world b (had b)) q)
