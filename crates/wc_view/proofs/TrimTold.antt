-- The events of lines that went are folded to the lines that are left.
use Rattle.std.proofs.Common.{◌≡◌, ◌⊎◌, inl, inr, ℕ, ◌+◌, ◌-◌, ◌^◌, ◌≤◌, Bool, true, false, cond, List, [], ◌∷◌, ◌++◌, length, drop, map, codes, Option, Some, None, refl, sym, ap, subst, ◌∙◌, arith, eqb}
use Rattle.std.specs.Prelude.{unwrap_or, bytes_eq}
use Rattle.std.specs.Option.{option_and_then}
use Rattle.std.specs.List.{flat_map}
use Rattle.std.specs.FinMap.{get, get-insert}
use Rattle.std.specs.Cmp.{nat_cmp_total}
use Rattle.std.proofs.lemmas.Bool.{eqb-true}
use Rattle.std.proofs.lemmas.Bool.Decides.{nat_tests}
use Rattle.wc_text.specs.declared.names.Handle.{Handle}
use Rattle.wc_lines.specs.declared.line.Line.{Line}
use Rattle.wc_buffers.specs.declared.row.BufferEntry.{BufferEntry}
use Rattle.wc_buffers.specs.Groups.{has, rows, times, times_in}
use Rattle.wc_buffers.specs.Calls.{handle_of}
use Rattle.wc_buffers.proofs.GroupLaws.{has_tells}
use Rattle.wc_model.specs.declared.notice.EventKind.TheVariants as kind
use Rattle.wc_model.specs.declared.notice.Trim.{Trim}
use Rattle.wc_model.specs.Notices.{trim_of, trim_to}
use Rattle.wc_model.specs.Order.{order}
use Rattle.wc_model.specs.Parts.{trim_part}
use Rattle.wc_model.specs.World.{World, lines_at as lines_in}
use Rattle.wc_objects.specs.declared.object.HdaItem.{HdaItem, roll-HdaItem}
use Rattle.wc_objects.specs.declared.object.WireMessage.{WireMessage}
use Rattle.wc_events.specs.BufferObjects.{id_of, objects_of, trim_keys, trim_values, trim_objects}
use Rattle.wc_view.specs.declared.mirror_buffer.MirrorLine.{MirrorLine}
use Rattle.wc_view.specs.declared.trims.LineTrim.{LineTrim}
use Rattle.wc_view.specs.Each.{only}
use Rattle.wc_view.specs.Parts.{Part, lines_at, trimmed_in, with_trim}
use Rattle.wc_view.specs.Fold.{fold_lines, without_trimmed}
use Rattle.wc_view.specs.Trims.{trim_with, trim_in, trim_on}
use Rattle.wc_view.specs.Views.{shown_number, view_of, HasLines, IsMirrorable, fold_all, part_events}
use Rattle.wc_view.proofs.DumpLaw.{times_rows}
use Rattle.wc_view.proofs.EntryLemmas.{by_bool, tied}
use Rattle.wc_view.proofs.LineTold.{pointer_told, count_told, few_shown, items_told}
use Rattle.wc_view.proofs.PartLemmas.{none_of}

-- ---- what is read of the event
abbrev told_trim : Trim → LineTrim
told_trim trim = record { buffer = trim.buffer.0; count = shown_number trim.count }

abbrev trim_item : Trim → HdaItem
trim_item trim = roll-HdaItem (record { pointers = trim.buffer.0 ∷ []; values = trim_values trim })

values_told : (trim : Trim) → trim_with (trim_values trim) ≡ Some (told_trim trim)
unfolding trim_values
values_told trim = rw (pointer_told, count_told) refl

trim_read : (trim : Trim) → trim_on (trim_objects trim) ≡ Some (told_trim trim)
unfolding trim_in
trim_read trim =
    ap (λ items. option_and_then trim_in (option_and_then only items)) (items_told (codes "buffer") trim_keys (trim_item trim ∷ []) refl refl)
    ∙ values_told trim

abbrev trim_message : Trim → WireMessage
trim_message trim = record { id = id_of kind.LinesTrimmed; objects = trim_objects trim }

after_trim : (limit : Option ℕ) (id : List ℕ) (held : Part) (trim : Trim) → bytes_eq (id_of kind.LinesTrimmed) id ≡ false
    → fold_lines limit id (Some held) (trim_message trim) ≡ Some (with_trim (told_trim trim) held)
after_trim limit id held trim apart = rw apart (ap (λ told. without_trimmed told (Some held)) (trim_read trim))

-- ---- the lines that a client holds, whichever they are
abbrev pub HasThese : Option Part → ℕ → List MirrorLine → Type 0
HasThese None buffer lines = ⊥
HasThese (Some held) buffer lines = lines_at held buffer ≡ lines

pub these : (part : Option Part) (q : ℕ) (lines : List Line) → HasThese part q (view_of lines) → HasLines part q lines
these None q lines h = absurd h
these (Some held) q lines h = h

pub from_lines : (part : Option Part) (q : ℕ) (lines : List Line) → HasLines part q lines → HasThese part q (view_of lines)
from_lines None q lines h = absurd h
from_lines (Some held) q lines h = h

-- ---- one event after another
trim_lines : (held : Part) (trim : LineTrim) (q : ℕ) → lines_at (with_trim trim held) q ≡ cond (eqb q trim.buffer) (drop trim.count (lines_at held q)) (lines_at held q)
trim_lines held trim q = by (get held trim.buffer) refl
  where
    here : (o : Option (List MirrorLine)) → get held trim.buffer ≡ o → eqb q trim.buffer ≡ true → lines_at held q ≡ unwrap_or o []
    here o e t = ap (λ b. lines_at held b) (eqb-true q trim.buffer t) ∙ ap (λ o. unwrap_or o []) e

    by : (o : Option (List MirrorLine)) → get held trim.buffer ≡ o
        → lines_at (trimmed_in trim held (get held trim.buffer)) q ≡ cond (eqb q trim.buffer) (drop trim.count (lines_at held q)) (lines_at held q)
    by None e = ap (λ o. lines_at (trimmed_in trim held o) q) e ∙ by_bool (eqb q trim.buffer) _
        (λ t. rw t (here None e t ∙ sym (ap (drop trim.count) (here None e t) ∙ none_of trim.count)))
        (λ t. rw t refl)
    by (Some lines) e = ap (λ o. lines_at (trimmed_in trim held o) q) e ∙ ap (λ o. unwrap_or o []) (get-insert nat_cmp_total held trim.buffer (drop trim.count lines) q)
        ∙ by_bool (eqb q trim.buffer) _
        (λ t. rw (tied q trim.buffer, t) (sym (ap (drop trim.count) (here (Some lines) e t))))
        (λ t. rw (tied q trim.buffer, t) refl)

-- the lines of a buffer once one of these was told after another
abbrev pub left_after : List Trim → ℕ → List MirrorLine → List MirrorLine
left_after [] q lines = lines
left_after (trim ∷ trims) q lines = left_after trims q (cond (eqb q trim.buffer.0) (drop (shown_number trim.count) lines) lines)

pub trims_show : (limit : Option ℕ) (id : List ℕ) (world : World) → bytes_eq (id_of kind.LinesTrimmed) id ≡ false
    → (trims : List Trim) (part : Option Part) (now : ℕ → List MirrorLine) → ((q : ℕ) → HasThese part q (now q))
    → (q : ℕ) → HasThese (fold_all limit id part (part_events world (map trim_part trims))) q (left_after trims q (now q))
unfolding objects_of
trims_show limit id world apart [] part now has q = has q
trims_show limit id world apart (trim ∷ trims) None now has q = absurd (has 0)
trims_show limit id world apart (trim ∷ trims) (Some held) now has q =
    subst (λ p. HasThese (fold_all limit id p (part_events world (map trim_part trims))) q (left_after (trim ∷ trims) q (now q))) (sym (after_trim limit id held trim apart))
    (trims_show limit id world apart trims (Some (with_trim (told_trim trim) held)) (λ b. cond (eqb b trim.buffer.0) (drop (shown_number trim.count) (now b)) (now b))
    (λ b. trim_lines held (told_trim trim) b ∙ ap (λ ls. cond (eqb b trim.buffer.0) (drop (shown_number trim.count) ls) ls) (has b)) q)

-- ---- the lines that went of one buffer
pub left_of : (buffer : Handle) (count q : ℕ) (lines : List MirrorLine) → count ≤ 2 ^ 31 - 1
    → left_after (trim_of buffer count) q lines ≡ cond (eqb q buffer.0) (drop count lines) lines
left_of buffer count q lines few =
    let with_test = λ (b : Bool). left_after (cond b [] (record { buffer = buffer; count = count } ∷ [])) q lines in
    by_bool (eqb count 0) _
    (λ t. ap with_test t ∙ by_bool (eqb q buffer.0) _ (λ u. rw u (ap (λ k. drop k lines) (sym (eqb-true count 0 t)))) (λ u. rw u refl))
    (λ t. ap with_test t ∙ ap (λ k. cond (eqb q buffer.0) (drop k lines) lines) (few_shown count few))

-- ---- and of each buffer for a limit
left_more : (first trims : List Trim) (q : ℕ) (lines : List MirrorLine) → left_after (first ++ trims) q lines ≡ left_after trims q (left_after first q lines)
left_more [] trims q lines = refl
left_more (trim ∷ first) trims q lines = left_more first trims q (cond (eqb q trim.buffer.0) (drop (shown_number trim.count) lines) lines)

abbrev AreFew : World → Type 0
AreFew world = (buffer : ℕ) → length (lines_in world buffer) ≤ 2 ^ 31 - 1

-- the trims of one entry and of those after it
left_next : (limit : ℕ) (world : World) (q : ℕ) (e : BufferEntry) (es : List BufferEntry) (lines : List MirrorLine) → AreFew world
    → left_after (flat_map (trim_to limit world) (map handle_of (e ∷ es))) q lines
    ≡ left_after (flat_map (trim_to limit world) (map handle_of es)) q (cond (eqb q (handle_of e)) (drop (length (lines_in world (handle_of e)) - limit) lines) lines)
left_next limit world q e es lines few =
    let count = length (lines_in world (handle_of e)) - limit in
    left_more (trim_to limit world (handle_of e)) (flat_map (trim_to limit world) (map handle_of es)) q lines
    ∙ ap (left_after (flat_map (trim_to limit world) (map handle_of es)) q) (left_of (record { 0 = handle_of e }) count q lines (let f = few (handle_of e) in omega arith))

left_alone : (limit : ℕ) (world : World) (q : ℕ) (es : List BufferEntry) (lines : List MirrorLine) → AreFew world → times_in handle_of q es ≡ 0
    → left_after (flat_map (trim_to limit world) (map handle_of es)) q lines ≡ lines
left_alone limit world q [] lines few n = refl
left_alone limit world q (e ∷ es) lines few n =
    left_next limit world q e es lines few ∙ by_bool (eqb (handle_of e) q) _
    (λ t. let z : 1 + times_in handle_of q es ≡ 0 = rw t at n in absurd (omega arith))
    (λ t. let z : 0 + times_in handle_of q es ≡ 0 = rw t at n in
    let u : eqb q (handle_of e) ≡ false = grind (arith, nat_tests) in
    rw u (left_alone limit world q es lines few (omega arith)))

left_once : (limit : ℕ) (world : World) (q : ℕ) (es : List BufferEntry) (lines : List MirrorLine) → AreFew world → times_in handle_of q es ≡ 1
    → left_after (flat_map (trim_to limit world) (map handle_of es)) q lines ≡ drop (length (lines_in world q) - limit) lines
left_once limit world q [] lines few n = absurd (omega arith)
left_once limit world q (e ∷ es) lines few n =
    left_next limit world q e es lines few ∙ by_bool (eqb (handle_of e) q) _
    (λ t. let z : 1 + times_in handle_of q es ≡ 1 = rw t at n in
    let is : handle_of e ≡ q = eqb-true (handle_of e) q t in
    let u : eqb q (handle_of e) ≡ true = grind (arith, nat_tests) in
    ap (λ b. left_after (flat_map (trim_to limit world) (map handle_of es)) q (cond b (drop (length (lines_in world (handle_of e)) - limit) lines) lines)) u
    ∙ left_alone limit world q es (drop (length (lines_in world (handle_of e)) - limit) lines) few (omega arith)
    ∙ ap (λ b. drop (length (lines_in world b) - limit) lines) is)
    (λ t. let z : 0 + times_in handle_of q es ≡ 1 = rw t at n in
    let u : eqb q (handle_of e) ≡ false = grind (arith, nat_tests) in
    ap (λ b. left_after (flat_map (trim_to limit world) (map handle_of es)) q (cond b (drop (length (lines_in world (handle_of e)) - limit) lines) lines)) u
    ∙ left_once limit world q es lines few (omega arith))

pub left_below : (limit : ℕ) (world : World) (q : ℕ) (lines : List MirrorLine) → IsMirrorable world
    → left_after (flat_map (trim_to limit world) (order world.groups)) q lines ≡ drop (length (lines_in world q) - limit) lines
left_below limit world q lines stands = by (has_tells handle_of q world.groups)
  where
    few : AreFew world
    few buffer = let within = stands.within buffer in let most = stands.most in omega arith

    by : ((has handle_of q world.groups ≡ true) × (1 ≤ times handle_of q world.groups)) ⊎ ((has handle_of q world.groups ≡ false) × (times handle_of q world.groups ≡ 0))
        → left_after (flat_map (trim_to limit world) (order world.groups)) q lines ≡ drop (length (lines_in world q) - limit) lines
    by (inl there) = left_once limit world q (rows world.groups) lines few (omega (arith, times_rows q world.groups, stands.once q, there.1))
    by (inr else) =
        let none : length (lines_in world q) - limit ≡ 0 = omega (arith, ap length (stands.gone q else.0)) in
        left_alone limit world q (rows world.groups) lines few (times_rows q world.groups ∙ else.1) ∙ ap (λ k. drop k lines) (sym none)
