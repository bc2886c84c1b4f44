-- The dump of the lines of a world is folded to these lines.
use Rattle.std.proofs.Common.{◌≡◌, ◌⊎◌, inl, inr, ℕ, ◌≤◌, ◌+◌, true, false, List, [], ◌∷◌, ◌++◌, map, codes, Option, Some, None, refl, sym, ap, subst, ◌∙◌, arith, eqb}
use Rattle.std.specs.List.{flat_map}
use Rattle.std.proofs.lemmas.Bool.{eq-eqb, eqb-true}
use Rattle.std.proofs.lemmas.List.{length-map, append-nil}
use Rattle.wc_text.specs.declared.names.Handle.{Handle}
use Rattle.wc_lines.specs.declared.line.Line.{Line}
use Rattle.wc_buffers.specs.declared.row.BufferEntry.{BufferEntry}
use Rattle.wc_buffers.specs.Groups.{rows, times, times_in, has}
use Rattle.wc_buffers.specs.Calls.{EntryGroups, handle_of}
use Rattle.wc_buffers.proofs.GroupLaws.{times_in-append, has_tells}
use Rattle.wc_model.specs.World.{World, lines_at as lines_in}
use Rattle.wc_objects.specs.declared.object.HdaItem.{HdaItem}
use Rattle.wc_events.specs.LineObjects.{dumped_item, dumped_lines, line_dump}
use Rattle.wc_view.specs.declared.rows.LineRow.{LineRow}
use Rattle.wc_view.specs.Each.{each}
use Rattle.wc_view.specs.Rows.{row_in, rows_on}
use Rattle.wc_view.specs.Parts.{Part, kept_lines, lines_of, part_of}
use Rattle.wc_view.specs.Fold.{fold_lines, with_dump}
use Rattle.wc_view.specs.Views.{shown_line, view_of, HasLines, IsMirrorable, Suits, reply, DumpShows}
use Rattle.wc_view.proofs.EntryLemmas.{by_bool, last_all}
use Rattle.wc_view.proofs.PartLemmas.{part_lines}
use Rattle.wc_view.proofs.LineTold.{row, dumped_told, rows_told, same_bytes}

-- ---- what is read of the dump
abbrev entry_rows : World → BufferEntry → List LineRow
entry_rows world e = map (row e.row.handle) (lines_in world e.row.handle.0)

dumped_more : (buffer own : Handle) (lines : List Line) (items : List HdaItem) (told : List LineRow) → each row_in items ≡ Some told
    → each row_in (map (dumped_item buffer own) lines ++ items) ≡ Some (map (row buffer) lines ++ told)
dumped_more buffer own [] items told e = e
dumped_more buffer own (line ∷ lines) items told e = rw (dumped_told buffer own line, dumped_more buffer own lines items told e) refl

each_dumped : (world : World) (es : List BufferEntry) → each row_in (flat_map (dumped_lines world) es) ≡ Some (flat_map (entry_rows world) es)
each_dumped world [] = refl
each_dumped world (e ∷ es) =
    dumped_more e.row.handle e.row.own_lines (lines_in world e.row.handle.0) (flat_map (dumped_lines world) es) (flat_map (entry_rows world) es) (each_dumped world es)

abbrev all_rows : World → List LineRow
all_rows world = flat_map (entry_rows world) (rows world.groups)

dump_read : (world : World) → rows_on (codes "buffer/lines/line/line_data") (line_dump world) ≡ Some (all_rows world)
dump_read world =
    rows_told (codes "buffer/lines/line/line_data") (flat_map (dumped_lines world) (rows world.groups)) refl ∙ each_dumped world (rows world.groups)

after_dump : (limit : Option ℕ) (id : List ℕ) (part : Option Part) (world : World) → fold_lines limit id part (reply id world) ≡ Some (part_of limit (all_rows world))
after_dump limit id part world = rw (same_bytes id) (ap (λ told. with_dump limit told part) (dump_read world))

-- ---- the lines of one buffer in it
lines_here : (buffer : Handle) (lines : List Line) (told : List LineRow) → lines_of buffer.0 (map (row buffer) lines ++ told) ≡ view_of lines ++ lines_of buffer.0 told
lines_here buffer [] told = refl
lines_here buffer (line ∷ lines) told = rw (eq-eqb buffer.0 buffer.0 refl) (ap (λ ls. shown_line line ∷ ls) (lines_here buffer lines told))

lines_else : (buffer : Handle) (other : ℕ) (lines : List Line) (told : List LineRow) → eqb buffer.0 other ≡ false
    → lines_of other (map (row buffer) lines ++ told) ≡ lines_of other told
lines_else buffer other [] told e = refl
lines_else buffer other (line ∷ lines) told e = rw e (lines_else buffer other lines told e)

none_there : (world : World) (q : ℕ) (es : List BufferEntry) → times_in handle_of q es ≡ 0 → lines_of q (flat_map (entry_rows world) es) ≡ []
none_there world q [] n = refl
none_there world q (e ∷ es) n = by_bool (eqb (handle_of e) q) _
    (λ t. let z : 1 + times_in handle_of q es ≡ 0 = rw t at n in absurd (omega arith))
    (λ t. let z : 0 + times_in handle_of q es ≡ 0 = rw t at n in
    lines_else e.row.handle q (lines_in world e.row.handle.0) (flat_map (entry_rows world) es) t ∙ none_there world q es (omega arith))

once_there : (world : World) (q : ℕ) (es : List BufferEntry) → times_in handle_of q es ≡ 1 → lines_of q (flat_map (entry_rows world) es) ≡ view_of (lines_in world q)
once_there world q [] n = absurd (omega arith)
once_there world q (e ∷ es) n = by_bool (eqb (handle_of e) q) _
    (λ t. let z : 1 + times_in handle_of q es ≡ 1 = rw t at n in
    let is : handle_of e ≡ q = eqb-true (handle_of e) q t in
    subst (λ h. lines_of h (flat_map (entry_rows world) (e ∷ es)) ≡ view_of (lines_in world h)) is (
    lines_here e.row.handle (lines_in world e.row.handle.0) (flat_map (entry_rows world) es)
    ∙ ap (λ ls. view_of (lines_in world (handle_of e)) ++ ls)
    (subst (λ h. lines_of h (flat_map (entry_rows world) es) ≡ []) (sym is) (none_there world q es (omega arith)))
    ∙ append-nil (view_of (lines_in world (handle_of e)))))
    (λ t. let z : 0 + times_in handle_of q es ≡ 1 = rw t at n in
    lines_else e.row.handle q (lines_in world e.row.handle.0) (flat_map (entry_rows world) es) t ∙ once_there world q es (omega arith))

pub times_rows : (q : ℕ) (groups : EntryGroups) → times_in handle_of q (rows groups) ≡ times handle_of q groups
times_rows q [] = refl
times_rows q (g ∷ groups) = omega (arith, times_in-append handle_of q g (rows groups), times_rows q groups)

all_lines : (world : World) (q : ℕ) → IsMirrorable world → lines_of q (all_rows world) ≡ view_of (lines_in world q)
all_lines world q stands = by (has_tells handle_of q world.groups)
  where
    by : ((has handle_of q world.groups ≡ true) × (1 ≤ times handle_of q world.groups)) ⊎ ((has handle_of q world.groups ≡ false) × (times handle_of q world.groups ≡ 0))
        → lines_of q (all_rows world) ≡ view_of (lines_in world q)
    by (inl there) = once_there world q (rows world.groups) (omega (arith, times_rows q world.groups, stands.once q, there.1))
    by (inr else) = none_there world q (rows world.groups) (times_rows q world.groups ∙ else.1) ∙ ap view_of (sym (stands.gone q else.0))

-- a buffer holds no more lines than the limit
all_kept : (limit : Option ℕ) (world : World) (q : ℕ) → IsMirrorable world → Suits limit world → kept_lines limit (view_of (lines_in world q)) ≡ view_of (lines_in world q)
all_kept None world q stands limited = refl
all_kept (Some n) world q stands limited =
    last_all n (view_of (lines_in world q)) (omega (arith, length-map (lines_in world q) shown_line, stands.within q, limited))

pub dump_shows : DumpShows
dump_shows limit id part world stands limited q =
    subst (λ folded. HasLines folded q (lines_in world q)) (sym (after_dump limit id part world))
    (part_lines limit q (all_rows world) ∙ ap (kept_lines limit) (all_lines world q stands) ∙ all_kept limit world q stands limited)
