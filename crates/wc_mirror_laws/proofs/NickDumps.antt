-- The lists of nicklists keep the rules of messages and fit in one.
use Rattle.std.proofs.Common.{◌≡◌, ℕ, ◌+◌, ◌-◌, ◌<◌, ◌^◌, ◌≤◌, true, false, cond, eqb, eq-eqb, ◌&&◌, List, [], ◌∷◌, length, Some, refl, ap, ◌∙◌, arith}
use Rattle.std.specs.FinMap.{remove, entries}
use Rattle.std.specs.List.{flat_map, AllByRecursion}
use Rattle.std.proofs.lemmas.Bool.Decides.{nat_tests}
use Rattle.std.proofs.lemmas.List.{length-append, length-map}
use Rattle.std.proofs.lemmas.List.Folds.{list_all-append}
use Rattle.wc_text.specs.declared.names.Handle.{Handle}
use Rattle.wc_nicklist.specs.declared.item.Item.{Item}
use Rattle.wc_nicklist.specs.declared.item.Row.{Row}
use Rattle.wc_nickdiff.specs.declared.diff_item.DiffItem.{DiffItem}
use Rattle.wc_nickdiff.specs.NickPush.{full_list, root_item}
use Rattle.wc_buffers.specs.declared.row.BufferEntry.{BufferEntry}
use Rattle.wc_buffers.specs.Calls.{handle_of}
use Rattle.wc_buffers.specs.Groups.{rows, times_in}
use Rattle.wc_model.specs.World.{World, rows_at, root_at, count_rows}
use Rattle.wc_objects.specs.declared.object.Object.TheVariants as o
use Rattle.wc_objects.specs.Forms.{item_of}
use Rattle.wc_objects.specs.Spelling.{item_bytes, message_bytes}
use Rattle.wc_objects.specs.Within.{ItemWithin}
use Rattle.wc_world.specs.Nicks.{IsCut}
use Rattle.wc_world.proofs.Counted.{count-remove}
use Rattle.wc_events.specs.NickForms.{nick_kinds, are_nicks}
use Rattle.wc_events.specs.NickObjects.{nick_path, nick_keys, nick_values, nick_item, mark_code, diff_item, nick_objects, root_and_rows, nick_dump}
use Rattle.wc_events.proofs.NicksFormed.{nicks_formed, list_formed}
use Rattle.wc_board.specs.Told.{Told, told_of}
use Rattle.wc_mirror_laws.specs.Nicks.{IsRowKept, AreRowsKept}
use Rattle.wc_mirror_laws.specs.Worlds.{IsBufferKept, IsWorldKept}
use Rattle.wc_mirror_laws.proofs.DiffItems.{of_full}
use Rattle.wc_mirror_laws.proofs.HandleLemmas.{rows_handles}
use Rattle.wc_mirror_laws.proofs.ListLemmas.{all_flat, all_map}
use Rattle.wc_mirror_laws.proofs.NickRows.{found_has, all_found}
use Rattle.wc_mirror_laws.proofs.NickWorlds.{told_taken}
use Rattle.wc_mirror_laws.proofs.RowLemmas.{times_rows}
use Rattle.wc_mirror_laws.proofs.SizeLemmas.{IsSmall, AreAtMost, level_short, number_short, text_short, item_size, spelt_size, message_size}
use Rattle.wc_mirror_laws.proofs.TellingLemmas.{AreGood}
use Rattle.wc_mirror_laws.proofs.WithinLemmas.{nick_within, nicks_within}
use Rattle.wc_mirror_laws.proofs.WorldLemmas.{once}

-- ---- items

-- an item of a nicklist with a handle of 64 bits and short texts
pub record IsItemKept (i : Item) : Type 0 where
  pub handle : i.handle.0 < 2 ^ 64
  pub name : length i.name ≤ 64
  pub cut : IsCut i

pub root_kept : (root : Handle) → root.0 < 2 ^ 64 → IsItemKept (root_item root)
root_kept root small = record { handle = small; name = omega arith; cut = record { color = omega arith; prefix = omega arith; prefix_color = omega arith } }

pub items_kept : (next : ℕ) (rows : List Row) → next ≤ 2 ^ 62 + 1 → AreRowsKept next rows → AllByRecursion (λ (r : Row). IsItemKept r.item) rows
items_kept next rows ended kept = all_found (λ (r : Row). IsItemKept r.item) rows kept.held.keyed (λ k r e.
    let own : IsRowKept next r = found_has (IsRowKept next) k rows r e kept.each in
    let drawn = own.drawn in
    record { handle = omega arith; name = (kept.held.held k r e).named.1; cut = own.cut })

abbrev nick_sizes : List ℕ
nick_sizes = 1 ∷ 1 ∷ 4 ∷ 68 ∷ 68 ∷ 68 ∷ 68 ∷ []

nick_short : (i : Item) → IsItemKept i → AreAtMost (nick_values i) nick_sizes
unfolding nick_values
nick_short i is = (
  level_short _,
  (level_short _, (number_short _, (text_short 64 i.name is.name, (text_short 64 i.color is.cut.color, (text_short 64 i.prefix is.cut.prefix, (text_short 64 i.prefix_color is.cut.prefix_color, tt)))))),
)

pub nick_small : (buffer : Handle) (i : Item) → buffer.0 < 2 ^ 64 → IsItemKept i → IsSmall (nick_item buffer i)
unfolding item_bytes
nick_small buffer i small is = item_size (buffer.0 ∷ i.handle.0 ∷ []) (nick_values i) nick_sizes (omega arith) (small, (is.handle, tt)) (nick_short i is) (omega arith)

pub diff_small : (buffer : Handle) (d : DiffItem) → buffer.0 < 2 ^ 64 → IsItemKept d.item → IsSmall (diff_item buffer d)
unfolding item_bytes
diff_small buffer d small is =
    item_size (buffer.0 ∷ d.item.handle.0 ∷ []) (o.Chr (mark_code d.mark) ∷ nick_values d.item) (1 ∷ nick_sizes) (omega arith) (small, (is.handle, tt)) (level_short _, nick_short d.item is) (omega arith)

-- ---- the rules

one_formed : (limit : ℕ) (world : World) (e : BufferEntry) → IsWorldKept limit world → are_nicks (root_and_rows world e) ≡ true
one_formed limit world e is = list_formed [] e.row.handle (root_at e.row.handle.0) (rows_at world e.row.handle.0) (is.nicks.rows e.row.handle.0).held refl

all_formed : (limit : ℕ) (world : World) (es : List BufferEntry) → IsWorldKept limit world → are_nicks (flat_map (root_and_rows world) es) ≡ true
all_formed limit world [] is = refl
all_formed limit world (e ∷ es) is =
    list_all-append (λ item. item_of 2 (Some nick_kinds) item) (root_and_rows world e) (flat_map (root_and_rows world) es) ∙ (λ i. one_formed limit world e is i && all_formed limit world es is i)

-- the root and the rows of a buffer
list_kept : (limit : ℕ) (world : World) (e : BufferEntry) → IsWorldKept limit world → IsBufferKept world.next e
    → AllByRecursion IsItemKept (full_list (root_item (root_at e.row.handle.0)) (rows_at world e.row.handle.0))
list_kept limit world e is kept =
    let below = kept.below in
    let ended = is.ended in
    let root : Handle = root_at e.row.handle.0 in
    of_full IsItemKept root (root_kept root (omega arith)) (rows_at world e.row.handle.0) (items_kept world.next (rows_at world e.row.handle.0) is.ended (is.nicks.rows e.row.handle.0))

listed_within : (limit : ℕ) (world : World) (e : BufferEntry) → IsWorldKept limit world → IsBufferKept world.next e → AllByRecursion ItemWithin (root_and_rows world e)
listed_within limit world e is kept =
    let below = kept.below in
    let ended = is.ended in
    all_map IsItemKept ItemWithin (nick_item e.row.handle) (full_list (root_item (root_at e.row.handle.0)) (rows_at world e.row.handle.0))
    (λ i item. nick_within e.row.handle i (omega arith) item.handle) (list_kept limit world e is kept)

-- the list of one buffer
pub nick_list_good : (limit : ℕ) (world : World) (e : BufferEntry) → IsWorldKept limit world → IsBufferKept world.next e → AreGood (nick_objects (root_and_rows world e))
nick_list_good limit world e is kept = record {
  formed = nicks_formed (root_and_rows world e) (one_formed limit world e is);
  within = nicks_within (root_and_rows world e) (listed_within limit world e is kept);
}

-- the lists of all buffers
pub nick_dump_good : (limit : ℕ) (world : World) → IsWorldKept limit world → AreGood (nick_dump world)
nick_dump_good limit world is = record {
  formed = nicks_formed (flat_map (root_and_rows world) (rows world.groups)) (all_formed limit world (rows world.groups) is);
  within = nicks_within (flat_map (root_and_rows world) (rows world.groups))
      (all_flat (IsBufferKept world.next) ItemWithin (root_and_rows world) (rows world.groups) (λ e kept. listed_within limit world e is kept) is.each);
}

-- ---- how long the lists of all buffers are at most

-- the rows of these buffers
abbrev rows_of_all : Told → List BufferEntry → ℕ
rows_of_all lists [] = 0
rows_of_all lists (e ∷ es) = length (told_of lists (handle_of e)) + rows_of_all lists es

rows_else : (lists : Told) (h : ℕ) (es : List BufferEntry) → times_in handle_of h es ≡ 0 → rows_of_all (remove lists h) es ≡ rows_of_all lists es
rows_else lists h [] none = refl
rows_else lists h (e ∷ es) none =
    let other : eqb (handle_of e) h ≡ false = grind (arith, nat_tests, none) in
    let left : times_in handle_of h es ≡ 0 = omega arith in
    λ i. length ((told_taken lists h (handle_of e) ∙ ap (λ b. cond b [] (told_of lists (handle_of e))) other) i) + rows_else lists h es left i

-- each buffer is there once, so they are rows of all
rows_counted : (lists : Told) (es : List BufferEntry) → ((h : ℕ) → times_in handle_of h es ≤ 1) → rows_of_all lists es ≤ count_rows (entries lists)
rows_counted lists [] once = omega arith
rows_counted lists (e ∷ es) once =
    let h = handle_of e in
    let here : cond (eqb h h) 1 0 + times_in handle_of h es ≤ 1 = once h in
    let same : eqb h h ≡ true = eq-eqb h h refl in
    let none : times_in handle_of h es ≡ 0 = (let one : 1 + times_in handle_of h es ≤ 1 = rw same at here in omega arith) in
    let more = rows_counted (remove lists h) es (λ q. let all = once q in omega arith) in
    omega (arith, more, rows_else lists h es none, count-remove lists h)

listed_count : (world : World) (es : List BufferEntry) → length (flat_map (root_and_rows world) es) ≡ rows_of_all world.nicks es + length es
listed_count world [] = refl
listed_count world (e ∷ es) =
    let own = full_list (root_item (root_at e.row.handle.0)) (rows_at world e.row.handle.0) in
    omega (
      arith,
      listed_count world es,
      length-append (root_and_rows world e) (flat_map (root_and_rows world) es),
      length-map own (nick_item e.row.handle),
      length-map (rows_at world e.row.handle.0) (λ (r : Row). r.item),
    )

listed_small : (limit : ℕ) (world : World) (e : BufferEntry) → IsWorldKept limit world → IsBufferKept world.next e → AllByRecursion IsSmall (root_and_rows world e)
listed_small limit world e is kept =
    let below = kept.below in
    let ended = is.ended in
    all_map IsItemKept IsSmall (nick_item e.row.handle) (full_list (root_item (root_at e.row.handle.0)) (rows_at world e.row.handle.0))
    (λ i item. nick_small e.row.handle i (omega arith) item) (list_kept limit world e is kept)

-- under an id that a line can hold
pub nick_dump_size : (limit : ℕ) (id : List ℕ) (world : World) → length id ≤ 65536 → IsWorldKept limit world → length (message_bytes id (nick_dump world)) ≤ 2 ^ 31 - 1
nick_dump_size limit id world known is =
    let es = rows world.groups in
    let items = flat_map (root_and_rows world) es in
    let few = is.groups.few in
    let counted = is.counted in
    let all = rows_counted world.nicks es (λ h. let one = once limit world is h in omega (arith, one, times_rows handle_of h world.groups)) in
    message_size id nick_path nick_keys items known
    (spelt_size nick_path nick_keys items (omega arith) (omega arith) (omega (arith, all, counted, few, listed_count world es, rows_handles world.groups))
    (all_flat (IsBufferKept world.next) IsSmall (root_and_rows world) es (λ e kept. listed_small limit world e is kept) is.each))
