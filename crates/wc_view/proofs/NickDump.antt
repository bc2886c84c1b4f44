-- The dump of the nicklists of a world is folded to these nicklists.
use Rattle.std.proofs.Common.{◌≡◌, ℕ, ◌≤◌, ◌+◌, Bool, true, false, cond, ◌||◌, List, [], ◌∷◌, ◌++◌, map, Option, Some, None, option_map, Ok, refl, sym, ap, subst, ◌∙◌, arith, eqb, eq-eqb, eqb-true}
use Rattle.std.specs.Prelude.{unwrap_or, is_some}
use Rattle.std.specs.List.{AllByRecursion, flat_map}
use Rattle.std.specs.Option.{option_and_then}
use Rattle.std.specs.FinMap.{find, get, from_entries, get-from_entries, same_map, nat_cmp-IsAntisymmetric}
use Rattle.std.specs.Ordering.{nat_cmp}
use Rattle.std.specs.Cmp.{nat_cmp_total}
use Rattle.std.proofs.lemmas.List.{append-nil}
use Rattle.std.proofs.lemmas.List.Folds.{list_any-append}
use Rattle.std.proofs.lemmas.Bool.Decides.{nat_tests}
use Rattle.wc_text.specs.declared.names.Handle.{Handle}
use Rattle.wc_nicklist.specs.declared.item.Item.{Item}
use Rattle.wc_nicklist.specs.declared.item.Row.{Row}
use Rattle.wc_nickdiff.specs.NickPush.{root_item, full_list}
use Rattle.wc_buffers.specs.declared.row.BufferEntry.{BufferEntry}
use Rattle.wc_buffers.specs.Groups.{rows, times, times_in, has, in_group}
use Rattle.wc_buffers.specs.Calls.{EntryGroups, handle_of}
use Rattle.wc_buffers.proofs.GroupLaws.{times_in-append}
use Rattle.wc_model.specs.World.{World, rows_at, root_at}
use Rattle.wc_objects.specs.declared.object.HdaItem.{HdaItem}
use Rattle.wc_events.specs.NickObjects.{nick_path, nick_keys, nick_item, nick_dump, root_and_rows as told_list}
use Rattle.wc_view.specs.declared.nick_rows.NickRow.{NickRow}
use Rattle.wc_view.specs.Each.{each}
use Rattle.wc_view.specs.NickRows.{nick_row_in, nick_rows_on}
use Rattle.wc_view.specs.NickFold.{rows_listed, items_of, entry_of, new_or, listed_or}
use Rattle.wc_view.specs.NickViews.{HasLists, NickDumpShows}
use Rattle.wc_view.proofs.EntryLemmas.{by_bool, tied}
use Rattle.wc_view.proofs.LineTold.{items_told, same_bytes}
use Rattle.wc_view.proofs.NickTold.{AreFew, row_at, row_told}
use Rattle.wc_view.proofs.NickRowsHold.{listed}
use Rattle.wc_view.proofs.NickPushed.{few_listed}

-- the root of a buffer and its rows
abbrev items_at : World → ℕ → List Item
items_at world q = full_list (root_item (root_at q)) (rows_at world q)

-- ---- what is read of the dump
abbrev entry_rows : World → BufferEntry → List NickRow
entry_rows world e = map (row_at e.row.handle) (items_at world e.row.handle.0)

abbrev all_rows : World → List NickRow
all_rows world = flat_map (entry_rows world) (rows world.groups)

read_more : (buffer : Handle) (items : List Item) (more : List HdaItem) (told : List NickRow) → AreFew items → each nick_row_in more ≡ Some told
    → each nick_row_in (map (nick_item buffer) items ++ more) ≡ Some (map (row_at buffer) items ++ told)
read_more buffer [] more told few e = e
read_more buffer (i ∷ items) more told few e = rw (row_told buffer i few.0, read_more buffer items more told few.1 e) refl

each_read : (world : World) (es : List BufferEntry) → ((q : ℕ) → AreFew (items_at world q)) → each nick_row_in (flat_map (told_list world) es) ≡ Some (flat_map (entry_rows world) es)
each_read world [] few = refl
each_read world (e ∷ es) few =
    read_more e.row.handle (items_at world e.row.handle.0) (flat_map (told_list world) es) (flat_map (entry_rows world) es) (few e.row.handle.0) (each_read world es few)

dump_read : (world : World) → ((q : ℕ) → AreFew (items_at world q)) → nick_rows_on (nick_dump world) ≡ Some (all_rows world)
dump_read world few =
    ap (option_and_then (each nick_row_in)) (items_told nick_path nick_keys (flat_map (told_list world) (rows world.groups)) refl refl)
    ∙ each_read world (rows world.groups) few

-- ---- the items of one buffer in it
items_here : (buffer : Handle) (items : List Item) (told : List NickRow) → items_of buffer.0 (map (row_at buffer) items ++ told) ≡ items ++ items_of buffer.0 told
items_here buffer [] told = refl
items_here buffer (i ∷ items) told = rw (eq-eqb buffer.0 buffer.0 refl) (ap (λ is. i ∷ is) (items_here buffer items told))

items_else : (buffer : Handle) (other : ℕ) (items : List Item) (told : List NickRow) → eqb buffer.0 other ≡ false
    → items_of other (map (row_at buffer) items ++ told) ≡ items_of other told
items_else buffer other [] told e = refl
items_else buffer other (i ∷ items) told e = rw e (items_else buffer other items told e)

none_there : (world : World) (q : ℕ) (es : List BufferEntry) → times_in handle_of q es ≡ 0 → items_of q (flat_map (entry_rows world) es) ≡ []
none_there world q [] n = refl
none_there world q (e ∷ es) n = by_bool (eqb (handle_of e) q) _
    (λ t. let z : 1 + times_in handle_of q es ≡ 0 = rw t at n in absurd (omega arith))
    (λ t. let z : 0 + times_in handle_of q es ≡ 0 = rw t at n in
    items_else e.row.handle q (items_at world e.row.handle.0) (flat_map (entry_rows world) es) t ∙ none_there world q es (omega arith))

once_there : (world : World) (q : ℕ) (es : List BufferEntry) → times_in handle_of q es ≡ 1 → items_of q (flat_map (entry_rows world) es) ≡ items_at world q
once_there world q [] n = absurd (omega arith)
once_there world q (e ∷ es) n = by_bool (eqb (handle_of e) q) _
    (λ t. let z : 1 + times_in handle_of q es ≡ 1 = rw t at n in
    let is : handle_of e ≡ q = eqb-true (handle_of e) q t in
    subst (λ h. items_of h (flat_map (entry_rows world) (e ∷ es)) ≡ items_at world h) is (
    items_here e.row.handle (items_at world e.row.handle.0) (flat_map (entry_rows world) es)
    ∙ ap (λ is. items_at world (handle_of e) ++ is)
    (subst (λ h. items_of h (flat_map (entry_rows world) es) ≡ []) (sym is) (none_there world q es (omega arith)))
    ∙ append-nil (items_at world (handle_of e))))
    (λ t. let z : 0 + times_in handle_of q es ≡ 1 = rw t at n in
    items_else e.row.handle q (items_at world e.row.handle.0) (flat_map (entry_rows world) es) t ∙ once_there world q es (omega arith))

times_rows : (q : ℕ) (groups : EntryGroups) → times_in handle_of q (rows groups) ≡ times handle_of q groups
times_rows q [] = refl
times_rows q (g ∷ groups) = omega (arith, times_in-append handle_of q g (rows groups), times_rows q groups)

-- ---- the list of each buffer in it
abbrev IsListed : World → List NickRow → ℕ → Type 0
IsListed world all q = rows_listed (items_of q all) ≡ Some (rows_at world q)

abbrev entry_at : World → NickRow → ℕ × List Row
entry_at world row = (row.buffer, rows_at world row.buffer)

entries_more : (world : World) (all : List NickRow) (buffer : Handle) (items : List Item) (told : List NickRow) → IsListed world all buffer.0
    → each (entry_of all) told ≡ Some (map (entry_at world) told)
    → each (entry_of all) (map (row_at buffer) items ++ told) ≡ Some (map (entry_at world) (map (row_at buffer) items ++ told))
entries_more world all buffer [] told is e = e
entries_more world all buffer (i ∷ items) told is e =
    let first : entry_of all (row_at buffer i) ≡ Some (entry_at world (row_at buffer i)) = ap (option_map (λ list. (buffer.0, list))) is in
    rw (first, entries_more world all buffer items told is e) refl

entries_read : (world : World) (all : List NickRow) (es : List BufferEntry) → AllByRecursion (λ e. IsListed world all (handle_of e)) es
    → each (entry_of all) (flat_map (entry_rows world) es) ≡ Some (map (entry_at world) (flat_map (entry_rows world) es))
entries_read world all [] are = refl
entries_read world all (e ∷ es) are =
    entries_more world all e.row.handle (items_at world e.row.handle.0) (flat_map (entry_rows world) es) are.0 (entries_read world all es are.1)

each_there : (P : ℕ → Type 0) (es : List BufferEntry) → ((q : ℕ) → 1 ≤ times_in handle_of q es → P q) → AllByRecursion (λ e. P (handle_of e)) es
each_there P [] holds = tt
each_there P (e ∷ es) holds = (holds (handle_of e) (rw (eq-eqb (handle_of e) (handle_of e) refl) (omega arith)), each_there P es (λ q l. holds q (omega arith)))

all_listed : (world : World) → HasLists world → AllByRecursion (λ e. IsListed world (all_rows world) (handle_of e)) (rows world.groups)
all_listed world lists = each_there (IsListed world (all_rows world)) (rows world.groups) (λ q l.
    let once : times_in handle_of q (rows world.groups) ≡ 1 = omega (arith, l, times_rows q world.groups, lists.once q) in
    ap rows_listed (once_there world q (rows world.groups) once) ∙ listed (root_at q) (rows_at world q) (lists.rows q).held)

-- ---- the map of the lists
abbrev has_rows : ℕ → List NickRow → Bool
has_rows q [] = false
has_rows q (row ∷ told) = cond (eqb q row.buffer) true (has_rows q told)

found_by : (world : World) (q : ℕ) (told : List NickRow) → find nat_cmp q (map (entry_at world) told) ≡ cond (has_rows q told) (Some (rows_at world q)) None
found_by world q [] = refl
found_by world q (row ∷ told) = by_bool (eqb q row.buffer) _
    (λ t. rw (tied q row.buffer, t) (ap (λ b. Some (rows_at world b)) (sym (eqb-true q row.buffer t))))
    (λ t. rw (tied q row.buffer, t) (found_by world q told))

has_else : (q : ℕ) (buffer : Handle) (items : List Item) (told : List NickRow) → eqb q buffer.0 ≡ false → has_rows q (map (row_at buffer) items ++ told) ≡ has_rows q told
has_else q buffer [] told e = refl
has_else q buffer (i ∷ items) told e = rw e (has_else q buffer items told e)

turned : (a b : ℕ) (on : Bool) → eqb a b ≡ on → eqb b a ≡ on
turned a b on e = grind (arith, nat_tests)

has_all : (world : World) (q : ℕ) (es : List BufferEntry) → has_rows q (flat_map (entry_rows world) es) ≡ in_group handle_of q es
has_all world q [] = refl
has_all world q (e ∷ es) = by_bool (eqb q (handle_of e)) _
    (λ t. rw (t, turned q (handle_of e) true t) refl)
    (λ t. rw (t, turned q (handle_of e) false t)
    (has_else q e.row.handle (map (λ r. r.item) (rows_at world (handle_of e))) (flat_map (entry_rows world) es) t ∙ has_all world q es))

has_group : (q : ℕ) (groups : EntryGroups) → in_group handle_of q (rows groups) ≡ has handle_of q groups
has_group q [] = refl
has_group q (g ∷ groups) = list_any-append (λ e. eqb (handle_of e) q) g (rows groups) ∙ ap (λ b. in_group handle_of q g || b) (has_group q groups)

held : (o : Option (List Row)) → cond (is_some o) (Some (unwrap_or o [])) None ≡ o
held None = refl
held (Some list) = refl

same_lists : (world : World) → HasLists world → from_entries (map (entry_at world) (all_rows world)) ≡ world.nicks
same_lists world lists = same_map nat_cmp_total nat_cmp-IsAntisymmetric _ world.nicks (λ q.
    get-from_entries nat_cmp_total (map (entry_at world) (all_rows world)) q ∙ found_by world q (all_rows world)
    ∙ ap (λ b. cond b (Some (rows_at world q)) None) (has_all world q (rows world.groups) ∙ has_group q world.groups ∙ sym (lists.stored q))
    ∙ held (get world.nicks q))

pub dump_shows : NickDumpShows
dump_shows id part world lists =
    rw (same_bytes id) (
    ap (λ told. Ok (listed_or part told)) (dump_read world (λ q. few_listed (root_at q) (rows_at world q) (lists.rows q).levels))
    ∙ ap (λ es. Ok (new_or part (option_map (λ es. from_entries es) es))) (entries_read world (all_rows world) (rows world.groups) (all_listed world lists))
    ∙ ap (λ lists. Ok (Some lists)) (same_lists world lists))
