-- The nicklists of all buffers, by the handles of these.
use Rattle.std.proofs.Common.{◌≡◌, ℕ, true, false, eqb, eqb-true, List, [], ◌∷◌, ◌++◌, map, find, Some, None, refl, sym, ap, ◌∙◌}
use Rattle.wc_text.specs.declared.names.Handle.{Handle}
use Rattle.wc_nicklist.specs.declared.item.Row.{Row}
use Rattle.wc_nicklist.proofs.OrderLaws.{by_bool}
use Rattle.wc_nickdiff.specs.NickPush.{full_list, root_item}
use Rattle.wc_buffers.specs.declared.row.BufferEntry.{BufferEntry}
use Rattle.wc_buffers.specs.Calls.{handle_of, entry_of, is_there}
use Rattle.wc_buffers.specs.Groups.{rows}
use Rattle.wc_buffers.specs.Kept.{AreBuffers, handles}
use Rattle.wc_world.proofs.GroupRows.{no_row, some_row}
use Rattle.wc_model.specs.World.{World, rows_at, root_at}
use Rattle.wc_objects.specs.declared.object.HdaItem.{HdaItem}
use Rattle.wc_events.specs.Dumps.{if_there}
use Rattle.wc_events.specs.NickObjects.{nick_keys, nick_item, nick_dump, nick_list, root_and_rows}
use Rattle.wc_events.specs.NickForms.{on_nick_path, all_nicks}
use Rattle.wc_events.proofs.DumpLemmas.{told_of_all}

-- a buffer that is found has the handle by which it was sought
found_key : (h : ℕ) (xs : List BufferEntry) (e : BufferEntry) → find (λ x. eqb (handle_of x) h) xs ≡ Some e → handle_of e ≡ h
found_key h [] e is = absurd cc
found_key h (x ∷ xs) e is = by_bool (eqb (handle_of x) h) _
    (λ t. let first : Some x ≡ Some e = rw t at is in let same : x ≡ e = cc in ap handle_of (sym same) ∙ eqb-true _ _ t)
    (λ t. found_key h xs e (rw t at is))

-- the items of a buffer's nicklist, by its handle
abbrev pub listed_at : World → Handle → List HdaItem
listed_at world buffer = map (nick_item buffer) (full_list (root_item (root_at buffer.0)) (rows_at world buffer.0))

-- the rows after the root
same_items : (buffer : Handle) (list : List Row) → map (λ (r : Row). nick_item buffer r.item) list ≡ map (nick_item buffer) (map (λ (r : Row). r.item) list)
same_items buffer [] = refl
same_items buffer (r ∷ list) = ap (λ items. nick_item buffer r.item ∷ items) (same_items buffer list)

pub root_then_rows : (buffer root : Handle) (list : List Row)
    → map (nick_item buffer) (full_list (root_item root) list) ≡ (nick_item buffer (root_item root) ∷ []) ++ map (λ (r : Row). nick_item buffer r.item) list
root_then_rows buffer root list = ap (λ more. nick_item buffer (root_item root) ∷ more) (sym (same_items buffer list))

listed_found : (world : World) (buffer : Handle) (e : BufferEntry) → entry_of buffer world.groups ≡ Some e → root_and_rows world e ≡ listed_at world buffer
listed_found world buffer e is =
    let number = found_key buffer.0 (rows world.groups) e is in
    let same : e.row.handle ≡ buffer = λ i. record { 0 = number i } in
    ap (listed_at world) same

pub listed_there : (world : World) (buffer : Handle) → is_there buffer world.groups ≡ true → if_there (root_and_rows world) (entry_of buffer world.groups) ≡ listed_at world buffer
listed_there world buffer there = let e = some_row handle_of buffer.0 world.groups there in rw e.1 (listed_found world buffer e.0 e.1)

pub listed_absent : (world : World) (buffer : Handle) → is_there buffer world.groups ≡ false → if_there (root_and_rows world) (entry_of buffer world.groups) ≡ []
listed_absent world buffer absent = rw (no_row handle_of buffer.0 world.groups absent) refl

pub list_there : (world : World) (buffer : Handle) → is_there buffer world.groups ≡ true → nick_list world buffer ≡ Some (on_nick_path nick_keys (listed_at world buffer))
list_there world buffer there =
    let e = some_row handle_of buffer.0 world.groups there in
    rw e.1 (ap (λ items. Some (on_nick_path nick_keys items)) (listed_found world buffer e.0 e.1))

pub list_absent : (world : World) (buffer : Handle) → is_there buffer world.groups ≡ false → nick_list world buffer ≡ None
list_absent world buffer absent = rw (no_row handle_of buffer.0 world.groups absent) refl

pub nicks_dumped : (world : World) → AreBuffers world.groups → nick_dump world ≡ on_nick_path nick_keys (all_nicks world (handles world.groups))
nicks_dumped world are = ap (on_nick_path nick_keys) (sym (told_of_all world.groups (root_and_rows world) are))
