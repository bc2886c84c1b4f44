-- What a message changes of the nicklists that a client holds.
use Rattle.std.specs.Prelude.{ℕ, ◌==◌, Bool, true, false, ◌&&◌, List, [], ◌∷◌, map, filter, Option}
use Rattle.std.specs.Prelude.{Some, None, Result, Ok, Err, is_none, is_some, option_map}
use Rattle.std.specs.Prelude.{if◌then◌else◌, bytes_eq}
use Rattle.std.specs.Option.{option_and_then}
use Rattle.std.specs.List.{list_all}
use Rattle.std.specs.FinMap.{FinMap, get, insert, remove, from_entries}
use Rattle.std.specs.Ordering.{nat_cmp}
use Rattle.wc_nicklist.specs.declared.item.Item.{Item}
use Rattle.wc_nicklist.specs.declared.item.Row.{Row}
use Rattle.wc_nicklist.specs.Order.{key, before}
use Rattle.wc_nicklist.specs.Rows.{find_row, is_root, parent_of, path_below, path_eq, level_at}
use Rattle.wc_nicklist.specs.Calls.{name_refusal}
use Rattle.wc_nickdiff.specs.declared.diff_item.DiffItem.{DiffItem}
use Rattle.wc_nickdiff.specs.Apply.{applied_all}
use Rattle.wc_nickdiff.specs.PushLaw.{rows_from}
use Rattle.wc_model.specs.declared.notice.EventKind.TheVariants as event
use Rattle.wc_objects.specs.declared.object.Object.{Object}
use Rattle.wc_objects.specs.declared.object.WireMessage.{WireMessage}
use Rattle.wc_keys.specs.Events.{id_of}
use Rattle.wc_view.specs.declared.told_buffer.ToldBuffer.{ToldBuffer}
use Rattle.wc_view.specs.declared.nick_rows.NickRow.{NickRow}
use Rattle.wc_view.specs.declared.nick_rows.NickChange.{NickChange}
use Rattle.wc_view.specs.BufferFold.{event_buffer}
use Rattle.wc_view.specs.Each.{each}
use Rattle.wc_view.specs.Grouped.{key_of}
use Rattle.wc_view.specs.Named.{buffer_named}
use Rattle.wc_view.specs.NickRows.{nick_rows_on, nick_changes_on}

-- the rows of each buffer's nicklist, by the buffer's handle
abbrev pub NickPart : Type 0
NickPart = FinMap nat_cmp (List Row)

-- ---- which rows a nicklist can hold, in canonical order

abbrev pub are_ascending : List Row → Bool
are_ascending [] = true
are_ascending (x ∷ xs) = list_all (λ y. before x y) xs && are_ascending xs

-- each key once
abbrev pub are_keyed : List Row → Bool
are_keyed [] = true
are_keyed (x ∷ xs) = is_none (find_row (key x) xs) && are_keyed xs

abbrev pub is_path : Option (List (List ℕ)) → List (List ℕ) → Bool
is_path None path = false
is_path (Some found) path = path_eq found path

-- a row whose parent is the root or a group of these rows, with its level and a name that it may
-- have
abbrev pub may_be_listed : List Row → Row → Bool
may_be_listed rows r =
    is_path (path_below (parent_of r) rows) r.path
    && ((r.item.level == level_at r.item.is_group r.path)
    && is_none (name_refusal r.item.is_group r.item.name))

unfoldable pub are_rows : List Row → Bool
are_rows rows = are_ascending rows && (are_keyed rows && list_all (may_be_listed rows) rows)

-- ---- full lists

abbrev pub is_root_item : Item → Bool
is_root_item i = i.is_group && is_root i.name

abbrev pub rows_if : Bool → List Row → Option (List Row)
rows_if holds rows = if holds then Some rows else None

-- the rows after one root
unfoldable pub rows_listed : List Item → Option (List Row)
rows_listed [] = None
rows_listed (root ∷ items) = rows_if (is_root_item root && are_rows (rows_from [] items))
    (rows_from [] items)

-- the items of one buffer among these
abbrev pub items_of : ℕ → List NickRow → List Item
items_of buffer rows = map (λ (row : NickRow). row.item)
    (filter (λ (row : NickRow). row.buffer == buffer) rows)

abbrev pub entry_of : List NickRow → NickRow → Option (ℕ × List Row)
entry_of all row = option_map (λ list. (row.buffer, list)) (rows_listed (items_of row.buffer all))

-- the nicklist of each buffer among these, where each is one
abbrev pub part_listed : List NickRow → Option NickPart
part_listed rows = option_map (λ es. from_entries es) (each (entry_of rows) rows)

-- the dump sets the part, where each of its lists is one
abbrev pub new_or : Option NickPart → Option NickPart → Option NickPart
new_or part None = part
new_or part (Some new) = Some new

abbrev pub listed_or : Option NickPart → Option (List NickRow) → Option NickPart
listed_or part None = part
listed_or part (Some rows) = new_or part (part_listed rows)

abbrev pub fold_nick_dump : Option NickPart → WireMessage → Option NickPart
fold_nick_dump part message = listed_or part (nick_rows_on message.objects)

-- whether all are of this buffer
abbrev pub are_of : ℕ → List NickRow → Bool
are_of buffer rows = list_all (λ (row : NickRow). row.buffer == buffer) rows

-- other rows of a buffer that is held
abbrev pub put_rows : ℕ → Option (List Row) → NickPart → NickPart
put_rows buffer None part = part
put_rows buffer (Some rows) part = if is_some (get part buffer)
    then insert part buffer rows else part

-- a full list has some items, which are all of one buffer
unfoldable pub with_full : List NickRow → NickPart → NickPart
with_full [] part = part
with_full (row ∷ rows) part = if are_of row.buffer rows
    then put_rows row.buffer (rows_listed (map (λ (row : NickRow). row.item) (row ∷ rows)))
    part else part

abbrev pub with_full_told : Option (List NickRow) → NickPart → NickPart
with_full_told None part = part
with_full_told (Some rows) part = with_full rows part

abbrev pub fold_full : Option NickPart → WireMessage → Option NickPart
fold_full part message = option_map (with_full_told (nick_rows_on message.objects)) part

-- ---- diffs

abbrev pub changes_are_of : ℕ → List NickChange → Bool
changes_are_of buffer changes = list_all (λ (change : NickChange). change.buffer == buffer) changes

abbrev pub put_applied : ℕ → NickPart → Result (List Row) ℕ → Result NickPart ℕ
put_applied buffer part (Ok rows) = Ok (insert part buffer rows)
put_applied buffer part (Err place) = Err place

-- the items of a diff applied to a nicklist that is held
abbrev pub apply_to : ℕ → List DiffItem → NickPart → Option (List Row) → Result NickPart ℕ
apply_to buffer items part None = Ok part
apply_to buffer items part (Some rows) = put_applied buffer part (applied_all items rows)

-- a diff has some items, which are all of one buffer
unfoldable pub with_diff : List NickChange → NickPart → Result NickPart ℕ
with_diff [] part = Ok part
with_diff (change ∷ changes) part =
    if changes_are_of change.buffer changes
    then apply_to change.buffer (map (λ (change : NickChange). change.diff) (change ∷ changes)) part
    (get part change.buffer)
    else Ok part

abbrev pub with_diff_told : Option (List NickChange) → NickPart → Result NickPart ℕ
with_diff_told None part = Ok part
with_diff_told (Some changes) part = with_diff changes part

abbrev pub some_part : Result NickPart ℕ → Result (Option NickPart) ℕ
some_part (Ok part) = Ok (Some part)
some_part (Err place) = Err place

abbrev pub fold_diff : Option NickPart → WireMessage → Result (Option NickPart) ℕ
fold_diff None message = Ok None
fold_diff (Some part) message = some_part (with_diff_told (nick_changes_on message.objects) part)

-- ---- buffers that come and go

-- a buffer that was not held comes without rows
abbrev pub with_opened : Option ToldBuffer → NickPart → NickPart
with_opened None part = part
with_opened (Some told) part = if is_some (get part (key_of told.buffer)) then part
    else insert part (key_of told.buffer) []

abbrev pub fold_opened : Option NickPart → WireMessage → Option NickPart
fold_opened part message = option_map (with_opened (event_buffer event.Opened message.objects)) part

abbrev pub without_named : Option ℕ → NickPart → NickPart
without_named None part = part
without_named (Some buffer) part = remove part buffer

abbrev pub fold_closed : Option NickPart → WireMessage → Option NickPart
fold_closed part message = option_map (without_named (buffer_named message.objects)) part

-- ---- messages

abbrev pub fold_nick_event : Option NickPart → WireMessage → Result (Option NickPart) ℕ
fold_nick_event part message =
    if bytes_eq message.id (id_of event.NicklistDiff) then fold_diff part message else (
    if bytes_eq message.id (id_of event.Nicklist) then Ok (fold_full part message) else (
    if bytes_eq message.id (id_of event.Opened) then Ok (fold_opened part message) else (
    if bytes_eq message.id (id_of event.Closing) then Ok (fold_closed part message) else Ok part)))

-- The reply under the id of the nicklist dump, and the events: of a whole nicklist, of a diff,
-- which may be refused at one of its items, and of a buffer that comes or goes. Other messages, and
-- those whose keys or values are not those of their kind, change nothing, and neither does a list
-- that no nicklist can hold.
abbrev pub fold_nicks : List ℕ → Option NickPart → WireMessage → Result (Option NickPart) ℕ
fold_nicks id part message = if bytes_eq message.id id then Ok (fold_nick_dump part message)
    else fold_nick_event part message
