-- What a message changes of the buffers that a client holds.
use Rattle.std.specs.Prelude.{ℕ, ◌==◌, Bool, true, not, ◌&&◌, List, [], ◌∷◌, Option, Some, None}
use Rattle.std.specs.Prelude.{find, option_map, if◌then◌else◌, bytes_eq}
use Rattle.std.specs.Option.{option_and_then}
use Rattle.std.specs.List.{list_any}
use Rattle.wc_model.specs.declared.notice.EventKind.{EventKind}
use Rattle.wc_model.specs.declared.notice.EventKind.TheVariants as event
use Rattle.wc_objects.specs.declared.object.Object.{Object}
use Rattle.wc_objects.specs.declared.object.WireMessage.{WireMessage}
use Rattle.wc_keys.specs.declared.key.Key.{Key}
use Rattle.wc_keys.specs.declared.key.KeyList.TheVariants as l
use Rattle.wc_keys.specs.Keys.{keys_in, list_text}
use Rattle.wc_keys.specs.Events.{buffer_path, id_of, path_of, list_of}
use Rattle.wc_view.specs.declared.mirror_buffer.MirrorBuffer.{MirrorBuffer}
use Rattle.wc_view.specs.declared.told_buffer.ToldBuffer.{ToldBuffer}
use Rattle.wc_view.specs.Each.{each, only}
use Rattle.wc_view.specs.Items.{items_on}
use Rattle.wc_view.specs.ToldBuffer.{buffer_in}
use Rattle.wc_view.specs.Grouped.{MirrorGroups, key_of, with_event}

-- ---- the dump

abbrev pub is_told : ℕ → List ToldBuffer → Bool
is_told h rows = list_any (λ (row : ToldBuffer). key_of row.buffer == h) rows

-- no buffer is told twice
abbrev pub are_once : List ToldBuffer → Bool
are_once [] = true
are_once (row ∷ rows) = not (is_told (key_of row.buffer) rows) && are_once rows

abbrev pub in_front : MirrorBuffer → MirrorGroups → MirrorGroups
in_front b [] = (b ∷ []) ∷ []
in_front b (group ∷ groups) = (b ∷ group) ∷ groups

-- in front of these groups, whose first begins with this row
abbrev pub put_in_front : ToldBuffer → List ToldBuffer → MirrorGroups → MirrorGroups
put_in_front row [] groups = (row.buffer ∷ []) ∷ groups
put_in_front row (next ∷ rows) groups = if row.number == next.number then in_front row.buffer groups
    else (row.buffer ∷ []) ∷ groups

-- runs of equal numbers are groups
abbrev pub runs : List ToldBuffer → MirrorGroups
runs [] = []
runs (row ∷ rows) = put_in_front row rows (runs rows)

abbrev pub dumped_groups : Option (List ToldBuffer) → Option MirrorGroups → Option MirrorGroups
dumped_groups None part = part
dumped_groups (Some rows) part = if are_once rows then Some (runs rows) else part

abbrev pub buffers_on : List Object → Option (List ToldBuffer)
buffers_on objects = option_and_then (each (buffer_in (keys_in l.Dump)))
    (items_on buffer_path (list_text l.Dump) objects)

abbrev pub fold_buffer_dump : Option MirrorGroups → WireMessage → Option MirrorGroups
fold_buffer_dump part message = dumped_groups (buffers_on message.objects) part

-- ---- events

-- the events that change buffers
abbrev pub kinds : List EventKind
kinds =
    event.Opened ∷ event.Moved ∷ event.Merged ∷ event.Unmerged ∷ event.Hidden ∷ event.Unhidden ∷
    event.Renamed ∷ event.TitleChanged ∷
    event.VarAdded ∷ event.VarChanged ∷ event.VarRemoved ∷ event.Closing ∷ []

abbrev pub kind_among : List ℕ → List EventKind → Option EventKind
kind_among id some = find (λ kind. bytes_eq id (id_of kind)) some

abbrev pub kind_named : List ℕ → Option EventKind
kind_named id = kind_among id kinds

-- the keys of an event
abbrev pub keys_of : EventKind → List Key
keys_of kind = keys_in (list_of kind)

-- what the one item of an event tells
unfoldable pub event_buffer : EventKind → List Object → Option ToldBuffer
event_buffer kind objects = option_and_then (buffer_in (keys_of kind))
    (option_and_then only (items_on (path_of kind) (list_text (list_of kind)) objects))

abbrev pub changed_by : EventKind → Option ToldBuffer → Option MirrorGroups → Option MirrorGroups
changed_by kind None part = part
changed_by kind (Some told) part = option_map (with_event kind told) part

abbrev pub event_groups : Option EventKind → List Object → Option MirrorGroups → Option MirrorGroups
event_groups None objects part = part
event_groups (Some kind) objects part = changed_by kind (event_buffer kind objects) part

abbrev pub fold_buffer_event : Option MirrorGroups → WireMessage → Option MirrorGroups
fold_buffer_event part message = event_groups (kind_named message.id) message.objects part

-- The reply under the id of the buffer dump, where it tells of no buffer twice, and the events of
-- buffers. Other messages, and those whose keys or values are not those of their kind, change
-- nothing.
abbrev pub fold_buffers : List ℕ → Option MirrorGroups → WireMessage → Option MirrorGroups
fold_buffers id part message = if bytes_eq message.id id then fold_buffer_dump part message
    else fold_buffer_event part message
