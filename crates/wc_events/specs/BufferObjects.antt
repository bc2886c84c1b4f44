-- What a client is told of buffers: the event of each notice, and the dump of all buffers.
use Rattle.std.specs.Prelude.{ℕ, ◌+◌, ℤ, pos, Bool, false, List, [], ◌∷◌}
use Rattle.std.specs.Prelude.{◌++◌, map, filter, Option, Some, None, option_map, unwrap_or}
use Rattle.std.specs.Prelude.{if◌then◌else◌, codes, bytes_eq}
use Rattle.std.specs.List.{filter_map, list_any}
use Rattle.std.specs.Option.{option_or}
use Rattle.wc_text.specs.declared.names.Handle.{Handle}
use Rattle.wc_text.specs.declared.names.Pair.{Pair}
use Rattle.wc_text.specs.Splits.{text_after}
use Rattle.wc_lines.specs.declared.line.Line.{Line}
use Rattle.wc_lines.specs.Ring.{newest}
use Rattle.wc_buffers.specs.declared.row.BufferEntry.{BufferEntry}
use Rattle.wc_buffers.specs.Calls.{EntryGroups, entry_of}
use Rattle.wc_buffers.specs.Vars.{value_of}
use Rattle.wc_model.specs.declared.notice.EventKind.{EventKind}
use Rattle.wc_model.specs.declared.notice.EventKind.TheVariants as kind
use Rattle.wc_model.specs.declared.notice.Notice.{Notice}
use Rattle.wc_model.specs.declared.notice.Trim.{Trim}
use Rattle.wc_model.specs.World.{World, lines_at}
use Rattle.wc_model.specs.Parts.{is_flipped}
use Rattle.wc_objects.specs.declared.kind.Kind.TheVariants as k
use Rattle.wc_objects.specs.declared.object.Object.{Object}
use Rattle.wc_objects.specs.declared.object.Object.TheVariants as o
use Rattle.wc_objects.specs.declared.object.Hda.{roll-Hda}
use Rattle.wc_objects.specs.declared.object.HdaItem.{HdaItem, roll-HdaItem}
use Rattle.wc_objects.specs.declared.object.WireMessage.{WireMessage}
use Rattle.wc_keys.specs.declared.key.KeyList.{KeyList}
use Rattle.wc_keys.specs.declared.key.KeyList.TheVariants as l
use Rattle.wc_keys.specs.declared.key.Key.{Key}
use Rattle.wc_keys.specs.declared.key.Key.TheVariants as key
use Rattle.wc_keys.specs.Keys.{keys_in, list_text}
use Rattle.wc_keys.specs.Events.{buffer_path, line_path}
use Rattle.wc_events.specs.LineObjects.{truth, line_value, added_objects}
pub use Rattle.wc_events.specs.LineObjects.{count}
pub use Rattle.wc_keys.specs.Events.{id_of}

-- ---- values

abbrev pub text : List ℕ → Object
text bytes = o.Str (Some bytes)

abbrev pub pair_of : Pair → Object × Object
pair_of var = (text var.name, text var.value)

-- the variables of a buffer, in order
abbrev pub table : List Pair → Object
table vars = o.Htb k.Str k.Str (map pair_of vars)

abbrev pub number_of : Notice → Object
number_of notice = o.Int (count notice.number)

-- one item of a buffer on the path `buffer`
abbrev pub about : List ℕ → Handle → List Object → List Object
about keys buffer values =
    o.Hda (roll-Hda (record {
      path = Some buffer_path;
      keys = Some keys;
      items = roll-HdaItem (record { pointers = buffer.0 ∷ []; values = values }) ∷ [];
    })) ∷ []

-- ---- the value of a buffer under each key

-- what a notice says of it
abbrev pub noticed_value : Notice → Key → Option Object
noticed_value notice key.Number = Some (number_of notice)
noticed_value notice key.FullName = Some (text notice.full_name)
noticed_value notice key.PrevBuffer = Some (o.Ptr notice.prev.0)
noticed_value notice key.NextBuffer = Some (o.Ptr notice.next.0)
noticed_value notice _ = None

-- its name without its plugin: what is after the first dot of its full name, or all where there is none
abbrev pub bare_name : List ℕ → List ℕ
bare_name full_name = unwrap_or (text_after 46 full_name) full_name

-- whether it is of a channel, by its variable `type`
abbrev pub is_value : List ℕ → Option (List ℕ) → Bool
is_value text None = false
is_value text (Some value) = bytes_eq value text

abbrev pub is_channel : List Pair → Bool
is_channel vars = is_value (codes "channel") (value_of (codes "type") vars)

-- what it has where it is there; each buffer is of the plain type, and all of its lines call for notice
abbrev pub entry_value : BufferEntry → Key → Option Object
entry_value e key.FullName = Some (text e.row.full_name)
entry_value e key.ShortName = Some (text e.row.short_name)
entry_value e key.Hidden = Some (o.Int (truth e.row.hidden))
entry_value e key.Title = Some (text e.row.title)
entry_value e key.LocalVariables = Some (table e.vars)
entry_value e key.Name = Some (text (bare_name e.row.full_name))
entry_value e key.BufferType = Some (o.Int (pos 0))
entry_value e key.Notify = Some (o.Int (pos 3))
entry_value e key.Nicklist = Some (o.Int (truth (is_channel e.vars)))
entry_value e _ = None

-- its number beside that
abbrev pub numbered_value : ℤ → BufferEntry → Key → Option Object
numbered_value number e key.Number = Some (o.Int number)
numbered_value number e name = entry_value e name

-- what is told of it after a change
abbrev pub told_value : Notice → BufferEntry → Key → Option Object
told_value notice e name = option_or (noticed_value notice name) (entry_value e name)

-- what is told of it under the keys of a list
abbrev pub told_objects : KeyList → Notice → BufferEntry → List Object
told_objects list notice e = about (list_text list) notice.buffer
    (filter_map (told_value notice e) (keys_in list))

-- ---- the keys and the values of each event, by what is noticed and by what is of the buffer after the change

abbrev pub opened_keys : List ℕ
opened_keys = list_text l.Opened

abbrev pub placed_keys : List ℕ
placed_keys = list_text l.Placed

abbrev pub renamed_keys : List ℕ
renamed_keys = list_text l.Renamed

abbrev pub title_keys : List ℕ
title_keys = list_text l.Titled

abbrev pub vars_keys : List ℕ
vars_keys = list_text l.Variables

abbrev pub named_keys : List ℕ
named_keys = list_text l.Named

unfoldable pub opened_values : Notice → BufferEntry → List Object
opened_values notice e = filter_map (told_value notice e) (keys_in l.Opened)

unfoldable pub placed_values : Notice → List Object
placed_values notice = filter_map (noticed_value notice) (keys_in l.Placed)

unfoldable pub renamed_values : Notice → BufferEntry → List Object
renamed_values notice e = filter_map (told_value notice e) (keys_in l.Renamed)

unfoldable pub title_values : Notice → BufferEntry → List Object
title_values notice e = filter_map (told_value notice e) (keys_in l.Titled)

unfoldable pub vars_values : Notice → BufferEntry → List Object
vars_values notice e = filter_map (told_value notice e) (keys_in l.Variables)

unfoldable pub named_values : Notice → List Object
named_values notice = filter_map (noticed_value notice) (keys_in l.Named)

abbrev pub opened_objects : Notice → BufferEntry → List Object
opened_objects notice e = about opened_keys notice.buffer (opened_values notice e)

abbrev pub placed_objects : Notice → List Object
placed_objects notice = about placed_keys notice.buffer (placed_values notice)

abbrev pub renamed_objects : Notice → BufferEntry → List Object
renamed_objects notice e = about renamed_keys notice.buffer (renamed_values notice e)

abbrev pub title_objects : Notice → BufferEntry → List Object
title_objects notice e = about title_keys notice.buffer (title_values notice e)

abbrev pub vars_objects : Notice → BufferEntry → List Object
vars_objects notice e = about vars_keys notice.buffer (vars_values notice e)

abbrev pub named_objects : Notice → List Object
named_objects notice = about named_keys notice.buffer (named_values notice)

-- ---- the lines of one buffer whose flags differ

abbrev pub flag_keys : List ℕ
flag_keys = list_text l.Flags

abbrev pub flag_item : Handle → Line → HdaItem
flag_item buffer line = roll-HdaItem
    (record {
      pointers = line.content.0 ∷ [];
      values = filter_map (line_value buffer line) (keys_in l.Flags);
    })

abbrev pub flag_items : Handle → List Handle → List Line → List HdaItem
flag_items buffer flips lines = map (flag_item buffer) (filter (is_flipped flips) lines)

abbrev pub flags_about : List HdaItem → List Object
flags_about items =
    o.Hda (roll-Hda (record {
      path = Some line_path;
      keys = Some flag_keys;
      items = items;
    })) ∷ []

abbrev pub flag_objects : Handle → List Handle → List Line → List Object
flag_objects buffer flips lines = flags_about (flag_items buffer flips lines)

-- none where no line of the buffer is among those that are named
abbrev pub flagged_objects : Handle → List Handle → List Line → Option (List Object)
flagged_objects buffer flips lines = if list_any (is_flipped flips) lines
    then Some (flag_objects buffer flips lines) else None

-- ---- how many of the oldest lines of a buffer went

abbrev pub trim_value : Trim → Key → Option Object
trim_value trim key.Buffer = Some (o.Ptr trim.buffer.0)
trim_value trim key.Trimmed = Some (o.Int (count trim.count))
trim_value trim _ = None

abbrev pub trim_keys : List ℕ
trim_keys = list_text l.Trimmed

unfoldable pub trim_values : Trim → List Object
trim_values trim = filter_map (trim_value trim) (keys_in l.Trimmed)

abbrev pub trim_objects : Trim → List Object
trim_objects trim = about trim_keys trim.buffer (trim_values trim)

-- a notice of lines that went is of one buffer
abbrev pub trimmed_objects : List Trim → Option (List Object)
trimmed_objects [] = None
trimmed_objects (trim ∷ trims) = Some (trim_objects trim)

-- The objects of the event of a notice, in the world after the change. Flags of lines and lines that
-- went are told of each buffer by itself, nicklists are pushed, and nothing is told of a buffer that is
-- not there.
unfoldable pub objects_of : World → EventKind → Notice → Option (List Object)
objects_of world kind.Opened notice = option_map (opened_objects notice)
    (entry_of notice.buffer world.groups)
objects_of world kind.Moved notice = Some (placed_objects notice)
objects_of world kind.Merged notice = Some (placed_objects notice)
objects_of world kind.Unmerged notice = Some (placed_objects notice)
objects_of world kind.Hidden notice = Some (placed_objects notice)
objects_of world kind.Unhidden notice = Some (placed_objects notice)
objects_of world kind.Renamed notice = option_map (renamed_objects notice)
    (entry_of notice.buffer world.groups)
objects_of world kind.TitleChanged notice = option_map (title_objects notice)
    (entry_of notice.buffer world.groups)
objects_of world kind.VarAdded notice = option_map (vars_objects notice)
    (entry_of notice.buffer world.groups)
objects_of world kind.VarChanged notice = option_map (vars_objects notice)
    (entry_of notice.buffer world.groups)
objects_of world kind.VarRemoved notice = option_map (vars_objects notice)
    (entry_of notice.buffer world.groups)
objects_of world kind.Cleared notice = Some (named_objects notice)
objects_of world kind.Closing notice = Some (named_objects notice)
objects_of world kind.LineAdded notice = option_map (added_objects notice.buffer)
    (newest (lines_at world notice.buffer.0))
objects_of world kind.LineDataChanged notice = flagged_objects notice.buffer notice.flips
    (lines_at world notice.buffer.0)
objects_of world kind.Nicklist notice = None
objects_of world kind.NicklistDiff notice = None
objects_of world kind.NickTouched notice = None
objects_of world kind.LimitSet notice = None
objects_of world kind.LinesTrimmed notice = trimmed_objects notice.trims

abbrev pub event_objects : World → Notice → Option (List Object)
event_objects world notice = objects_of world notice.kind notice

-- the message of a notice
abbrev pub event_of : World → Notice → Option WireMessage
event_of world notice = option_map (λ objects. record { id = id_of notice.kind; objects = objects })
    (event_objects world notice)

-- ---- the dump of all buffers

abbrev pub dump_keys : List ℕ
dump_keys = list_text l.Dump

unfoldable pub dumped_values : ℕ → BufferEntry → List Object
dumped_values number e = filter_map (numbered_value (pos number) e) (keys_in l.Dump)

abbrev pub dumped_buffer : ℕ → BufferEntry → HdaItem
dumped_buffer number e = roll-HdaItem
    (record { pointers = e.row.handle.0 ∷ []; values = dumped_values number e })

-- the groups from this number on
abbrev pub dumped_groups : ℕ → EntryGroups → List HdaItem
dumped_groups number [] = []
dumped_groups number (group ∷ groups) = map (dumped_buffer number) group
    ++ dumped_groups (number + 1) groups

abbrev pub buffer_dump : EntryGroups → List Object
buffer_dump groups = o.Hda (roll-Hda (record {
  path = Some buffer_path;
  keys = Some dump_keys;
  items = dumped_groups 1 groups;
})) ∷ []
