-- The values of what a path reaches, by their keys.
use Rattle.std.specs.Prelude.{ℕ, Option, Some, None, List, [], ◌∷◌, map, length, unwrap_or}
use Rattle.std.specs.List.{filter_map}
use Rattle.wc_text.specs.declared.names.Handle.{Handle}
use Rattle.wc_lines.specs.declared.line.Line.{Line}
use Rattle.wc_buffers.specs.declared.row.BufferEntry.{BufferEntry}
use Rattle.wc_buffers.specs.Calls.{EntryGroups, entry_of, number}
use Rattle.wc_model.specs.Order.{prev_of, next_of}
use Rattle.wc_model.specs.World.{World}
use Rattle.wc_objects.specs.declared.object.Object.{Object}
use Rattle.wc_objects.specs.declared.object.Object.TheVariants as o
use Rattle.wc_objects.specs.declared.object.HdaItem.{HdaItem, roll-HdaItem}
use Rattle.wc_events.specs.BufferObjects.{count, entry_value}
use Rattle.wc_events.specs.LineObjects.{line_value}
use Rattle.wc_keys.specs.declared.key.Key.{Key}
use Rattle.wc_keys.specs.declared.key.Key.TheVariants as k
use Rattle.wc_hdata.specs.Lists.{lines_in}
use Rattle.wc_hdata.specs.Reached.{HeldLine, Place, Buffer, Lines, Line_at, Data_at}
use Rattle.wc_hdata.specs.Walk.{Node}

-- of a buffer
abbrev pub of_entry : EntryGroups → Handle → Key → BufferEntry → Option Object
of_entry groups buffer k.Number e = Some (o.Int (count (unwrap_or (number buffer groups) 0)))
of_entry groups buffer k.PrevBuffer e = Some (o.Ptr (prev_of buffer.0 groups))
of_entry groups buffer k.NextBuffer e = Some (o.Ptr (next_of buffer.0 groups))
of_entry groups buffer key e = entry_value e key

abbrev pub of_buffer : EntryGroups → Handle → Key → Option BufferEntry → Option Object
of_buffer groups buffer key None = None
of_buffer groups buffer key (Some e) = of_entry groups buffer key e

-- of a list of lines: the pointers of its first and its last line, where it has lines, and how many
-- it has
abbrev pub line_number : Option HeldLine → ℕ
line_number None = 0
line_number (Some held) = held.line.handle.0

abbrev pub first_of : List HeldLine → Option HeldLine
first_of [] = None
first_of (held ∷ lines) = Some held

abbrev pub last_of : List HeldLine → Option HeldLine
last_of [] = None
last_of (held ∷ []) = Some held
last_of (held ∷ (next ∷ lines)) = last_of (next ∷ lines)

abbrev pub of_lines : Key → List HeldLine → Option Object
of_lines k.FirstLine lines = Some (o.Ptr (line_number (first_of lines)))
of_lines k.LastLine lines = Some (o.Ptr (line_number (last_of lines)))
of_lines k.LinesCount lines = Some (o.Int (count (length lines)))
of_lines _ lines = None

-- of a line, and of what it says
abbrev pub of_line : Key → Line → Option Object
of_line k.Data line = Some (o.Ptr line.content.0)
of_line _ line = None

abbrev pub of_data : Key → HeldLine → Option Object
of_data key held = line_value held.buffer held.line key

-- of a place
unfoldable pub value_of : World → Place → Key → Option Object
value_of world (Buffer buffer) key = of_buffer world.groups buffer key
    (entry_of buffer world.groups)
value_of world (Lines list) key = of_lines key (lines_in world list)
value_of world (Line_at held) key = of_line key held.line
value_of world (Data_at held) key = of_data key held

-- the values that the keys name, in their order
abbrev pub values_of : World → List Key → Place → List Object
values_of world keys place = filter_map (value_of world place) keys

abbrev pub item_of : World → List Key → Node → HdaItem
item_of world keys node = roll-HdaItem
    (record { pointers = node.pointers; values = values_of world keys node.place })

abbrev pub items_of : World → List Key → List Node → List HdaItem
items_of world keys nodes = map (item_of world keys) nodes
