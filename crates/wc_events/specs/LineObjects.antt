-- What a client is told of lines: the event of a new line, and the dump of the lines that are held.
use Rattle.std.specs.Prelude.{ℕ, ◌^◌, ◌-◌, ℤ, pos, Bool, nat_le, List, [], ◌∷◌, map, Option, Some, None}
use Rattle.std.specs.Prelude.{if◌then◌else◌}
use Rattle.wc_text.specs.declared.names.Handle.{Handle}
use Rattle.std.specs.List.{filter_map, flat_map}
use Rattle.wc_lines.specs.declared.line.Line.{Line}
use Rattle.wc_buffers.specs.declared.row.BufferEntry.{BufferEntry}
use Rattle.wc_buffers.specs.Groups.{rows}
use Rattle.wc_model.specs.World.{World, lines_at}
use Rattle.wc_objects.specs.declared.kind.Kind.TheVariants as k
use Rattle.wc_objects.specs.declared.object.Object.{Object}
use Rattle.wc_objects.specs.declared.object.Object.TheVariants as o
use Rattle.wc_objects.specs.declared.object.Hda.{Hda, roll-Hda}
use Rattle.wc_objects.specs.declared.object.HdaItem.{HdaItem, roll-HdaItem}
use Rattle.wc_objects.specs.declared.object.WireMessage.{WireMessage}
use Rattle.wc_model.specs.declared.notice.EventKind.TheVariants as kind
use Rattle.wc_keys.specs.declared.key.KeyList.TheVariants as l
use Rattle.wc_keys.specs.declared.key.Key.{Key}
use Rattle.wc_keys.specs.declared.key.Key.TheVariants as key
use Rattle.wc_keys.specs.Keys.{keys_in, list_text}
use Rattle.wc_keys.specs.Events.{line_path, lines_path, id_of}

-- truth is 1 and 0
abbrev pub truth : Bool → ℤ
truth b = if b then pos 1 else pos 0

-- a number, which counts as the greatest that a message may hold where it is greater
abbrev pub count : ℕ → ℤ
count number = pos (if nat_le number (2 ^ 31 - 1) then number else 2 ^ 31 - 1)

-- a date, which counts as the greatest that a message may hold where it is greater
abbrev pub moment : ℕ → ℤ
moment date = pos (if nat_le date (2 ^ 63 - 1) then date else 2 ^ 63 - 1)

abbrev pub texts : List (List ℕ) → List Object
texts tags = map (λ text. o.Str (Some text)) tags

-- the keys of a line, in the event and in the dump
abbrev pub line_keys : List ℕ
line_keys = list_text l.LineData

-- the value of a line of a buffer under each key
abbrev pub line_value : Handle → Line → Key → Option Object
line_value buffer line key.Buffer = Some (o.Ptr buffer.0)
line_value buffer line key.Id = Some (o.Int (count line.id))
line_value buffer line key.Date = Some (o.Tim (moment line.date))
line_value buffer line key.DateUsec = Some (o.Int (count line.usec))
line_value buffer line key.DatePrinted = Some (o.Tim (moment line.date_printed))
line_value buffer line key.DateUsecPrinted = Some (o.Int (count line.usec_printed))
line_value buffer line key.Displayed = Some (o.Chr (truth line.displayed))
line_value buffer line key.NotifyLevel = Some (o.Chr line.notify)
line_value buffer line key.Highlight = Some (o.Chr (truth line.highlight))
line_value buffer line key.TagsArray = Some (o.Arr k.Str (texts line.tags))
line_value buffer line key.Prefix = Some (o.Str (Some line.prefix))
line_value buffer line key.Message = Some (o.Str (Some line.message))
line_value buffer line _ = None

-- the values of a line, in the order of the keys
unfoldable pub line_values : Handle → Line → List Object
line_values buffer line = filter_map (line_value buffer line) (keys_in l.LineData)

-- items on a path, with the keys of a line
abbrev pub on_path : List ℕ → List HdaItem → Hda
on_path path items = roll-Hda (record { path = Some path; keys = Some line_keys; items = items })

-- a new line, named by its content
unfoldable pub added_item : Handle → Line → HdaItem
added_item buffer line = roll-HdaItem
    (record { pointers = line.content.0 ∷ []; values = line_values buffer line })

abbrev pub added_objects : Handle → Line → List Object
added_objects buffer line = o.Hda (on_path line_path (added_item buffer line ∷ [])) ∷ []

-- the event of a new line of a buffer
abbrev pub line_added : Handle → Line → WireMessage
line_added buffer line = record {
  id = id_of kind.LineAdded;
  objects = added_objects buffer line;
}

-- a line in the dump, by its buffer, the buffer's own lines, itself and its content
unfoldable pub dumped_item : Handle → Handle → Line → HdaItem
dumped_item buffer own line =
    roll-HdaItem (record {
      pointers = buffer.0 ∷ own.0 ∷ line.handle.0 ∷ line.content.0 ∷ [];
      values = line_values buffer line;
    })

-- the dump of lines, of whichever buffers these items are
abbrev pub dump_of : List HdaItem → List Object
dump_of items = o.Hda (on_path lines_path items) ∷ []

-- the lines of one buffer, from the oldest
abbrev pub dumped_lines : World → BufferEntry → List HdaItem
dumped_lines world e = map (dumped_item e.row.handle e.row.own_lines)
    (lines_at world e.row.handle.0)

-- the dump of the lines of all buffers, in their order
abbrev pub line_dump : World → List Object
line_dump world = dump_of (flat_map (dumped_lines world) (rows world.groups))
