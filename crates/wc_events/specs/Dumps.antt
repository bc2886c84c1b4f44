-- The items of dumps, by the handles of the buffers.
use Rattle.std.specs.Prelude.{List, [], Option, Some, None}
use Rattle.std.specs.List.{flat_map}
use Rattle.wc_text.specs.declared.names.Handle.{Handle}
use Rattle.wc_buffers.specs.declared.row.BufferEntry.{BufferEntry}
use Rattle.wc_buffers.specs.Calls.{EntryGroups, entry_of}
use Rattle.wc_objects.specs.declared.kind.Kind.{Kind}
use Rattle.wc_keys.specs.declared.key.KeyList.TheVariants as l
use Rattle.wc_keys.specs.Keys.{kinds_in}
use Rattle.wc_objects.specs.declared.object.HdaItem.{HdaItem}

-- what is told of a buffer that is there
abbrev pub if_there : (BufferEntry → List HdaItem) → Option BufferEntry → List HdaItem
if_there told None = []
if_there told (Some e) = told e

-- what is told of the buffers of these handles, in order
abbrev pub each_told : EntryGroups → (BufferEntry → List HdaItem) → List Handle → List HdaItem
each_told groups told handles = flat_map (λ h. if_there told (entry_of h groups)) handles

-- the types of the keys of a line
abbrev pub line_kinds : List Kind
line_kinds = kinds_in l.LineData
