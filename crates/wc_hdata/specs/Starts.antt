-- Where a path begins.
use Rattle.std.specs.Prelude.{ℕ, suc, ◌-◌, ◌==◌, Bool, false, Option, Some, None, List, [], ◌∷◌}
use Rattle.std.specs.Prelude.{map, length, find, option_map, if◌then◌else◌}
use Rattle.wc_text.specs.declared.names.Handle.{Handle}
use Rattle.wc_lines.specs.declared.line.Line.{Line}
use Rattle.wc_buffers.specs.Calls.{EntryGroups, buffer_of, is_there}
use Rattle.wc_buffers.specs.Kept.{handles}
use Rattle.wc_buffers.specs.declared.row.BufferRow.{BufferRow}
use Rattle.wc_model.specs.World.{World}
use Rattle.wc_hdata.specs.declared.count.Count.{Count}
use Rattle.wc_hdata.specs.declared.element.Element.{Element}
use Rattle.wc_hdata.specs.declared.element.Element.TheVariants as element
use Rattle.wc_hdata.specs.declared.path.Start.{Start}
use Rattle.wc_hdata.specs.declared.path.Start.TheVariants as start
use Rattle.wc_hdata.specs.declared.place.LineList.{LineList}
use Rattle.wc_hdata.specs.declared.place.LineList.TheVariants.{Own, Mixed}
use Rattle.wc_hdata.specs.Along.{along}
use Rattle.wc_hdata.specs.Lists.{own_lines}
use Rattle.wc_hdata.specs.Reached.{Place, HeldLine, Buffer, Lines, Line_at, Data_at}
use Rattle.wc_hdata.specs.Steps.{all_buffers, buffers_from}

-- ---- lists of lines by their pointers

abbrev pub row_is : (BufferRow → Bool) → Option BufferRow → Bool
row_is test None = false
row_is test (Some row) = test row

-- the buffer whose own lines have this pointer
abbrev pub has_own : EntryGroups → ℕ → Handle → Bool
has_own groups pointer buffer = row_is (λ row. row.own_lines.0 == pointer) (buffer_of buffer groups)

abbrev pub own_at : EntryGroups → ℕ → Option Handle
own_at groups pointer = find (has_own groups pointer) (all_buffers groups)

-- the first buffer of a group of two or more, whose mixed lines have this pointer
abbrev pub mixed_of : EntryGroups → ℕ → List Handle → Option Handle
mixed_of groups pointer [] = None
mixed_of groups pointer (first ∷ []) = None
mixed_of groups pointer (first ∷ (second ∷ others)) =
    if row_is (λ row. row.mixed_lines.0 == pointer) (buffer_of first groups)
    then Some first else None

abbrev pub or_else : {A : Type 0} → Option A → Option A → Option A
or_else None b = b
or_else (Some a) b = Some a

abbrev pub mixed_among : EntryGroups → ℕ → List (List Handle) → Option Handle
mixed_among groups pointer [] = None
mixed_among groups pointer (group ∷ others) = or_else (mixed_of groups pointer group)
    (mixed_among groups pointer others)

abbrev pub list_at : EntryGroups → ℕ → Option LineList
list_at groups pointer = or_else (option_map Own (own_at groups pointer))
    (option_map Mixed (mixed_among groups pointer (handles groups)))

-- ---- lines by their pointers

-- whether a pointer names a line, or the data of one
abbrev pub is_named : Element → ℕ → Line → Bool
is_named element.Line pointer line = line.handle.0 == pointer
is_named element.LineData pointer line = line.content.0 == pointer
is_named element.Buffer pointer line = false
is_named element.Lines pointer line = false

-- the first line that a pointer names
abbrev pub named_in : Element → ℕ → List HeldLine → Option HeldLine
named_in element pointer lines = find (λ held. is_named element pointer held.line) lines

-- the first such line of the first buffer that has one
abbrev pub line_among : World → Element → ℕ → List Handle → Option HeldLine
line_among world element pointer [] = None
line_among world element pointer (buffer ∷ buffers) =
    or_else (named_in element pointer (own_lines world buffer))
    (line_among world element pointer buffers)

abbrev pub line_at : World → Element → ℕ → Option HeldLine
line_at world element pointer = line_among world element pointer (all_buffers world.groups)

-- how many lines are before the one of a pointer
abbrev pub place_of_line : ℕ → List HeldLine → ℕ
place_of_line pointer [] = 0
place_of_line pointer (held ∷ lines) = if held.line.handle.0 == pointer then 0
    else suc (place_of_line pointer lines)

-- the lines to which a count goes from one, along the buffer's own
abbrev pub lines_from : World → Count → HeldLine → List Place
lines_from world count held = map Line_at
    (along count (place_of_line held.line.handle.0 (own_lines world held.buffer))
    (own_lines world held.buffer))

-- ---- the beginning

abbrev pub at_buffer : EntryGroups → Count → ℕ → Option (List Place)
at_buffer groups count pointer = if is_there (record { 0 = pointer }) groups
    then Some (buffers_from groups count (record { 0 = pointer })) else None

abbrev pub at_list : EntryGroups → ℕ → Option (List Place)
at_list groups pointer = option_map (λ list. Lines list ∷ []) (list_at groups pointer)

abbrev pub at_line : World → Count → ℕ → Option (List Place)
at_line world count pointer = option_map (lines_from world count)
    (line_at world element.Line pointer)

abbrev pub at_data : World → ℕ → Option (List Place)
at_data world pointer = option_map (λ held. Data_at held ∷ [])
    (line_at world element.LineData pointer)

abbrev pub at_pointer : World → Count → Element → ℕ → Option (List Place)
at_pointer world count element.Buffer pointer = at_buffer world.groups count pointer
at_pointer world count element.Lines pointer = at_list world.groups pointer
at_pointer world count element.Line pointer = at_line world count pointer
at_pointer world count element.LineData pointer = at_data world pointer

-- where a path begins; none where its pointer is dead
unfoldable pub starts : World → Count → Start → Option (List Place)
starts world count start.FirstBuffer = Some (map Buffer (along count 0 (all_buffers world.groups)))
starts world count start.LastBuffer =
    Some (map Buffer (along count (length (all_buffers world.groups) - 1)
    (all_buffers world.groups)))
starts world count (start.Pointer element pointer) = at_pointer world count element pointer
