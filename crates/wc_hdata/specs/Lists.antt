-- The lists of lines of a world.
use Rattle.std.specs.Prelude.{ℕ, ◌==◌, nat_le, Bool, List, [], ◌∷◌, map, if◌then◌else◌}
use Rattle.std.specs.List.{flat_map, list_any}
use Rattle.wc_text.specs.declared.names.Handle.{Handle}
use Rattle.wc_lines.specs.declared.line.Line.{Line}
use Rattle.wc_buffers.specs.Calls.{EntryGroups}
use Rattle.wc_buffers.specs.Kept.{handles}
use Rattle.wc_model.specs.World.{World, lines_at}
use Rattle.wc_hdata.specs.Reached.{HeldLine}
use Rattle.wc_hdata.specs.declared.place.LineList.{LineList}
use Rattle.wc_hdata.specs.declared.place.LineList.TheVariants.{Own, Mixed}

abbrev pub held_by : Handle → Line → HeldLine
held_by buffer line = record { buffer = buffer; line = line }

-- the lines of a buffer, from the oldest
abbrev pub own_lines : World → Handle → List HeldLine
own_lines world buffer = map (held_by buffer) (lines_at world buffer.0)

-- the lines of several buffers, one buffer after the other
abbrev pub lines_of_all : World → List Handle → List HeldLine
lines_of_all world buffers = flat_map (own_lines world) buffers

-- in the order of the lines' handles; of those that share one the first stays in front
abbrev pub put_line : HeldLine → List HeldLine → List HeldLine
put_line held [] = held ∷ []
put_line held (other ∷ lines) = if nat_le held.line.handle.0 other.line.handle.0
    then held ∷ (other ∷ lines) else other ∷ put_line held lines

abbrev pub by_handle : List HeldLine → List HeldLine
by_handle [] = []
by_handle (held ∷ lines) = put_line held (by_handle lines)

-- the group that has a buffer; none where no group has it
abbrev pub is_in : ℕ → List Handle → Bool
is_in buffer group = list_any (λ (h : Handle). h.0 == buffer) group

abbrev pub group_with : ℕ → List (List Handle) → List Handle
group_with buffer [] = []
group_with buffer (group ∷ groups) = if is_in buffer group then group else group_with buffer groups

abbrev pub group_of : EntryGroups → ℕ → List Handle
group_of groups buffer = group_with buffer (handles groups)

-- the lines of a list, in its order
abbrev pub lines_in : World → LineList → List HeldLine
lines_in world (Own buffer) = own_lines world buffer
lines_in world (Mixed buffer) = by_handle (lines_of_all world (group_of world.groups buffer.0))

-- the list of lines that a buffer shows: its own where it is alone in its group, and else the mixed
-- one of the group
abbrev pub list_of_group : Handle → List Handle → LineList
list_of_group buffer [] = Own buffer
list_of_group buffer (first ∷ []) = Own buffer
list_of_group buffer (first ∷ (second ∷ others)) = Mixed first

abbrev pub shown_list : EntryGroups → Handle → LineList
shown_list groups buffer = list_of_group buffer (group_of groups buffer.0)
