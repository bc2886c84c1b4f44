-- A path is gone through step by step, from all that was reached.
use Rattle.std.specs.Prelude.{ℕ, ◌+◌, List, [], ◌∷◌, ◌++◌, map, length, Option, Some, None}
use Rattle.std.specs.List.{flat_map}
use Rattle.wc_buffers.specs.Calls.{EntryGroups, buffer_of}
use Rattle.wc_buffers.specs.declared.row.BufferRow.{BufferRow}
use Rattle.wc_model.specs.World.{World}
use Rattle.wc_hdata.specs.declared.path.Step.{Step}
use Rattle.wc_hdata.specs.declared.place.LineList.{LineList}
use Rattle.wc_hdata.specs.declared.place.LineList.TheVariants.{Own, Mixed}
use Rattle.wc_hdata.specs.Reached.{Place, Buffer, Lines, Line_at, Data_at}
use Rattle.wc_hdata.specs.Steps.{reach}

-- ---- pointers

abbrev pub row_number : (BufferRow → ℕ) → Option BufferRow → ℕ
row_number number None = 0
row_number number (Some row) = number row

abbrev pub list_pointer : EntryGroups → LineList → ℕ
list_pointer groups (Own buffer) = row_number (λ row. row.own_lines.0) (buffer_of buffer groups)
list_pointer groups (Mixed buffer) = row_number (λ row. row.mixed_lines.0) (buffer_of buffer groups)

-- what names a place
abbrev pub pointer_of : EntryGroups → Place → ℕ
pointer_of groups (Buffer buffer) = buffer.0
pointer_of groups (Lines list) = list_pointer groups list
pointer_of groups (Line_at held) = held.line.handle.0
pointer_of groups (Data_at held) = held.line.content.0

-- ---- what was reached

-- the pointers of a place and of those that led to it, from the first
pub record Node : Type 0 where
  pub pointers : List ℕ
  pub place : Place

abbrev pub node_at : EntryGroups → List ℕ → Place → Node
node_at groups pointers place = record {
  pointers = pointers ++ pointer_of groups place ∷ [];
  place = place;
}

abbrev pub nodes_at : EntryGroups → List ℕ → List Place → List Node
nodes_at groups pointers places = map (node_at groups pointers) places

-- what a step gives from one, and from all
abbrev pub onward : World → Step → Node → List Node
onward world step node = nodes_at world.groups node.pointers (reach world step node.place)

abbrev pub onward_all : World → Step → List Node → List Node
onward_all world step nodes = flat_map (onward world step) nodes

-- what is reached at the end
abbrev pub nodes_reached : World → List Step → List Node → List Node
nodes_reached world [] nodes = nodes
nodes_reached world (step ∷ steps) nodes = nodes_reached world steps (onward_all world step nodes)

-- how many pointers are given on the way, by all elements together
abbrev pub visits : World → List Step → List Node → ℕ
visits world [] nodes = length nodes
visits world (step ∷ steps) nodes = length nodes + visits world steps (onward_all world step nodes)
