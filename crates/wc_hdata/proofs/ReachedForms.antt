-- What a path reaches is of the element at its end, with a pointer for each element on the way.
use Rattle.std.proofs.Common.{◌≡◌, ℕ, suc, ◌+◌, ◌-◌, Bool, true, false, cond, subst, List, [], ◌∷◌, ◌++◌, length, map, Option, Some, None, refl, ◌∙◌, arith, length-append, option_map}
use Rattle.std.specs.List.{AllByRecursion}
use Rattle.wc_buffers.specs.Calls.{EntryGroups, is_there}
use Rattle.wc_text.specs.declared.names.Handle.{Handle}
use Rattle.wc_model.specs.World.{World}
use Rattle.wc_hdata.specs.declared.element.Element.{Element}
use Rattle.wc_hdata.specs.declared.element.Element.TheVariants as Elements
use Rattle.wc_hdata.specs.declared.count.Count.{Count}
use Rattle.wc_hdata.specs.declared.path.Path.{Path}
use Rattle.wc_hdata.specs.declared.path.Start.{Start}
use Rattle.wc_hdata.specs.declared.path.Start.TheVariants as begin
use Rattle.wc_hdata.specs.declared.path.Step.{Step}
use Rattle.wc_hdata.specs.declared.place.LineList.{LineList}
use Rattle.wc_hdata.specs.declared.variable.Variable.{Variable}
use Rattle.wc_hdata.specs.declared.variable.Variable.TheVariants as by
use Rattle.wc_hdata.specs.Along.{along}
use Rattle.wc_hdata.specs.Lists.{lines_in}
use Rattle.wc_hdata.specs.Paths.{target, element_of, element_at, last_of}
use Rattle.wc_hdata.specs.Reached.{Place, HeldLine, Buffer, Lines, Line_at, Data_at}
use Rattle.wc_hdata.specs.Refusals.{reached, reached_from}
use Rattle.wc_hdata.specs.Starts.{starts, at_pointer, list_at, line_at, lines_from}
use Rattle.wc_hdata.specs.Steps.{reach, from_buffer, from_lines, from_line, from_data, buffers_from}
use Rattle.wc_hdata.specs.Walk.{Node, nodes_at, onward, onward_all, nodes_reached}
use Rattle.wc_hdata.specs.WalkForms.{element_of_place}

abbrev pub IsOf : Element → Place → Type 0
IsOf element place = element_of_place place ≡ element

abbrev pub AreOf : Element → List Place → Type 0
AreOf element places = AllByRecursion (IsOf element) places

-- ---- the places of one kind
buffers_of : (buffers : List Handle) → AreOf Elements.Buffer (map Buffer buffers)
buffers_of [] = tt
buffers_of (buffer ∷ buffers) = (refl, buffers_of buffers)

lines_of : (lines : List HeldLine) → AreOf Elements.Line (map Line_at lines)
lines_of [] = tt
lines_of (held ∷ lines) = (refl, lines_of lines)

-- ---- a step leads to places of its element
buffer_leads : (world : World) (variable : Variable) (buffer : Handle) → AreOf (target variable) (from_buffer world variable buffer)
buffer_leads world by.OwnLines buffer = (refl, tt)
buffer_leads world by.Lines buffer = (refl, tt)
buffer_leads world by.FirstLine buffer = tt
buffer_leads world by.LastLine buffer = tt
buffer_leads world by.Data buffer = tt
buffer_leads world by.Buffer buffer = tt

lines_lead : (world : World) (variable : Variable) (count : Count) (list : LineList) → AreOf (target variable) (from_lines world variable count list)
lines_lead world by.FirstLine count list = lines_of (along count 0 (lines_in world list))
lines_lead world by.LastLine count list = lines_of (along count (length (lines_in world list) - 1) (lines_in world list))
lines_lead world by.OwnLines count list = tt
lines_lead world by.Lines count list = tt
lines_lead world by.Data count list = tt
lines_lead world by.Buffer count list = tt

line_leads : (variable : Variable) (held : HeldLine) → AreOf (target variable) (from_line variable held)
line_leads by.Data held = (refl, tt)
line_leads by.OwnLines held = tt
line_leads by.Lines held = tt
line_leads by.FirstLine held = tt
line_leads by.LastLine held = tt
line_leads by.Buffer held = tt

data_leads : (world : World) (variable : Variable) (count : Count) (held : HeldLine) → AreOf (target variable) (from_data world variable count held)
data_leads world by.Buffer count held = buffers_of _
data_leads world by.OwnLines count held = tt
data_leads world by.Lines count held = tt
data_leads world by.FirstLine count held = tt
data_leads world by.LastLine count held = tt
data_leads world by.Data count held = tt

pub step_leads : (world : World) (step : Step) (place : Place) → AreOf (target step.variable) (reach world step place)
unfolding reach
step_leads world step (Buffer buffer) = buffer_leads world step.variable buffer
step_leads world step (Lines list) = lines_lead world step.variable step.count list
step_leads world step (Line_at held) = line_leads step.variable held
step_leads world step (Data_at held) = data_leads world step.variable step.count held

-- ---- where a path begins
abbrev pub StartsOf : Element → Option (List Place) → Type 0
StartsOf element None = Unit {0}
StartsOf element (Some places) = AreOf element places

pointer_starts : (world : World) (count : Count) (element : Element) (pointer : ℕ) → StartsOf element (at_pointer world count element pointer)
pointer_starts world count Elements.Buffer pointer = by_test (is_there (record { 0 = pointer }) world.groups)
  where
    by_test : (there : Bool) → StartsOf Elements.Buffer (cond there (Some (buffers_from world.groups count (record { 0 = pointer }))) None)
    by_test true = buffers_of _
    by_test false = tt
pointer_starts world count Elements.Lines pointer = by_list (list_at world.groups pointer)
  where
    by_list : (found : Option LineList) → StartsOf Elements.Lines (option_map (λ list. Lines list ∷ []) found)
    by_list None = tt
    by_list (Some list) = (refl, tt)
pointer_starts world count Elements.Line pointer = by_line (line_at world Elements.Line pointer)
  where
    by_line : (found : Option HeldLine) → StartsOf Elements.Line (option_map (lines_from world count) found)
    by_line None = tt
    by_line (Some held) = lines_of _
pointer_starts world count Elements.LineData pointer = by_line (line_at world Elements.LineData pointer)
  where
    by_line : (found : Option HeldLine) → StartsOf Elements.LineData (option_map (λ held. Data_at held ∷ []) found)
    by_line None = tt
    by_line (Some held) = (refl, tt)

begins : (world : World) (count : Count) (start : Start) → StartsOf (element_of start) (starts world count start)
unfolding starts
begins world count begin.FirstBuffer = buffers_of _
begins world count begin.LastBuffer = buffers_of _
begins world count (begin.Pointer element pointer) = pointer_starts world count element pointer

-- ---- all that is reached
abbrev pub IsNodeOf : Element → ℕ → Node → Type 0
IsNodeOf element depth node = IsOf element node.place × (length node.pointers ≡ depth)

abbrev pub AreNodesOf : Element → ℕ → List Node → Type 0
AreNodesOf element depth nodes = AllByRecursion (IsNodeOf element depth) nodes

placed_nodes : (groups : EntryGroups) (pointers : List ℕ) (element : Element) (places : List Place) → AreOf element places → AreNodesOf element (suc (length pointers)) (nodes_at groups pointers places)
placed_nodes groups pointers element [] are = tt
placed_nodes groups pointers element (place ∷ places) are = (
  (are.0, length-append pointers _ ∙ omega arith),
  placed_nodes groups pointers element places are.1,
)

joined_nodes : (element : Element) (depth : ℕ) (front back : List Node) → AreNodesOf element depth front → AreNodesOf element depth back → AreNodesOf element depth (front ++ back)
joined_nodes element depth [] back a b = b
joined_nodes element depth (node ∷ front) back a b = (a.0, joined_nodes element depth front back a.1 b)

one_onward : (world : World) (step : Step) (depth : ℕ) (node : Node) → length node.pointers ≡ depth → AreNodesOf (target step.variable) (suc depth) (onward world step node)
one_onward world step depth node long =
    subst (λ (n : ℕ). AreNodesOf (target step.variable) (suc n) (onward world step node)) long
    (placed_nodes world.groups node.pointers (target step.variable) (reach world step node.place) (step_leads world step node.place))

all_onward : (world : World) (step : Step) (element : Element) (depth : ℕ) (nodes : List Node) → AreNodesOf element depth nodes → AreNodesOf (target step.variable) (suc depth) (onward_all world step nodes)
all_onward world step element depth [] are = tt
all_onward world step element depth (node ∷ nodes) are =
    joined_nodes (target step.variable) (suc depth) (onward world step node) (onward_all world step nodes)
    (one_onward world step depth node are.0.1) (all_onward world step element depth nodes are.1)

nodes_of_end : (world : World) (steps : List Step) (element : Element) (depth : ℕ) (nodes : List Node) → AreNodesOf element depth nodes
    → AreNodesOf (last_of element steps) (depth + length steps) (nodes_reached world steps nodes)
nodes_of_end world [] element depth nodes are = subst (λ (n : ℕ). AreNodesOf element n nodes) (omega arith) are
nodes_of_end world (step ∷ steps) element depth nodes are =
    subst (λ (n : ℕ). AreNodesOf (last_of (target step.variable) steps) n (nodes_reached world steps (onward_all world step nodes))) (omega arith)
    (nodes_of_end world steps (target step.variable) (suc depth) (onward_all world step nodes) (all_onward world step element depth nodes are))

reached_by : (world : World) (path : Path) (places : Option (List Place)) → StartsOf (element_of path.start) places → AreNodesOf (element_at path) (suc (length path.steps)) (reached_from world path places)
reached_by world path None are = tt
reached_by world path (Some places) are =
    subst (λ (n : ℕ). AreNodesOf (element_at path) n (nodes_reached world path.steps (nodes_at world.groups [] places))) (omega arith)
    (nodes_of_end world path.steps (element_of path.start) 1 (nodes_at world.groups [] places) (placed_nodes world.groups [] (element_of path.start) places are))

pub reached_are : (world : World) (path : Path) → AreNodesOf (element_at path) (suc (length path.steps)) (reached world path)
unfolding reached
reached_are world path = reached_by world path (starts world path.count path.start) (begins world path.count path.start)
