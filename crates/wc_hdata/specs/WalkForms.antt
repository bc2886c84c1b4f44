-- What is known of all that a path reaches.
use Rattle.std.specs.Prelude.{List}
use Rattle.std.specs.List.{AllByRecursion}
use Rattle.wc_hdata.specs.declared.element.Element.{Element}
use Rattle.wc_hdata.specs.declared.element.Element.TheVariants as Elements
use Rattle.wc_hdata.specs.Kept.{Listed, IsKept}
use Rattle.wc_hdata.specs.Reached.{Place, Buffer, Lines, Line_at, Data_at}
use Rattle.wc_hdata.specs.Walk.{Node}

-- of which element a place is
abbrev pub element_of_place : Place → Element
element_of_place (Buffer buffer) = Elements.Buffer
element_of_place (Lines list) = Elements.Lines
element_of_place (Line_at held) = Elements.Line
element_of_place (Data_at held) = Elements.LineData

-- the places of all of these are kept
abbrev pub AreNodesKept : Listed → List Node → Type 0
AreNodesKept listed nodes = AllByRecursion (λ (node : Node). IsKept listed node.place) nodes
