-- The lists of lines that were made for a walk.
use Rattle.std.specs.Prelude.{◌≡◌, ℕ, Bool, true, false, ◌||◌, List, ◌++◌, map, Option, Some, None}
use Rattle.std.specs.List.{list_any, AllByRecursion}
use Rattle.std.specs.List.Sorted.{IsNonDecreasingBy}
use Rattle.wc_text.specs.declared.names.Handle.{Handle}
use Rattle.wc_lines.specs.declared.line.Line.{Line}
use Rattle.wc_model.specs.World.{World}
use Rattle.wc_hdata.specs.declared.element.Element.{Element}
use Rattle.wc_hdata.specs.declared.element.Element.TheVariants as element
use Rattle.wc_hdata.specs.declared.path.Path.{Path}
use Rattle.wc_hdata.specs.declared.path.Step.{Step}
use Rattle.wc_hdata.specs.declared.variable.Variable.{Variable}
use Rattle.wc_hdata.specs.declared.variable.Variable.TheVariants as by
use Rattle.wc_hdata.specs.declared.lists.Lists.TheInside.{Inside}
use Rattle.wc_hdata.specs.declared.lists.MixedList.{MixedList}
use Rattle.wc_hdata.specs.declared.place.LineList.TheVariants.{Mixed}
use Rattle.wc_hdata.specs.Kept.{Listed, IsHeld, IsMade}
use Rattle.wc_hdata.specs.Lists.{lines_in}
use Rattle.wc_hdata.specs.Paths.{element_of}
use Rattle.wc_hdata.specs.Reached.{held_lines}
use Rattle.wc_hdata.specs.Shown.{IsShown}
use Rattle.wc_hdata.specs.Steps.{all_buffers}

abbrev pub first_of : MixedList → Handle
first_of list = list.first

abbrev pub firsts_of : List MixedList → List Handle
firsts_of lists = map first_of lists

abbrev pub first_handle : MixedList → ℕ
first_handle list = list.first.0

abbrev pub listed_of : Inside → Listed
listed_of lists = record { world = lists.world.now; firsts = firsts_of lists.mixed.items }

-- a mixed list has the lines of the group of its first buffer
pub record IsMixedList (world : World) (list : MixedList) : Type 0 where
  pub lines : held_lines list.lines.items ≡ lines_in world (Mixed list.first)
  pub held : AllByRecursion (IsHeld world) (held_lines list.lines.items)

pub record AreLists (lists : Inside) : Type 0 where
  pub buffers : lists.buffers.items ≡ all_buffers lists.world.now.groups
  pub mixed : AllByRecursion (IsMixedList lists.world.now) lists.mixed.items
  pub sorted : IsNonDecreasingBy first_handle lists.mixed.items
  pub shown : AllByRecursion (IsShown lists.world.now.groups) lists.shown.items

-- after a group its mixed list is made where it has two buffers or more, and stays so
pub record AddsMade (old new : List Handle) (group : List Handle) : Type 0 where
  pub others : List Handle
  pub more : new ≡ old ++ others
  pub made : IsMade new group

-- whether a path goes to lines that are shown, or begins at a list
abbrev pub is_list : Element → Bool
is_list element.Lines = true
is_list element.Buffer = false
is_list element.Line = false
is_list element.LineData = false

abbrev pub is_shown : Variable → Bool
is_shown by.Lines = true
is_shown by.OwnLines = false
is_shown by.FirstLine = false
is_shown by.LastLine = false
is_shown by.Data = false
is_shown by.Buffer = false

abbrev pub goes_to_lines : Path → Bool
goes_to_lines path = is_list (element_of path.start)
    || list_any (λ (step : Step). is_shown step.variable) path.steps

-- the number of a line, or 0
abbrev pub number_of : Option Line → ℕ
number_of None = 0
number_of (Some line) = line.handle.0
