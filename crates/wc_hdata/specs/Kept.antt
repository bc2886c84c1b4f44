-- What is known of the places that a walk goes through.
use Rattle.std.specs.Prelude.{◌≡◌, ℕ, ◌==◌, Bool, true, List, [], ◌∷◌}
use Rattle.std.specs.List.{list_any, AllByRecursion}
use Rattle.wc_text.specs.declared.names.Handle.{Handle}
use Rattle.wc_lines.specs.LineText.{HasUtf8Texts}
use Rattle.wc_buffers.specs.Calls.{EntryGroups, is_there}
use Rattle.wc_buffers.specs.Kept.{handles}
use Rattle.wc_model.specs.World.{World}
use Rattle.wc_hdata.specs.declared.element.Element.TheVariants as element
use Rattle.wc_hdata.specs.declared.path.Path.{Path}
use Rattle.wc_hdata.specs.declared.path.Step.{Step}
use Rattle.wc_hdata.specs.declared.variable.Variable.TheVariants as by
use Rattle.wc_hdata.specs.declared.place.LineList.{LineList}
use Rattle.wc_hdata.specs.declared.place.LineList.TheVariants.{Own, Mixed}
use Rattle.wc_hdata.specs.Paths.{element_of}
use Rattle.wc_hdata.specs.Reached.{HeldLine, Place, Buffer, Lines, Line_at, Data_at}

-- the lists of lines of a world, with the first buffers of the groups whose mixed lists are made
pub record Listed : Type 0 where
  pub world : World
  pub firsts : List Handle

-- whether the mixed list is made of the group whose first buffer this is
abbrev pub is_made : List Handle → ℕ → Bool
is_made firsts buffer = list_any (λ (h : Handle). h.0 == buffer) firsts

-- a line whose buffer is there
pub record IsHeld (world : World) (held : HeldLine) : Type 0 where
  pub text : HasUtf8Texts held.line
  pub there : is_there held.buffer world.groups ≡ true

abbrev pub IsKeptList : Listed → LineList → Type 0
IsKeptList listed (Own buffer) = is_there buffer listed.world.groups ≡ true
IsKeptList listed (Mixed buffer) = is_made listed.firsts buffer.0 ≡ true

-- a buffer is there, and so is that of a line; a mixed list is made
abbrev pub IsKept : Listed → Place → Type 0
IsKept listed (Buffer buffer) = is_there buffer listed.world.groups ≡ true
IsKept listed (Lines list) = IsKeptList listed list
IsKept listed (Line_at held) = IsHeld listed.world held
IsKept listed (Data_at held) = IsHeld listed.world held

abbrev pub AreKept : Listed → List Place → Type 0
AreKept listed places = AllByRecursion (IsKept listed) places

abbrev pub IsThere : EntryGroups → Handle → Type 0
IsThere groups buffer = is_there buffer groups ≡ true

-- the mixed list of each group of two or more is made
abbrev pub IsMade : List Handle → List Handle → Type 0
IsMade firsts [] = Unit {0}
IsMade firsts (first ∷ []) = Unit {0}
IsMade firsts (first ∷ (second ∷ others)) = is_made firsts first.0 ≡ true

abbrev pub AllMade : Listed → Type 0
AllMade listed = AllByRecursion (IsMade listed.firsts) (handles listed.world.groups)

-- so it is where a step goes to the lines that are shown, and where a path begins at a list
abbrev pub IsReady : Listed → Step → Type 0
IsReady listed step = step.variable ≡ by.Lines → AllMade listed

abbrev pub IsFor : Listed → Path → Type 0
IsFor listed path = (element_of path.start ≡ element.Lines → AllMade listed)
    × AllByRecursion (IsReady listed) path.steps
