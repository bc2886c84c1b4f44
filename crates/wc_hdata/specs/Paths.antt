-- The grammar of data paths.
use Rattle.std.specs.Prelude.{◌≡◌, ℕ, ◌<◌, ◌≤◌, ◌^◌, true, nat_lt, List, [], ◌∷◌}
use Rattle.std.specs.Prelude.{◌++◌, length, map, Option, Some, None, codes}
use Rattle.std.specs.List.{list_all, join_with_byte}
use Rattle.std.specs.Char.{digit_value}
use Rattle.std.specs.Str.Parse.{digits_value}
use Rattle.wc_text.specs.Integer.{is_numeral}
use Rattle.wc_hdata.specs.declared.element.Element.{Element}
use Rattle.wc_hdata.specs.declared.element.Element.TheVariants as Elements
use Rattle.wc_hdata.specs.declared.variable.Variable.{Variable}
use Rattle.wc_hdata.specs.declared.variable.Variable.TheVariants as Variables
use Rattle.wc_hdata.specs.declared.count.Count.{Count}
use Rattle.wc_hdata.specs.declared.count.Count.TheVariants as Counts
use Rattle.wc_hdata.specs.declared.path.Start.{Start}
use Rattle.wc_hdata.specs.declared.path.Start.TheVariants as Starts
use Rattle.wc_hdata.specs.declared.path.Step.{Step}
use Rattle.wc_hdata.specs.declared.path.Path.{Path}
use Rattle.wc_hdata.specs.Names.{element_name, variable_name}

-- the element to which a variable leads
abbrev pub target : Variable → Element
target Variables.OwnLines = Elements.Lines
target Variables.Lines = Elements.Lines
target Variables.FirstLine = Elements.Line
target Variables.LastLine = Elements.Line
target Variables.Data = Elements.LineData
target Variables.Buffer = Elements.Buffer

-- the same, from an element that has this variable
abbrev pub leads : Element → Variable → Option Element
leads Elements.Buffer Variables.OwnLines = Some Elements.Lines
leads Elements.Buffer Variables.Lines = Some Elements.Lines
leads Elements.Lines Variables.FirstLine = Some Elements.Line
leads Elements.Lines Variables.LastLine = Some Elements.Line
leads Elements.Line Variables.Data = Some Elements.LineData
leads Elements.LineData Variables.Buffer = Some Elements.Buffer
leads _ _ = None

-- the element at the start
abbrev pub element_of : Start → Element
element_of Starts.FirstBuffer = Elements.Buffer
element_of Starts.LastBuffer = Elements.Buffer
element_of (Starts.Pointer element pointer) = element

-- A pointer is `0x` and 1 to 16 hex digits of either case.
pub record IsPointer (text : List ℕ) (pointer : ℕ) : Type 0 where
  pub digits : List ℕ
  pub spelled : text ≡ codes "0x" ++ digits
  pub least : 1 ≤ length digits
  pub most : length digits ≤ 16
  pub hex : list_all (λ c. nat_lt (digit_value c) 16) digits ≡ true
  pub value : digits_value 16 digits ≡ pointer

-- how the place is written at which a path begins
abbrev pub IsStartPlace : List ℕ → Start → Type 0
IsStartPlace text Starts.FirstBuffer = text ≡ codes "gui_buffers"
IsStartPlace text Starts.LastBuffer = text ≡ codes "last_gui_buffer"
IsStartPlace text (Starts.Pointer element pointer) = IsPointer text pointer

-- The start is the name of its element, a colon and the place.
pub record SpellsStart (text : List ℕ) (start : Start) : Type 0 where
  pub place : List ℕ
  pub spelled : text ≡ element_name (element_of start) ++ 58 ∷ place
  pub placed : IsStartPlace place start

-- decimal digits that write a number from 1 to 2147483647
pub record SpellsCount (digits : List ℕ) (n : ℕ) : Type 0 where
  pub numeral : is_numeral digits ≡ true
  pub value : digits_value 10 digits ≡ n
  pub least : 1 ≤ n
  pub most : n < 2 ^ 31

-- A count is nothing, `(*)`, `(n)` or `(-n)`.
abbrev pub IsCount : List ℕ → Count → Type 0
IsCount text Counts.One = text ≡ []
IsCount text Counts.All = text ≡ codes "(*)"
IsCount text (Counts.Forward n) = (digits : List ℕ) × SpellsCount digits n
    × (text ≡ 40 ∷ (digits ++ 41 ∷ []))
IsCount text (Counts.Backward n) = (digits : List ℕ) × SpellsCount digits n
    × (text ≡ 40 ∷ 45 ∷ (digits ++ 41 ∷ []))

-- A step is a slash, the name of a variable of the element before it, and a count.
pub record SpellsStep (text : List ℕ) (element : Element) (step : Step) (next : Element) :
    Type 0 where
  pub count : List ℕ
  pub spelled : text ≡ 47 ∷ (variable_name step.variable ++ count)
  pub led : leads element step.variable ≡ Some next
  pub counted : IsCount count step.count

-- steps from an element on, one after the other
abbrev pub AreSteps : List ℕ → Element → List Step → Type 0
AreSteps text element [] = text ≡ []
AreSteps text element (step ∷ steps) = (first others : List ℕ) × (next : Element) ×
    SpellsStep first element step next × AreSteps others next steps × (text ≡ first ++ others)

-- A path is its start, a count and its steps.
pub record SpellsPath (text : List ℕ) (path : Path) : Type 0 where
  pub start : List ℕ
  pub count : List ℕ
  pub steps : List ℕ
  pub spelled : text ≡ start ++ (count ++ steps)
  pub begins : SpellsStart start path.start
  pub counted : IsCount count path.count
  pub goes : AreSteps steps (element_of path.start) path.steps

-- the elements of a path, from the start to its end
abbrev pub elements_of : Path → List Element
elements_of path = element_of path.start ∷ map (λ (step : Step). target step.variable) path.steps

-- the last of some elements, or this one where there are none
abbrev pub last_of : Element → List Step → Element
last_of element [] = element
last_of element (step ∷ steps) = last_of (target step.variable) steps

-- the element to which a path leads
abbrev pub element_at : Path → Element
element_at path = last_of (element_of path.start) path.steps

-- the names of the elements, which slashes join
abbrev pub h_path_of : Path → List ℕ
h_path_of path = join_with_byte 47 (map element_name (elements_of path))
