-- The path of a text, computed.
use Rattle.std.specs.Prelude.{ℕ, ◌+◌, ◌-◌, ◌^◌, ◌&&◌, nat_lt, nat_le, nat_eq, List, [], ◌∷◌}
use Rattle.std.specs.Prelude.{length, take, drop, Option, Some, None, option_map, option_and_then}
use Rattle.std.specs.Prelude.{codes, if◌then◌else◌, ℤ, pos, negsuc}
use Rattle.std.specs.List.{list_all, find, starts_with, ends_with}
use Rattle.std.specs.Char.{digit_value}
use Rattle.std.specs.Str.{bytes_eq}
use Rattle.std.specs.Str.Parse.{digits_value}
use Rattle.wc_text.specs.Integer.{integer_of}
use Rattle.wc_hdata.specs.declared.element.Element.{Element}
use Rattle.wc_hdata.specs.declared.element.Element.TheVariants as Elements
use Rattle.wc_hdata.specs.declared.variable.Variable.{Variable}
use Rattle.wc_hdata.specs.declared.variable.Variable.TheVariants as Variables
use Rattle.wc_hdata.specs.declared.count.Count.{Count}
use Rattle.wc_hdata.specs.declared.count.Count.TheVariants as Counts
use Rattle.wc_hdata.specs.declared.path.Start.{Start}
use Rattle.wc_hdata.specs.declared.path.Start.TheVariants as Starts
use Rattle.wc_hdata.specs.declared.path.Step.{Step}
use Rattle.wc_hdata.specs.declared.path.Path.{Path}
use Rattle.wc_text.specs.Splits.{before, text_after}
use Rattle.wc_hdata.specs.Pieces.{pieces_at}
use Rattle.wc_hdata.specs.Names.{element_name, variable_name}
use Rattle.wc_hdata.specs.Paths.{leads, element_of}

abbrev pub all_elements : List Element
all_elements = Elements.Buffer ∷ Elements.Lines ∷ Elements.Line ∷ Elements.LineData ∷ []

abbrev pub element_named : List ℕ → Option Element
element_named text = find (λ element. bytes_eq text (element_name element)) all_elements

abbrev pub all_variables : List Variable
all_variables = Variables.OwnLines ∷ Variables.Lines ∷ Variables.FirstLine ∷ Variables.LastLine ∷
    Variables.Data ∷ Variables.Buffer ∷ []

abbrev pub variable_named : List ℕ → Option Variable
variable_named text = find (λ variable. bytes_eq text (variable_name variable)) all_variables

-- the number of 1 to 16 hex digits
abbrev pub hex_of : List ℕ → Option ℕ
hex_of digits =
    if nat_le 1 (length digits) && nat_le (length digits) 16
    && list_all (λ c. nat_lt (digit_value c) 16) digits
    then Some (digits_value 16 digits) else None

-- the pointer that `0x` and digits write
unfoldable pub pointer_of : List ℕ → Option ℕ
pointer_of text = if starts_with nat_eq text (codes "0x") then hex_of (drop 2 text) else None

-- where a path begins
unfoldable pub place_of : Element → List ℕ → Option Start
place_of Elements.Buffer text =
    if bytes_eq text (codes "gui_buffers") then Some Starts.FirstBuffer else (
    if bytes_eq text (codes "last_gui_buffer") then Some Starts.LastBuffer
    else option_map (λ pointer. Starts.Pointer Elements.Buffer pointer) (pointer_of text))
place_of element text = option_map (λ pointer. Starts.Pointer element pointer) (pointer_of text)

-- the count of a number other than 0
abbrev pub count_of_number : ℤ → Option Count
count_of_number (pos n) = if nat_le 1 n && nat_lt n (2 ^ 31) then Some (Counts.Forward n) else None
count_of_number (negsuc n) = if nat_lt (n + 1) (2 ^ 31)
    then Some (Counts.Backward (n + 1)) else None

-- the count that is in parentheses
unfoldable pub count_inside : List ℕ → Option Count
count_inside text = if bytes_eq text (codes "*") then Some Counts.All
    else option_and_then count_of_number (integer_of text)

-- the text before a `)` at the end
abbrev pub inside : List ℕ → Option (List ℕ)
inside text = if ends_with nat_eq text (codes ")") then Some (take (length text - 1) text) else None

-- the count, by what comes after a `(`
abbrev pub count_of : Option (List ℕ) → Option Count
count_of None = Some Counts.One
count_of (Some text) = option_and_then count_inside (inside text)

abbrev pub start_of : List ℕ → Option Start
start_of text = option_and_then (λ element. option_and_then (place_of element) (text_after 58 text))
    (element_named (before 58 text))

-- what is before the steps
unfoldable pub head_of : List ℕ → Option (Start × Count)
head_of text =
    option_and_then (λ start. option_map (λ count. (start, count)) (count_of (text_after 40 text)))
    (start_of (before 40 text))

-- a step, without its slash
unfoldable pub step_of : List ℕ → Option Step
step_of text =
    option_and_then (λ variable. option_map (λ count. record { variable = variable; count = count })
    (count_of (text_after 40 text))) (variable_named (before 40 text))

-- the steps from an element on
abbrev pub steps_of : Element → List (List ℕ) → Option (List Step)
steps_of element [] = Some []
steps_of element (piece ∷ pieces) =
    option_and_then (λ (step : Step). option_and_then (λ next. option_map (λ steps. step ∷ steps)
    (steps_of next pieces)) (leads element step.variable)) (step_of piece)

abbrev pub steps_after : Element → Option (List ℕ) → Option (List Step)
steps_after element text = steps_of element (pieces_at 47 text)

-- a path with this front
abbrev pub path_after : Option (List ℕ) → Start × Count → Option Path
path_after text head = option_map (λ steps. record {
  start = head.0;
  count = head.1;
  steps = steps;
}) (steps_after (element_of head.0) text)

-- the path of a text, where it has one
unfoldable pub path_of : List ℕ → Option Path
path_of text = option_and_then (path_after (text_after 47 text)) (head_of (before 47 text))
