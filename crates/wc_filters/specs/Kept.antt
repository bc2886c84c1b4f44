-- The filters in the order of adding, and how they change.
use Rattle.std.specs.Prelude.{◌≡◌, ℕ, Bool, true, false, not, List, [], ◌∷◌, filter, length, map}
use Rattle.std.specs.Prelude.{All, IsTrue, Option, Some, None, option_map, find, Result, Ok, Err}
use Rattle.std.specs.Prelude.{if◌then◌else◌, nat_lt}
use Rattle.std.specs.List.{list_any}
use Rattle.std.specs.Str.{bytes_eq}
use Rattle.wc_eval.specs.Verdicts.{Oracle, VerdictsView}
use Rattle.wc_filters.specs.Patterns.{search_of, is_fine_by, is_known}
use Rattle.wc_filters.specs.declared.filter.Filter.{Filter}
use Rattle.wc_filters.specs.declared.switch.Switch.{Switch}
use Rattle.wc_filters.specs.declared.switch.Switch.TheVariants.{Enable, Disable, Toggle}
use Rattle.wc_filters.specs.declared.refused.FilterRefused.{FilterRefused}
use Rattle.wc_filters.specs.declared.refused.FilterRefused.TheVariants as refused

abbrev pub is_named : List ℕ → Filter → Bool
is_named name f = bytes_eq f.name name

abbrev pub has_name : List ℕ → List Filter → Bool
has_name name filters = list_any (λ f. is_named name f) filters

abbrev pub without : List ℕ → List Filter → List Filter
without name filters = filter (λ f. not (is_named name f)) filters

abbrev pub with_flag : List ℕ → Bool → Filter → Filter
with_flag name on f = if is_named name f then record f { enabled = on } else f

-- whether a name means a filter; without a name each is meant
abbrev pub is_meant : Option (List ℕ) → Filter → Bool
is_meant None f = true
is_meant (Some name) f = is_named name f

-- whether a name means some filter; without a name nothing is asked
abbrev pub is_there : Option (List ℕ) → List Filter → Bool
is_there None filters = true
is_there (Some name) filters = has_name name filters

abbrev pub switched : Switch → Bool → Bool
switched Enable enabled = true
switched Disable enabled = false
switched Toggle enabled = not enabled

-- a filter whose own flag is switched, if it is meant
abbrev pub with_switch : Option (List ℕ) → Switch → Filter → Filter
with_switch name switch f =
    if is_meant name f then record f { enabled = switched switch f.enabled } else f

-- whether the filter of this name is enabled, if there is one
abbrev pub flag_of : List ℕ → List Filter → Option Bool
flag_of name filters = option_map (λ f. f.enabled) (find (λ f. is_named name f) filters)

-- a filter as it is added
abbrev pub new_filter : List ℕ → List ℕ → List ℕ → List ℕ → Filter
new_filter name buffers tags pattern = record {
  name = name;
  buffers = buffers;
  tags = tags;
  pattern = pattern;
  enabled = true;
}

-- why a filter is not added, in this order, if it is not
abbrev pub refusal_of : Oracle → List Filter → List ℕ → List ℕ → Option FilterRefused
refusal_of oracle filters name pattern =
    if has_name name filters then Some refused.NameTaken else (
    if is_fine_by oracle (search_of pattern) then (
    if nat_lt (length filters) 256 then None else Some refused.TooMany)
    else Some refused.BadPattern)

-- Only want of memory comes of itself.
abbrev pub IsAnswer : Option FilterRefused → Result Unit FilterRefused → Type 0
IsAnswer refusal (Ok _) = refusal ≡ None
IsAnswer refusal (Err refused.NoMemory) = Unit {0}
IsAnswer refusal (Err other) = refusal ≡ Some other

-- each pattern of the filters was judged to be one
abbrev pub AreFine : VerdictsView → List Filter → Type 0
AreFine verdicts filters = All (λ f. IsTrue (is_known verdicts (search_of f.pattern))) filters
