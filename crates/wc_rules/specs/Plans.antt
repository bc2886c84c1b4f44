-- What filters would be after a change.
use Rattle.std.specs.Prelude.{◌≡◌, ℕ, List, map, Option, Some, None, Result, Ok, Err}
use Rattle.std.specs.Prelude.{if◌then◌else◌}
use Rattle.wc_filters.specs.Kept.{has_name, without, is_there, with_switch}
use Rattle.wc_filters.specs.declared.filter.Filter.{Filter}
use Rattle.wc_filters.specs.declared.refused.FilterRefused.{FilterRefused}
use Rattle.wc_filters.specs.declared.refused.FilterRefused.TheVariants as refused
use Rattle.wc_filters.specs.declared.switch.Switch.{Switch}

-- These filters are planned where nothing refuses them. Only want of memory comes of itself.
abbrev pub IsPlan : Option FilterRefused → List Filter → Result (List Filter) FilterRefused → Type 0
IsPlan refusal filters (Ok plan) = (refusal ≡ None) × (plan ≡ filters)
IsPlan refusal filters (Err refused.NoMemory) = Unit {0}
IsPlan refusal filters (Err other) = refusal ≡ Some other

-- the filters without those of a name, if there are some
abbrev pub filters_without : List ℕ → List Filter → Option (List Filter)
filters_without name filters =
    if has_name name filters then Some (without name filters) else None

-- the filters with those switched that are meant, if there are some or no name is given
abbrev pub filters_switched : Option (List ℕ) → Switch → List Filter → Option (List Filter)
filters_switched name switch filters =
    if is_there name filters then Some (map (with_switch name switch) filters) else None
