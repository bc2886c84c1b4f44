-- The texts of a change of filters.
use Rattle.std.specs.Prelude.{Some, None}
use Rattle.std.specs.Str.{IsUtf8}
use Rattle.wc_core.specs.declared.typed_filter.FilterChange.{FilterChange}
use Rattle.wc_core.specs.declared.typed_filter.FilterChange.TheVariants as filtering

-- A name, which a refusal may tell, and a pattern are UTF-8.
abbrev pub IsFilterText : FilterChange → Type 0
IsFilterText (filtering.Add name buffers tags pattern) = IsUtf8 name × IsUtf8 pattern
IsFilterText (filtering.Delete name) = IsUtf8 name
IsFilterText (filtering.Switch None switch) = Unit {0}
IsFilterText (filtering.Switch (Some name) switch) = IsUtf8 name
