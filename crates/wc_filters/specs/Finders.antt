-- What the pattern of a filter is built into, and what searches for it.
use Rattle.std.specs.Prelude.{◌≡◌, ℕ, List, [], ◌∷◌, Option, Some, None, filter, All, IsTrue}
use Rattle.wc_filters.specs.Patterns.{search_of}
use Rattle.wc_filters.specs.Hides.{concerns}
use Rattle.wc_filters.specs.declared.filter.Filter.{Filter}
use Rattle.wc_filters.specs.declared.search.Search.{Search}
use Rattle.wc_filters.specs.declared.halves.Halves.{Halves}

-- what the pattern is built into, or a finder of it, by its text; an empty pattern has none
abbrev pub IsFinderOf : List ℕ → Option (List ℕ) → Type 0
IsFinderOf [] None = Unit {0}
IsFinderOf [] (Some finder) = ⊥
IsFinderOf (b ∷ pattern) None = ⊥
IsFinderOf (b ∷ pattern) (Some finder) = finder ≡ b ∷ pattern

-- what both patterns are built into
abbrev pub AreBuiltOf : Search → Halves → Type 0
AreBuiltOf search halves = IsFinderOf search.prefix halves.prefix × IsFinderOf search.message halves.message

-- those that may hide lines of the buffer of this name, in order
abbrev pub concerning : List ℕ → List Filter → List Filter
concerning name filters = filter (λ f. concerns name f) filters

-- Filters that are kept ready for the lines of a buffer of this name.
pub record Ready : Type 0 where
  pub filters : List Filter
  pub name : List ℕ
