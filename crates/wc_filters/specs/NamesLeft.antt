-- The names that an iterator has still to give.
use Rattle.std.specs.Prelude.{List, ℕ, map}
use Rattle.wc_filters.specs.declared.filters.NameIter.{NameIter}

abbrev pub names_left : NameIter → List (List ℕ)
names_left it = map (λ f. f.name) it.rows.now
