-- The values of a list that keeps one value in its place.
use Rattle.std.specs.Prelude.{List}
use Rattle.wc_model.specs.declared.few.Kept.{Kept}
use Rattle.wc_model.specs.declared.few.Kept.TheVariants.{One, Many}

abbrev pub kept_items : {T : Type 0} → Kept T → List T
kept_items (One one) = one
kept_items (Many items) = items
