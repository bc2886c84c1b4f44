-- What of a line decides whether it is hidden.
use Rattle.std.specs.Prelude.{ℕ, List}
use Rattle.wc_filters.specs.declared.line_parts.Tags.{Tags as LentTags}
use Rattle.wc_filters.specs.declared.line_parts.Tags.TheVariants.{Listed, Packed}

abbrev pub tags_in : LentTags → List (List ℕ)
tags_in (Listed tags) = tags.now
tags_in (Packed line) = line.now.tags
