-- The tags that an iterator has still to give.
use Rattle.std.specs.Prelude.{List, ℕ}
use Rattle.wc_lines.specs.declared.packed_texts.TagIter.{TagIter}
use Rattle.wc_lines.specs.Packed.{tags_of}

abbrev pub tags_left : TagIter → List (List ℕ)
tags_left it = tags_of it.rest.now
