-- The order of texts that sees letters of either case alike, as long as something else differs.
use Rattle.std.specs.Prelude.{ℕ, List, map}
use Rattle.std.specs.declared.cmp.Ordering.{Ordering}
use Rattle.std.specs.Ordering.{nat_cmp, ordering_then}
use Rattle.std.specs.Cmp.Lexicographic.{slice_cmp}
use Rattle.std.specs.Char.{to_ascii_lowercase}

-- the bytes with ASCII letters in lower case
abbrev pub lower_case : List ℕ → List ℕ
lower_case bytes = map to_ascii_lowercase bytes

abbrev pub byte_order : List ℕ → List ℕ → Ordering
byte_order = slice_cmp nat_cmp

-- the order of the folded bytes, and of the bytes where those are alike
unfoldable pub fold_order : List ℕ → List ℕ → Ordering
fold_order a b = ordering_then (byte_order (lower_case a) (lower_case b)) (byte_order a b)
