-- Texts in order, each once.
use Rattle.std.specs.Prelude.{◌↔◌, ℕ, List, [], ◌∷◌, Contains}
use Rattle.std.specs.declared.cmp.Ordering.{Ordering}
use Rattle.std.specs.declared.cmp.Ordering.TheVariants.{Less, Equal, Greater}
use Rattle.std.specs.List.Sorted.{IsStrictlySortedBy}
use Rattle.wc_text.specs.Order.{fold_order}

-- the second list has exactly the texts of the first, each once, in order
pub record IsInOrder (texts ordered : List (List ℕ)) : Type 0 where
  pub same : (text : List ℕ) → Contains ordered text ↔ Contains texts text
  pub sorted : IsStrictlySortedBy fold_order ordered

-- a text among those of an ordered list that come before or behind its first one, by how the two compare
abbrev pub put_by : Ordering → List ℕ → List ℕ → List (List ℕ) → List (List ℕ) → List (List ℕ)
put_by Less text first others put = text ∷ first ∷ others
put_by Equal text first others put = first ∷ others
put_by Greater text first others put = first ∷ put

-- an ordered list with one text more, unless it is among them
unfoldable pub put : List ℕ → List (List ℕ) → List (List ℕ)
put text [] = text ∷ []
put text (first ∷ others) = put_by (fold_order text first) text first others (put text others)

-- the texts in order, each once
unfoldable pub in_order : List (List ℕ) → List (List ℕ)
in_order [] = []
in_order (text ∷ texts) = put text (in_order texts)
