-- The ids under which a client asks for its three dumps.
use Rattle.std.specs.Prelude.{◌≡◌, ℕ, false, ◌==◌, List, [], ◌∷◌, slice_index, bytes_eq}
use Rattle.std.specs.List.{AllByRecursion}

-- ids that begin with this byte are those of events
abbrev pub event_mark : ℕ
event_mark = 95

-- the id is that of no event
abbrev pub IsFree : List ℕ → Type 0
IsFree id = (slice_index id 0 == event_mark) ≡ false

-- each differs from those after it
abbrev pub Differ : List (List ℕ) → Type 0
Differ [] = Unit {0}
Differ (id ∷ ids) = AllByRecursion (λ other. bytes_eq id other ≡ false) ids × Differ ids

-- they differ, and none is that of an event
pub record AreIds (ids : List (List ℕ)) : Type 0 where
  pub apart : Differ ids
  pub free : AllByRecursion IsFree ids
