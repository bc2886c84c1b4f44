-- The room that the answer to a data path takes.
use Rattle.std.specs.Prelude.{◌≡◌, ℕ, ◌+◌, ◌-◌, ◌^◌, ◌<◌, ◌≤◌, ◌⊎◌, List, length}
use Rattle.wc_model.specs.World.{World}
use Rattle.wc_keys.specs.declared.key.Key.{Key}
use Rattle.wc_hdata.specs.declared.writer.Left.{Left}
use Rattle.wc_hdata.specs.declared.writer.Size.{Size}
use Rattle.wc_hdata.specs.Hdata.{most_bytes}
use Rattle.wc_hdata.specs.Walk.{Node}
use Rattle.wc_hdata.specs.WalkBytes.{values_of_all, walk_bytes}

-- pointers or values that are longer than what is left for them
abbrev pub IsOver : Left → List ℕ → List ℕ → Type 0
IsOver left pointers values = (left.room < length pointers) ⊎ (left.values < length values)

-- what is left after the pointers and the values of so many items
pub record IsAfter (old new : Left) (pointers values : List ℕ) (items : ℕ) : Type 0 where
  pub room : new.room + length pointers ≡ old.room
  pub values_left : new.values + length values ≡ old.values
  pub counted : new.items ≡ old.items + items

-- values that are too many together, or a message that is too long
abbrev pub IsTooLong : World → List ℕ → List Key → List Node → Type 0
IsTooLong world front keys nodes = (most_bytes < length (values_of_all world keys nodes))
    ⊎ (2 ^ 31 - 1 < length (walk_bytes world front keys nodes))

-- how long the message is, and how many items it has, where it is not too long
pub record IsSize (world : World) (front : List ℕ) (keys : List Key) (nodes : List Node)
    (size : Size) : Type 0 where
  pub bytes : size.bytes ≡ length (walk_bytes world front keys nodes)
  pub items : size.items ≡ length nodes
  pub short : size.bytes ≤ 2 ^ 31 - 1
  pub few_values : length (values_of_all world keys nodes) ≤ most_bytes
