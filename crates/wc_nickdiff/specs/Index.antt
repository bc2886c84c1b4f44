-- The index from keys to places.
use Rattle.std.specs.Prelude.{◌≡◌, ◌<◌, ℕ, suc, Option, Some, None, List, [], ◌∷◌}
use Rattle.std.specs.Prelude.{if◌then◌else◌, bytes_eq, option_map}
use Rattle.std.specs.HashMap.{HashMap, spare}
use Rattle.std.specs.declared.alloc.Global.{Global}
use Rattle.std.specs.declared.vec.Vec.{Vec}
use Rattle.wc_nicklist.specs.declared.item.Key.{Key}
use Rattle.wc_nicklist.specs.Rows.{key_eq}
use Rattle.wc_nickdiff.specs.declared.diff_item.FirstTouch.{FirstTouch}
use Rattle.wc_nickdiff.specs.declared.index.Index.{Index}
use Rattle.wc_nicklist.specs.Index.{at_long}

abbrev pub place_in : Index → Key → Option ℕ
place_in i k = if k.is_group then at_long i.groups k.name else at_long i.nicks k.name

abbrev pub place_of : Key → List FirstTouch → Option ℕ
place_of k [] = None
place_of k (t ∷ ts) = if key_eq t.key k then Some 0 else option_map suc (place_of k ts)

-- the index has the place of each key that was touched, and no other
abbrev pub IndexesTouches : List FirstTouch → Index → Type 0
IndexesTouches ts index = (k : Key) → place_in index k ≡ place_of k ts

-- one more group or nick comes in without taking memory
abbrev pub HasTouchRoom : Index → Type 0
HasTouchRoom i = (0 < spare i.groups) × (0 < spare i.nicks)
