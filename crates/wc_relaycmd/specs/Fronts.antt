-- The front of a list that commas join.
use Rattle.std.specs.Prelude.{◌≡◌, ℕ, ◌<◌, List, [], ◌∷◌, length, Some, None}
use Rattle.std.specs.List.{onto_first}
use Rattle.wc_relaycmd.specs.declared.lists.Front.{Front}
use Rattle.wc_relaycmd.specs.declared.lists.Front.TheVariants.{Ends, Goes}
use Rattle.wc_relaycmd.specs.Lists.{items_of}

-- how the items of a list go on
abbrev pub IsListFront : List ℕ → Front → Type 0
IsListFront list (Ends None) = list ≡ []
IsListFront list (Ends (Some text_after)) = (items_of list ≡ [] ∷ items_of text_after.now)
    × (length text_after.now < length list)
IsListFront list (Goes byte text_after) =
    (items_of list ≡ onto_first byte (items_of text_after.now))
    × (length text_after.now < length list)
