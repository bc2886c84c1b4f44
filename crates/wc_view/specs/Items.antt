-- The items that a message tells.
use Rattle.std.specs.Prelude.{ℕ, ◌-◌, Bool, false, ◌&&◌, List, [], ◌∷◌, length, Option, Some, None}
use Rattle.std.specs.Prelude.{if◌then◌else◌, bytes_eq}
use Rattle.std.specs.List.{slice_get}
use Rattle.wc_objects.specs.declared.object.Object.{Object, out-Object}
use Rattle.wc_objects.specs.declared.object.Object.TheOpen.{Object-F}
use Rattle.wc_objects.specs.declared.object.HdaItem.{HdaItem, out-HdaItem}
use Rattle.wc_objects.specs.declared.object.Hda.{out-Hda}
use Rattle.wc_objects.specs.Kinds.{Layer}

abbrev pub is_text : List ℕ → Option (List ℕ) → Bool
is_text text None = false
is_text text (Some found) = bytes_eq found text

abbrev pub items_layer : List ℕ → List ℕ → Layer → Option (List HdaItem)
items_layer path keys (Object-F.Hda hda) =
    if is_text path (out-Hda hda).path && is_text keys (out-Hda hda).keys
    then Some (out-Hda hda).items else None
items_layer path keys _ = None

-- the items of a message of one hda on this path with these keys
unfoldable pub items_on : List ℕ → List ℕ → List Object → Option (List HdaItem)
items_on path keys (object ∷ []) = items_layer path keys (out-Object object)
items_on path keys _ = None

-- the last pointer of an item, which names what the item is about
abbrev pub last_pointer : HdaItem → Option ℕ
last_pointer item = slice_get (out-HdaItem item).pointers (length (out-HdaItem item).pointers - 1)
