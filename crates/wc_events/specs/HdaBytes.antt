-- A message of one hdata as bytes, part by part.
use Rattle.std.specs.Prelude.{ℕ, ◌+◌, List, ◌∷◌, ◌++◌, length, Some}
use Rattle.std.specs.List.{flat_map}
use Rattle.wc_objects.specs.declared.kind.Kind.TheVariants as kinds
use Rattle.wc_objects.specs.declared.object.HdaItem.{HdaItem}
use Rattle.wc_objects.specs.Kinds.{letters}
use Rattle.wc_objects.specs.Spelling.{item_bytes, text_bytes, be32}
use Rattle.wc_events.specs.declared.front.Front.{Front}

-- what is before the count of the items, after the length of the message
abbrev pub front_bytes : List ℕ → List ℕ → List ℕ → List ℕ
front_bytes id path keys = 0 ∷ (text_bytes (Some id)
    ++ (letters kinds.Hda ++ (text_bytes (Some path) ++ text_bytes (Some keys))))

abbrev pub front_part : Front → List ℕ
front_part front = front_bytes front.id.now front.path.now front.keys.now

-- items, one after another
abbrev pub items_bytes : List HdaItem → List ℕ
items_bytes items = flat_map item_bytes items

-- what comes after the length of the message
abbrev pub hda_body : List ℕ → List HdaItem → List ℕ
hda_body front items = front ++ (be32 (length items) ++ items_bytes items)

-- the message
abbrev pub hda_message : List ℕ → List HdaItem → List ℕ
hda_message front items = be32 (4 + length (hda_body front items)) ++ hda_body front items
