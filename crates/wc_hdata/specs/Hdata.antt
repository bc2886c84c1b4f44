-- The answer to the request `hdata`, and why there is none.
use Rattle.std.specs.Prelude.{ℕ, ◌-◌, ◌^◌, nat_lt, List, [], ◌∷◌, Option, Some, None, length}
use Rattle.std.specs.Prelude.{if◌then◌else◌}
use Rattle.std.specs.List.{flat_map}
use Rattle.wc_model.specs.World.{World}
use Rattle.wc_objects.specs.declared.object.Object.{Object}
use Rattle.wc_objects.specs.declared.object.Object.TheVariants as o
use Rattle.wc_objects.specs.declared.object.Hda.{roll-Hda}
use Rattle.wc_objects.specs.declared.object.HdaItem.{HdaItem}
use Rattle.wc_objects.specs.Spelling.{value_bytes, message_bytes}
use Rattle.wc_keys.specs.declared.key.Key.{Key}
use Rattle.wc_hdata.specs.declared.path.Path.{Path}
use Rattle.wc_hdata.specs.declared.refused.WalkRefused.{WalkRefused}
use Rattle.wc_hdata.specs.declared.refused.WalkRefused.TheVariants.{TooLong}
use Rattle.wc_hdata.specs.Keys.{keys_of}
use Rattle.wc_keys.specs.Keys.{keys_text}
use Rattle.wc_hdata.specs.Paths.{element_at, h_path_of}
use Rattle.wc_hdata.specs.Refusals.{reached, walk_refusal}
use Rattle.wc_hdata.specs.Starts.{or_else}
use Rattle.wc_hdata.specs.Values.{items_of, values_of}
use Rattle.wc_hdata.specs.Walk.{Node}

abbrev pub most_bytes : ℕ
most_bytes = 2 ^ 31 - 64

abbrev pub too_long : WalkRefused
too_long = TooLong most_bytes

-- the bytes of the values of an item
abbrev pub bytes_of : World → List Key → Node → List ℕ
bytes_of world keys node = flat_map value_bytes (values_of world keys node.place)

abbrev pub length_refusal : ℕ → Option WalkRefused
length_refusal bytes = if nat_lt most_bytes bytes then Some too_long else None

-- the keys that are asked for
abbrev pub keys_asked : Path → List ℕ → List Key
keys_asked path keys = keys_of (element_at path) keys

abbrev pub all_bytes : World → Path → List ℕ → List ℕ
all_bytes world path keys = flat_map (bytes_of world (keys_asked path keys)) (reached world path)

-- the first of the reasons: nothing lives there, too many pointers, too many bytes
unfoldable pub refusal : World → Path → List ℕ → Option WalkRefused
refusal world path keys = or_else (walk_refusal world path)
    (length_refusal (length (all_bytes world path keys)))

-- what is answered else
unfoldable pub walk_object : World → Path → List ℕ → Object
walk_object world path keys =
    o.Hda (roll-Hda (record {
      path = Some (h_path_of path);
      keys = Some (keys_text (keys_asked path keys));
      items = items_of world (keys_asked path keys) (reached world path);
    }))

-- the same, and last a message with this id that is too long
unfoldable pub message_refusal : List ℕ → World → Path → List ℕ → Option WalkRefused
message_refusal id world path keys = or_else (refusal world path keys)
    (if nat_lt (2 ^ 31 - 1) (length (message_bytes id (walk_object world path keys ∷ [])))
    then Some too_long else None)

-- the answer with these keys and items
abbrev pub object_of : Path → List Key → List HdaItem → Object
object_of path keys items =
    o.Hda (roll-Hda (record {
      path = Some (h_path_of path);
      keys = Some (keys_text keys);
      items = items;
    }))
