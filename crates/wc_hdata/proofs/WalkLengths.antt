-- The values of what a path leads to are a part of its message.
use Rattle.std.proofs.Common.{◌≡◌, ℕ, ◌+◌, ◌-◌, ◌^◌, ◌<◌, ◌≤◌, Bool, true, false, cond, List, [], ◌∷◌, ◌++◌, length, Some, None, arith, refl, sym, ap, ◌∙◌, codes, length-append}
use Rattle.std.specs.Prelude.{nat_lt}
use Rattle.std.specs.List.{flat_map}
use Rattle.std.proofs.lemmas.Bool.Decides.{nat_tests}
use Rattle.wc_model.specs.World.{World}
use Rattle.wc_objects.specs.declared.object.Object.TheVariants as o
use Rattle.wc_objects.specs.declared.object.Object.TheViews.{out-roll-Object, out-roll-Hda, out-roll-HdaItem}
use Rattle.wc_objects.specs.declared.object.Hda.{Hda, roll-Hda}
use Rattle.wc_objects.specs.declared.object.HdaItem.{HdaItem}
use Rattle.wc_objects.specs.Spelling.{be32, text_bytes, pointer_bytes, value_bytes, item_bytes, hda_bytes, object_bytes, message_bytes}
use Rattle.wc_objects.proofs.Rooms.{length-be32, length-message_bytes}
use Rattle.wc_keys.specs.declared.key.Key.{Key}
use Rattle.wc_hdata.specs.declared.path.Path.{Path}
use Rattle.wc_hdata.specs.declared.refused.WalkRefused.{WalkRefused}
use Rattle.wc_hdata.specs.Dumps.{buffers_path, buffers_keys, lines_path, lines_keys}
use Rattle.wc_hdata.specs.Hdata.{all_bytes, bytes_of, keys_asked, length_refusal, most_bytes, refusal, too_long, walk_object}
use Rattle.wc_keys.specs.Keys.{keys_text}
use Rattle.wc_hdata.specs.Paths.{h_path_of}
use Rattle.wc_hdata.specs.Refusals.{reached, walk_refusal}
use Rattle.wc_hdata.specs.Starts.{or_else}
use Rattle.wc_hdata.specs.Values.{item_of, items_of, values_of}
use Rattle.wc_hdata.specs.Walk.{Node}
use Rattle.wc_hdata.proofs.DumpWalks.{buffer_keys_asked, data_keys_asked, buffer_keys_written, data_keys_written}

item_spelt : (world : World) (keys : List Key) (node : Node) → item_bytes (item_of world keys node) ≡ flat_map pointer_bytes node.pointers ++ bytes_of world keys node
unfolding item_bytes
item_spelt world keys node =
    let opened = out-roll-HdaItem (record { pointers = node.pointers; values = values_of world keys node.place }) in
    λ i. flat_map pointer_bytes (opened i).pointers ++ flat_map value_bytes (opened i).values

values_within : (world : World) (keys : List Key) (nodes : List Node) → length (flat_map (bytes_of world keys) nodes) ≤ length (flat_map item_bytes (items_of world keys nodes))
values_within world keys [] = omega arith
values_within world keys (node ∷ nodes) =
    let here : length (item_bytes (item_of world keys node)) ≡ length (flat_map pointer_bytes node.pointers) + length (bytes_of world keys node) =
    ap length (item_spelt world keys node) ∙ length-append (flat_map pointer_bytes node.pointers) (bytes_of world keys node) in
    omega (
      arith,
      here,
      values_within world keys nodes,
      length-append (bytes_of world keys node) (flat_map (bytes_of world keys) nodes),
      length-append (item_bytes (item_of world keys node)) (flat_map item_bytes (items_of world keys nodes)),
    )

text_size : (text : List ℕ) → length (text_bytes (Some text)) ≡ 4 + length text
unfolding text_bytes
text_size text = length-append (be32 (length text)) text ∙ ap (λ n. n + length text) (length-be32 (length text))

abbrev spelt : List ℕ → List ℕ → List HdaItem → List ℕ
spelt path keys items = text_bytes (Some path) ++ (text_bytes (Some keys) ++ (be32 (length items) ++ flat_map item_bytes items))

abbrev hda_of : List ℕ → List ℕ → List HdaItem → Hda
hda_of path keys items = roll-Hda (record { path = Some path; keys = Some keys; items = items })

hda_spelt : (path keys : List ℕ) (items : List HdaItem) → hda_bytes (hda_of path keys items) ≡ spelt path keys items
unfolding hda_bytes
hda_spelt path keys items = rw out-roll-Hda refl

object_spelt : (path keys : List ℕ) (items : List HdaItem) → object_bytes (o.Hda (hda_of path keys items)) ≡ codes "hda" ++ spelt path keys items
unfolding object_bytes
object_spelt path keys items = rw (← o.rolls-Hda (hda_of path keys items), out-roll-Object) (ap (λ t. codes "hda" ++ t) (hda_spelt path keys items))

message_size : (id path keys : List ℕ) (items : List HdaItem)
    → length (message_bytes id (o.Hda (hda_of path keys items) ∷ [])) ≡ 24 + (length id + (length path + (length keys + length (flat_map item_bytes items))))
message_size id path keys items =
    let object = object_bytes (o.Hda (hda_of path keys items)) in
    let whole = length-message_bytes id (o.Hda (hda_of path keys items) ∷ []) in
    let is : length object ≡ length (codes "hda" ++ spelt path keys items) = ap length (object_spelt path keys items) in
    omega (
      arith,
      whole,
      is,
      text_size id,
      text_size path,
      text_size keys,
      length-be32 (length items),
      length-append (text_bytes (Some id)) (object ++ []),
      length-append object [],
      length-append (codes "hda") (spelt path keys items),
      length-append (text_bytes (Some path)) (text_bytes (Some keys) ++ (be32 (length items) ++ flat_map item_bytes items)),
      length-append (text_bytes (Some keys)) (be32 (length items) ++ flat_map item_bytes items),
      length-append (be32 (length items)) (flat_map item_bytes items),
    )

-- the message has more bytes than its values
walk_size : (id : List ℕ) (world : World) (path : Path) (keys : List ℕ)
    → 24 + (length (h_path_of path) + (length (keys_text (keys_asked path keys)) + length (all_bytes world path keys))) ≤ length (message_bytes id (walk_object world path keys ∷ []))
unfolding walk_object
walk_size id world path keys =
    let asked = keys_asked path keys in
    omega (arith, message_size id (h_path_of path) (keys_text asked) (items_of world asked (reached world path)), values_within world asked (reached world path))

-- ---- the dumps

-- a walk that is refused, and not for its start or its visits, is too long
long_walk : (id : List ℕ) (world : World) (path : Path) (keys : List ℕ) (r : WalkRefused) → 40 ≤ length (h_path_of path) + length (keys_text (keys_asked path keys))
    → walk_refusal world path ≡ None → refusal world path keys ≡ Some r → 2 ^ 31 - 1 < length (message_bytes id (walk_object world path keys ∷ []))
unfolding refusal
long_walk id world path keys r front accepted refused =
    by (nat_lt most_bytes (length (all_bytes world path keys))) refl (sym (ap (λ o. or_else o (length_refusal (length (all_bytes world path keys)))) accepted) ∙ refused) where
      by : (b : Bool) → nat_lt most_bytes (length (all_bytes world path keys)) ≡ b → cond b (Some too_long) None ≡ Some r → 2 ^ 31 - 1 < length (message_bytes id (walk_object world path keys ∷ []))
      by true e same =
          let more : 2 ^ 31 - 64 < length (all_bytes world path keys) = grind (arith, nat_tests) in
          omega (arith, more, front, walk_size id world path keys)
      by false e same = absurd (let given = same in cc)

pub long_buffers : (id : List ℕ) (world : World) (r : WalkRefused) → walk_refusal world buffers_path ≡ None → refusal world buffers_path buffers_keys ≡ Some r
    → 2 ^ 31 - 1 < length (message_bytes id (walk_object world buffers_path buffers_keys ∷ []))
long_buffers id world r = long_walk id world buffers_path buffers_keys r
    (let front : length (keys_text (keys_asked buffers_path buffers_keys)) ≡ 80 = ap (λ keys. length (keys_text keys)) buffer_keys_asked ∙ ap length buffer_keys_written in omega (arith, front))

pub long_lines : (id : List ℕ) (world : World) (r : WalkRefused) → walk_refusal world lines_path ≡ None → refusal world lines_path lines_keys ≡ Some r
    → 2 ^ 31 - 1 < length (message_bytes id (walk_object world lines_path lines_keys ∷ []))
long_lines id world r = long_walk id world lines_path lines_keys r
    (let front : length (keys_text (keys_asked lines_path lines_keys)) ≡ 162 = ap (λ keys. length (keys_text keys)) data_keys_asked ∙ ap length data_keys_written in omega (arith, front))
