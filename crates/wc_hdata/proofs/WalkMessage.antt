-- The message that is written part by part is that of the answer.
use Rattle.std.proofs.Common.{◌≡◌, ℕ, ◌+◌, List, [], ◌∷◌, ◌++◌, length, Option, Some, None, refl, ap, sym, ◌∙◌, length-append, arith}
use Rattle.std.specs.List.{flat_map, cons_option}
use Rattle.std.proofs.lemmas.List.{length-map}
use Rattle.wc_model.specs.World.{World}
use Rattle.wc_objects.specs.declared.object.Object.{Object}
use Rattle.wc_objects.specs.declared.object.Object.TheViews.{out-roll-HdaItem}
use Rattle.wc_objects.specs.Spelling.{item_bytes, value_bytes, message_bytes, body_bytes, pointer_bytes, be32}
use Rattle.wc_objects.proofs.Rooms.{length-be32}
use Rattle.wc_keys.specs.declared.key.Key.{Key}
use Rattle.wc_events.specs.ValueBytes.{bytes_if, line_bytes}
use Rattle.wc_events.proofs.HdaMessages.{hda_body_is}
use Rattle.wc_hdata.specs.declared.path.Path.{Path}
use Rattle.wc_hdata.specs.Hdata.{all_bytes, bytes_of, keys_asked, walk_object}
use Rattle.wc_keys.specs.Keys.{keys_text}
use Rattle.wc_hdata.specs.Paths.{h_path_of}
use Rattle.wc_hdata.specs.Reached.{Data_at, HeldLine, Place}
use Rattle.wc_hdata.specs.Refusals.{reached}
use Rattle.wc_hdata.specs.Values.{value_of, values_of, item_of, items_of}
use Rattle.wc_hdata.specs.Walk.{Node}
use Rattle.wc_hdata.specs.WalkBytes.{key_bytes, keys_bytes, node_pointers, node_values, node_bytes, pointers_of_all, values_of_all, nodes_bytes, front_for, walk_body, walk_bytes}

-- ---- items
pub values_bytes : (world : World) (place : Place) (keys : List Key) → flat_map value_bytes (values_of world keys place) ≡ keys_bytes world place keys
unfolding key_bytes
values_bytes world place [] = refl
values_bytes world place (key ∷ keys) = by (value_of world place key) (values_bytes world place keys)
  where
    by : (value : Option Object) → flat_map value_bytes (values_of world keys place) ≡ keys_bytes world place keys
        → flat_map value_bytes (cons_option value (values_of world keys place)) ≡ bytes_if value ++ keys_bytes world place keys
    by None e = e
    by (Some value) e = ap (λ (b : List ℕ). value_bytes value ++ b) e

-- what a line says
pub line_is : (world : World) (held : HeldLine) (keys : List Key) → keys_bytes world (Data_at held) keys ≡ flat_map (line_bytes held.buffer held.line) keys
unfolding key_bytes value_of line_bytes
line_is world held [] = refl
line_is world held (key ∷ keys) = ap (λ (b : List ℕ). key_bytes world (Data_at held) key ++ b) (line_is world held keys)

item_is : (world : World) (keys : List Key) (node : Node) → item_bytes (item_of world keys node) ≡ node_bytes world keys node
unfolding item_bytes
item_is world keys node =
    let opened = out-roll-HdaItem (record { pointers = node.pointers; values = values_of world keys node.place }) in
    (λ i. flat_map pointer_bytes (opened i).pointers ++ flat_map value_bytes (opened i).values)
    ∙ ap (λ (b : List ℕ). node_pointers node ++ b) (values_bytes world node.place keys)

items_are : (world : World) (keys : List Key) (nodes : List Node) → flat_map item_bytes (items_of world keys nodes) ≡ nodes_bytes world keys nodes
items_are world keys [] = refl
items_are world keys (node ∷ nodes) = λ i. item_is world keys node i ++ items_are world keys nodes i

-- ---- the message
-- what is before the items of an answer
abbrev pub front_of : List ℕ → Path → List ℕ → List ℕ
front_of id path keys = front_for id path (keys_asked path keys)

body : (id : List ℕ) (world : World) (path : Path) (keys : List ℕ) → body_bytes id (walk_object world path keys ∷ []) ≡ walk_body world (front_of id path keys) (keys_asked path keys) (reached world path)
unfolding walk_object
body id world path keys =
    let asked = keys_asked path keys in
    let nodes = reached world path in
    let items = items_of world asked nodes in
    hda_body_is id (h_path_of path) (keys_text asked) items
    ∙ (λ i. front_of id path keys ++ (be32 (length-map nodes (item_of world asked) i) ++ items_are world asked nodes i))

pub walk_message : (id : List ℕ) (world : World) (path : Path) (keys : List ℕ) → walk_bytes world (front_of id path keys) (keys_asked path keys) (reached world path) ≡ message_bytes id (walk_object world path keys ∷ [])
unfolding message_bytes
walk_message id world path keys = ap (λ (x : List ℕ). be32 (4 + length x) ++ x) (sym (body id world path keys))

-- ---- lengths
pub length_of_nodes : (world : World) (keys : List Key) (nodes : List Node) → length (nodes_bytes world keys nodes) ≡ length (pointers_of_all nodes) + length (values_of_all world keys nodes)
length_of_nodes world keys [] = refl
length_of_nodes world keys (node ∷ nodes) =
    omega (arith, length_of_nodes world keys nodes, length-append (node_bytes world keys node) (nodes_bytes world keys nodes), length-append (node_pointers node) (node_values world keys node), length-append (node_pointers node) (pointers_of_all nodes), length-append (node_values world keys node) (values_of_all world keys nodes))

values_of_nodes : (world : World) (keys : List Key) (nodes : List Node) → values_of_all world keys nodes ≡ flat_map (bytes_of world keys) nodes
values_of_nodes world keys [] = refl
values_of_nodes world keys (node ∷ nodes) = λ i. sym (values_bytes world node.place keys) i ++ values_of_nodes world keys nodes i

pub values_are : (world : World) (path : Path) (keys : List ℕ) → values_of_all world (keys_asked path keys) (reached world path) ≡ all_bytes world path keys
values_are world path keys = values_of_nodes world (keys_asked path keys) (reached world path)

pub length_of_walk : (world : World) (front : List ℕ) (keys : List Key) (nodes : List Node)
    → length (walk_bytes world front keys nodes) ≡ 8 + length front + length (pointers_of_all nodes) + length (values_of_all world keys nodes)
length_of_walk world front keys nodes =
    let body = walk_body world front keys nodes in
    let count = be32 (length nodes) in
    omega (arith, length_of_nodes world keys nodes, length-append (be32 (4 + length body)) body, length-be32 (4 + length body), length-append front (count ++ nodes_bytes world keys nodes), length-append count (nodes_bytes world keys nodes), length-be32 (length nodes))
