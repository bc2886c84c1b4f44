-- The answer to a data path as bytes, part by part.
use Rattle.std.specs.Prelude.{ℕ, ◌+◌, List, ◌++◌, length}
use Rattle.std.specs.List.{flat_map}
use Rattle.wc_model.specs.World.{World}
use Rattle.wc_objects.specs.Spelling.{pointer_bytes, be32}
use Rattle.wc_events.specs.HdaBytes.{front_bytes}
use Rattle.wc_events.specs.ValueBytes.{bytes_if}
use Rattle.wc_keys.specs.declared.key.Key.{Key}
use Rattle.wc_hdata.specs.declared.path.Path.{Path}
use Rattle.wc_keys.specs.Keys.{keys_text}
use Rattle.wc_hdata.specs.Paths.{h_path_of}
use Rattle.wc_hdata.specs.Reached.{Place}
use Rattle.wc_hdata.specs.Values.{value_of}
use Rattle.wc_hdata.specs.Walk.{Node}

-- the value that a key names
unfoldable pub key_bytes : World → Place → Key → List ℕ
key_bytes world place key = bytes_if (value_of world place key)

-- the values that the keys name
abbrev pub keys_bytes : World → Place → List Key → List ℕ
keys_bytes world place keys = flat_map (key_bytes world place) keys

-- the pointers of what is reached
abbrev pub pointers_bytes : List ℕ → List ℕ
pointers_bytes pointers = flat_map pointer_bytes pointers

abbrev pub node_pointers : Node → List ℕ
node_pointers node = pointers_bytes node.pointers

-- the values of what is reached
abbrev pub node_values : World → List Key → Node → List ℕ
node_values world keys node = keys_bytes world node.place keys

-- both
abbrev pub node_bytes : World → List Key → Node → List ℕ
node_bytes world keys node = node_pointers node ++ node_values world keys node

-- of all that is reached
abbrev pub pointers_of_all : List Node → List ℕ
pointers_of_all nodes = flat_map node_pointers nodes

abbrev pub values_of_all : World → List Key → List Node → List ℕ
values_of_all world keys nodes = flat_map (node_values world keys) nodes

abbrev pub nodes_bytes : World → List Key → List Node → List ℕ
nodes_bytes world keys nodes = flat_map (node_bytes world keys) nodes

-- what is before the count of the items of an answer with these keys
abbrev pub front_for : List ℕ → Path → List Key → List ℕ
front_for id path keys = front_bytes id (h_path_of path) (keys_text keys)

-- what comes after the length of the message
abbrev pub walk_body : World → List ℕ → List Key → List Node → List ℕ
walk_body world front keys nodes = front ++ (be32 (length nodes) ++ nodes_bytes world keys nodes)

-- the message
abbrev pub walk_bytes : World → List ℕ → List Key → List Node → List ℕ
walk_bytes world front keys nodes = be32 (4 + length (walk_body world front keys nodes))
    ++ walk_body world front keys nodes
