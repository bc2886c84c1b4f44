-- The calls of a nicklist, each on the flat list of its rows.
use Rattle.std.specs.Prelude.{ℕ, ◌==◌, Bool, false, ◌&&◌, ◌||◌, nat_lt, Option, Some, None, List}
use Rattle.std.specs.Prelude.{length, if◌then◌else◌, is_none, is_some}
use Rattle.wc_nicklist.specs.declared.item.Item.{Item}
use Rattle.wc_nicklist.specs.declared.item.Row.{Row}
use Rattle.wc_nicklist.specs.declared.refused.NickRefused.{NickRefused}
use Rattle.wc_nicklist.specs.declared.refused.NickRefused.TheVariants.{IsRoot, BadName, NoParent}
use Rattle.wc_nicklist.specs.declared.refused.NickRefused.TheVariants.{NameTaken, NoSuch, NotEmpty}
use Rattle.wc_nicklist.specs.Order.{key_at}
use Rattle.wc_nicklist.specs.Rows.{find_row, is_root, insert_row, level_at, path_below, has_child}
use Rattle.wc_nicklist.specs.Rows.{below, Nicks}

-- empty or above 64 bytes
abbrev pub is_bad_name : List ℕ → Bool
is_bad_name name = (length name == 0) || nat_lt 64 (length name)

-- a reason where it holds, and the first of two
abbrev pub when : Bool → NickRefused → Option NickRefused
when holds reason = if holds then Some reason else None

abbrev pub or_else : Option NickRefused → Option NickRefused → Option NickRefused
or_else None b = b
or_else (Some a) b = Some a

-- what the name of an item that is added, removed or changed must not be
unfoldable pub name_refusal : Bool → List ℕ → Option NickRefused
name_refusal is_group name = or_else (when (is_group && is_root name) IsRoot)
    (when (is_bad_name name) (BadName (length name)))

-- The refusal of each call, where there is one.
unfoldable pub add_refusal : Bool → List ℕ → List ℕ → List Row → Option NickRefused
add_refusal is_group parent name rows =
    or_else (name_refusal is_group name)
    (or_else (when (is_none (path_below parent rows)) (NoParent parent))
    (when (is_some (find_row (key_at is_group name) rows)) (NameTaken name)))

-- whether something is right below the group of this row
abbrev pub has_children : Option Row → List Row → Bool
has_children None rows = false
has_children (Some g) rows = has_child (below g) rows

unfoldable pub remove_refusal : Bool → List ℕ → List Row → Option NickRefused
remove_refusal is_group name rows =
    or_else (name_refusal is_group name)
    (or_else (when (is_none (find_row (key_at is_group name) rows)) (NoSuch name))
    (when (is_group && has_children (find_row (key_at is_group name) rows) rows) (NotEmpty name)))

unfoldable pub change_refusal : Bool → List ℕ → List Row → Option NickRefused
change_refusal is_group name rows =
    or_else (name_refusal is_group name)
    (when (is_none (find_row (key_at is_group name) rows)) (NoSuch name))

-- an item under this path, with the kind and the level that it then has
abbrev pub row_under : Bool → List (List ℕ) → Item → Row
row_under is_group path i = record {
  path = path;
  item = record {
    handle = i.handle;
    is_group = is_group;
    visible = i.visible;
    level = level_at is_group path;
    name = i.name;
    color = i.color;
    prefix = i.prefix;
    prefix_color = i.prefix_color;
  };
}

abbrev pub add_under : Bool → Option (List (List ℕ)) → Item → List Row → List Row
add_under is_group None i rows = rows
add_under is_group (Some path) i rows = insert_row (row_under is_group path i) rows

-- the rows with an item more under the group of this name
abbrev pub add_row : Bool → List ℕ → Item → List Row → List Row
add_row is_group parent i rows = add_under is_group (path_below parent rows) i rows

abbrev pub item_of : Option Row → Option Item
item_of None = None
item_of (Some r) = Some r.item

-- after an accepted call the rows are these, and there is no room
abbrev pub with_rows : List Row → Nicks → Nicks
with_rows rows old = record { root = old.root; rows = rows; room = None }
