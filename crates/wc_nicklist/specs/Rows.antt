-- Nicklists as flat lists of rows in canonical order, and the edits of such lists.
use Rattle.std.specs.Prelude.{◌≡◌, ℕ, ◌+◌, ◌≤◌, ◌<◌, Bool, true, false, not, ◌&&◌, Option}
use Rattle.std.specs.Prelude.{Some, None, List, [], ◌∷◌, ◌++◌, length, if◌then◌else◌, bytes_eq}
use Rattle.std.specs.Prelude.{codes}
use Rattle.std.specs.List.{list_any}
use Rattle.std.specs.Cmp.Lexicographic.{pointwise}
use Rattle.std.specs.Str.{IsUtf8}
use Rattle.wc_text.specs.declared.names.Handle.{Handle}
use Rattle.wc_nicklist.specs.declared.item.Item.{Item}
use Rattle.wc_nicklist.specs.declared.item.Key.{Key}
use Rattle.wc_nicklist.specs.declared.item.Row.{Row}
use Rattle.wc_nicklist.specs.Order.{key, group_key, before}

abbrev pub bool_eq : Bool → Bool → Bool
bool_eq true b = b
bool_eq false b = not b

unfoldable pub key_eq : Key → Key → Bool
key_eq a b = bool_eq a.is_group b.is_group && bytes_eq a.name b.name

unfoldable pub path_eq : List (List ℕ) → List (List ℕ) → Bool
path_eq a b = pointwise bytes_eq a b

-- the row of a key
abbrev pub find_row : Key → List Row → Option Row
find_row k [] = None
find_row k (x ∷ xs) = if key_eq (key x) k then Some x else find_row k xs

-- The edits: a row comes in at its canonical place, the row of a key goes, the item of a key gets
-- other fields.
abbrev pub insert_row : Row → List Row → List Row
insert_row r [] = r ∷ []
insert_row r (x ∷ xs) = if before r x then r ∷ x ∷ xs else x ∷ insert_row r xs

abbrev pub remove_row : Key → List Row → List Row
remove_row k [] = []
remove_row k (x ∷ xs) = if key_eq (key x) k then remove_row k xs else x ∷ remove_row k xs

abbrev pub replace_row : Row → List Row → List Row
replace_row r [] = []
replace_row r (x ∷ xs) = if key_eq (key x) (key r) then r ∷ replace_row r xs
    else x ∷ replace_row r xs

-- the kind, the name and the level stay
abbrev pub changed_item : Item → Item → Item
changed_item old new = record {
  handle = new.handle;
  is_group = old.is_group;
  visible = new.visible;
  level = old.level;
  name = old.name;
  color = new.color;
  prefix = new.prefix;
  prefix_color = new.prefix_color;
}

abbrev pub changed_row : Row → Item → Row
changed_row r i = record { path = r.path; item = changed_item r.item i }

-- the row of a key is replaced by the changed one
abbrev pub change_found : Option Row → Item → List Row → List Row
change_found None i rows = rows
change_found (Some r) i rows = replace_row (changed_row r i) rows

abbrev pub change_row : Key → Item → List Row → List Row
change_row k i rows = change_found (find_row k rows) i rows

-- The root is no row, and its name is no group's.
abbrev pub root_name : List ℕ
root_name = codes "root"

abbrev pub is_root : List ℕ → Bool
is_root name = bytes_eq name root_name

-- the name of a row's parent
abbrev pub last_or : List ℕ → List (List ℕ) → List ℕ
last_or d [] = d
last_or d (x ∷ xs) = last_or x xs

abbrev pub parent_of : Row → List ℕ
parent_of r = last_or root_name r.path

-- the path of what is right below a group
abbrev pub below : Row → List (List ℕ)
below g = g.path ++ g.item.name ∷ []

abbrev pub below_row : Option Row → Option (List (List ℕ))
below_row None = None
below_row (Some g) = Some (below g)

-- the path of what is right below the group of a name
unfoldable pub path_below : List ℕ → List Row → Option (List (List ℕ))
path_below name rows = if is_root name then Some [] else below_row (find_row (group_key name) rows)

-- whether a row is right below this path
abbrev pub has_child : List (List ℕ) → List Row → Bool
has_child path rows = list_any (λ r. path_eq r.path path) rows

-- A group's level is one more than its parent's, and a nick's is 0.
abbrev pub level_at : Bool → List (List ℕ) → ℕ
level_at is_group path = if is_group then length path + 1 else 0

-- Rows that a nicklist can hold.
abbrev pub AllAfter : Row → List Row → Type 0
AllAfter x [] = Unit {0}
AllAfter x (y ∷ ys) = (before x y ≡ true) × AllAfter x ys

abbrev pub Ascending : List Row → Type 0
Ascending [] = Unit {0}
Ascending (x ∷ xs) = AllAfter x xs × Ascending xs

-- each key once
abbrev pub Keyed : List Row → Type 0
Keyed [] = Unit {0}
Keyed (x ∷ xs) = (find_row (key x) xs ≡ None) × Keyed xs

pub record TextsAreUtf8 (i : Item) : Type 0 where
  pub name : IsUtf8 i.name
  pub color : IsUtf8 i.color
  pub prefix : IsUtf8 i.prefix
  pub prefix_color : IsUtf8 i.prefix_color

pub record IsListedRow (rows : List Row) (r : Row) : Type 0 where
  -- the row is the root's, or a group of these rows is its parent
  pub parent : path_below (parent_of r) rows ≡ Some r.path
  pub level : r.item.level ≡ level_at r.item.is_group r.path
  pub named : (0 < length r.item.name) × (length r.item.name ≤ 64)
  pub no_root : (r.item.is_group && is_root r.item.name) ≡ false
  pub utf8 : TextsAreUtf8 r.item

pub record IsRows (rows : List Row) : Type 0 where
  pub ascending : Ascending rows
  pub keyed : Keyed rows
  pub held : (k : Key) (r : Row) → find_row k rows ≡ Some r → IsListedRow rows r

-- What contracts see of a nicklist: the handle of the root, the rows, and the parent for which
-- there is room.
pub record Nicks : Type 0 where
  pub root : Handle
  pub rows : List Row
  pub room : Option (List ℕ)
