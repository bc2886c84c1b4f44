-- The nicklists of the buffers as they are stored, and what always holds of them.
use Rattle.std.specs.Prelude.{◌≡◌, ℕ, ◌≤◌, Bool, true, false, nat_eq, Option, Some, None, List, []}
use Rattle.std.specs.Prelude.{◌∷◌, length, map, is_some, if◌then◌else◌, option_map}
use Rattle.std.specs.FinMap.{FinMap, from_entries, entries}
use Rattle.std.specs.HashMap.{HashMap, get_by}
use Rattle.std.specs.Ordering.{nat_cmp}
use Rattle.wc_nicklist.specs.Calls.{with_rows}
use Rattle.wc_nicklist.specs.Rows.{Nicks, IsRows}
use Rattle.wc_nicklist.specs.declared.item.Item.{Item}
use Rattle.wc_nicklist.specs.declared.item.Row.{Row}
use Rattle.wc_nicklist.specs.declared.refused.NickRefused.{NickRefused}
use Rattle.wc_nicklist.specs.declared.refused.NickRefused.TheVariants.{IsRoot, BadName, NoParent}
use Rattle.wc_nicklist.specs.declared.refused.NickRefused.TheVariants.{NameTaken, NoSuch, NotEmpty}
use Rattle.wc_nicklist.specs.declared.refused.NickRefused.TheVariants.{NoMemory}
use Rattle.wc_text.specs.declared.names.Handle.{Handle}
use Rattle.wc_buffers.specs.Calls.{EntryGroups, handle_of}
use Rattle.wc_buffers.specs.Groups.{has}
use Rattle.wc_model.specs.World.{root_at, count_rows, row_limit}
use Rattle.wc_model.specs.declared.change.What.{What}
use Rattle.wc_model.specs.declared.refused.ChangeRefused.{ChangeRefused}
use Rattle.wc_model.specs.declared.change.What.TheVariants.{AddGroup, AddNick, RemoveGroup}
use Rattle.wc_model.specs.declared.change.What.TheVariants.{RemoveNick, ChangeGroup, ChangeNick}

-- the nicklist that is stored under a handle
abbrev pub list_at : {S : Type 0} → HashMap ℕ Nicks S → ℕ → Option Nicks
list_at m h = get_by (nat_eq h) m

abbrev pub rows_of : Option Nicks → List Row
rows_of None = []
rows_of (Some x) = x.rows

-- the rows of each buffer, by its handle
abbrev pub rows_map : {S : Type 0} → HashMap ℕ Nicks S → FinMap nat_cmp (List Row)
rows_map m = from_entries (map (λ e. (e.0, e.1.rows)) m.entries)

-- the parent for which a stored nicklist has room
abbrev pub room_of : Option Nicks → Option (List ℕ)
room_of None = None
room_of (Some x) = x.room

-- what a nicklist shows beside the room
abbrev pub shown_list : Nicks → Handle × List Row
shown_list x = (x.root, x.rows)

-- the roots and the rows are the same
abbrev pub AreSameRows : {S T : Type 0} → HashMap ℕ Nicks S → HashMap ℕ Nicks T → Type 0
AreSameRows old new = (q : ℕ) → option_map shown_list (list_at new q) ≡ option_map shown_list
    (list_at old q)

-- the nicklist with room below a parent
abbrev pub with_room : List ℕ → Nicks → Nicks
with_room parent x = record { root = x.root; rows = x.rows; room = Some parent }

-- the nicklist with other rows, and no room any more
abbrev pub with_edit : (List Row → List Row) → Nicks → Nicks
with_edit f x = with_rows (f x.rows) x

-- what is stored under one handle changed by f, and all else as it was
abbrev pub IsListChangedAt : {S T : Type 0} → ℕ → (Nicks → Nicks) → HashMap ℕ Nicks S →
    HashMap ℕ Nicks T → Type 0
IsListChangedAt h f old new = (q : ℕ) →
    list_at new q ≡ (if nat_eq h q then option_map f (list_at old q) else list_at old q)

-- the texts of an item are cut
pub record IsCut (item : Item) : Type 0 where
  pub color : length item.color ≤ 64
  pub prefix : length item.prefix ≤ 64
  pub prefix_color : length item.prefix_color ≤ 64

abbrev pub AreCut : List Row → Type 0
AreCut [] = Unit {0}
AreCut (row ∷ rows) = IsCut row.item × AreCut rows

pub record IsList (h : ℕ) (x : Nicks) : Type 0 where
  pub rooted : x.root ≡ root_at h
  pub held : IsRows x.rows
  pub cut : AreCut x.rows

pub record AreNicks {S : Type 0} (groups : EntryGroups) (nicks : HashMap ℕ Nicks S)
    (count : ℕ) : Type 0 where
  -- each buffer has a nicklist, and nothing else has
  pub stored : (h : ℕ) → is_some (list_at nicks h) ≡ has handle_of h groups
  pub fit : (h : ℕ) (x : Nicks) → list_at nicks h ≡ Some x → IsList h x
  pub counted : count ≡ count_rows (entries (rows_map nicks))
  pub most : count ≤ row_limit

-- ---- the changes of groups and nicks, by the kind of the item

abbrev pub add_of : Bool → List ℕ → Item → What
add_of true parent item = AddGroup parent item
add_of false group item = AddNick group item

abbrev pub remove_of : Bool → List ℕ → What
remove_of true name = RemoveGroup name
remove_of false name = RemoveNick name

abbrev pub change_of_rows : Bool → Item → What
change_of_rows true item = ChangeGroup item
change_of_rows false item = ChangeNick item

-- the refusal of a change that a nicklist refused
abbrev pub refused_by_nicks : NickRefused → ChangeRefused
refused_by_nicks NoMemory = ChangeRefused.NoMemory
refused_by_nicks IsRoot = ChangeRefused.Nick IsRoot
refused_by_nicks (BadName n) = ChangeRefused.Nick (BadName n)
refused_by_nicks (NoParent name) = ChangeRefused.Nick (NoParent name)
refused_by_nicks (NameTaken name) = ChangeRefused.Nick (NameTaken name)
refused_by_nicks (NoSuch name) = ChangeRefused.Nick (NoSuch name)
refused_by_nicks (NotEmpty name) = ChangeRefused.Nick (NotEmpty name)
