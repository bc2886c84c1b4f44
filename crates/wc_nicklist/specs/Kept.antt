-- What a nicklist keeps of its parts.
use Rattle.std.specs.Prelude.{◌≡◌, ℕ, ◌≤◌, Option, Some, None, List, [], IsTrue, is_some}
use Rattle.std.specs.Prelude.{vec_capacity}
use Rattle.wc_nicklist.specs.declared.index.Index.{Index}
use Rattle.wc_nicklist.specs.declared.item.Key.{Key}
use Rattle.wc_nicklist.specs.declared.item.Row.{Row}
use Rattle.wc_nicklist.specs.declared.room.Room.{Room}
use Rattle.wc_nicklist.specs.declared.store.RowId.{RowId}
use Rattle.wc_nicklist.specs.Index.{id_in, IndexHasRoom}
use Rattle.wc_nicklist.specs.Rows.{find_row, path_below, IsRows}
use Rattle.wc_nicklist.specs.Stored.{row_at, Stored}

-- the row under the number that a key has, if it has one
abbrev pub row_under_id : Stored → Option RowId → Option Row
row_under_id stored None = None
row_under_id stored (Some id) = row_at stored.store id.0

-- the index has the number of each row, and no other
pub record IndexesRows (stored : Stored) (index : Index) : Type 0 where
  pub rows : (k : Key) → row_under_id stored (id_in index k) ≡ find_row k stored.rows
  pub some : (k : Key) → is_some (id_in index k) ≡ is_some (find_row k stored.rows)

-- the parts of a row that is still to come
pub record IsRoom (r : Room) : Type 0 where
  pub empty : r.name.items ≡ []
  pub fits : 64 ≤ vec_capacity r.name

-- one more row under the parent comes in without taking memory
pub record RoomIsFree (stored : Stored) (index : Index) (r : Room) : Type 0 where
  pub parent : path_below r.parent stored.rows ≡ Some r.path
  pub parts : IsRoom r
  pub row : IsTrue stored.has_room
  pub key : IndexHasRoom index

abbrev pub IfRoom : Stored → Index → Option Room → Type 0
IfRoom stored index None = Unit {0}
IfRoom stored index (Some r) = RoomIsFree stored index r

abbrev pub parent_in : Option Room → Option (List ℕ)
parent_in None = None
parent_in (Some r) = Some r.parent

pub record IsNicklistKept (stored : Stored) (index : Index) (room : Option Room) : Type 0 where
  pub held : IsRows stored.rows
  pub indexed : IndexesRows stored index
  pub prepared : IfRoom stored index room
