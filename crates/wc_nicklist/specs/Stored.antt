-- The rows as they are stored, and where an address belongs in them.
use Rattle.std.specs.Prelude.{◌≡◌, ℕ, suc, ◌≤◌, ◌<◌, ◌⊎◌, Bool, true, false, Option, Some}
use Rattle.std.specs.Prelude.{None, List, [], ◌∷◌, ◌++◌, length, take, drop, slice_get}
use Rattle.std.specs.Prelude.{slice_index_or, slice_set, nat_lt}
use Rattle.std.specs.declared.alloc.Global.{Global}
use Rattle.std.specs.declared.boxed.Box.{Box}
use Rattle.slab.specs.Slab.{get, slab_len}
use Rattle.wc_nicklist.specs.declared.store.Entry.{Entry}
use Rattle.wc_nicklist.specs.declared.item.Key.{Key}
use Rattle.wc_nicklist.specs.declared.item.Row.{Row}
use Rattle.wc_nicklist.specs.declared.store.Store.{Store}
use Rattle.wc_nicklist.specs.Digest.{IsPathDigest}
use Rattle.wc_nicklist.specs.Order.{is_before}
use Rattle.wc_nicklist.specs.Rows.{path_eq}

-- the row under a number
abbrev pub row_in : Option (Box Row Global) → Option Row
row_in None = None
row_in (Some b) = Some b.value

abbrev pub row_at : Store → ℕ → Option Row
row_at s n = row_in (get s.rows n)

-- one more row comes in without taking memory
abbrev pub store_has_room : Store → Bool
store_has_room s = nat_lt (slab_len s.rows) s.rows.capacity

-- the row of an entry, and a row of no name where there is none under its number
abbrev pub no_row : Row
no_row = record {
  path = [];
  item = record {
    handle = record { 0 = 0 };
    is_group = false;
    visible = false;
    level = 0;
    name = [];
    color = [];
    prefix = [];
    prefix_color = [];
  };
}

abbrev pub row_or : Option Row → Row
row_or None = no_row
row_or (Some r) = r

abbrev pub entry_row : Store → Entry → Row
entry_row s e = row_or (row_at s e.id.0)

-- the row under the entry's number is there, and has the entry's digest
pub record EntryLeads (s : Store) (e : Entry) : Type 0 where
  pub row : Row
  pub found : row_at s e.id.0 ≡ Some row
  pub digest : IsPathDigest e.digest row.path row.item.is_group row.item.name

abbrev pub AllEntriesLead : Store → List Entry → Type 0
AllEntriesLead s [] = Unit {0}
AllEntriesLead s (e ∷ es) = EntryLeads s e × AllEntriesLead s es

-- one of these entries has this number
abbrev pub IdIn : ℕ → List Entry → Type 0
IdIn n [] = ⊥
IdIn n (e ∷ es) = (e.id.0 ≡ n) ⊎ IdIn n es

-- the rows in their order, where they lie, and whether one more comes in without taking memory
pub record Stored : Type 0 where
  pub rows : List Row
  pub store : Store
  pub has_room : Bool

abbrev pub AllBefore : List Row → List Key → Type 0
AllBefore [] a = Unit {0}
AllBefore (x ∷ xs) a = (is_before x a ≡ true) × AllBefore xs a

-- the first of these rows, if there is one, is not before the address
abbrev pub FirstNotBefore : List Row → List Key → Type 0
FirstNotBefore [] a = Unit {0}
FirstNotBefore (x ∷ xs) a = is_before x a ≡ false

-- n rows are before the address, and no other does
pub record IsRowPlace (rows : List Row) (a : List Key) (n : ℕ) : Type 0 where
  pub within : n ≤ length rows
  pub left : AllBefore (take n rows) a
  pub right : FirstNotBefore (drop n rows) a

-- whether the first of these rows is right below this path
abbrev pub begins_below : List (List ℕ) → List Row → Bool
begins_below path [] = false
begins_below path (x ∷ xs) = path_eq x.path path

-- Lists that are split at a place.
pub record IsSplitAt {A : Type 0} (xs : List A) (n : ℕ) (x : A) (rest : List A) : Type 0 where
  pub within : n < length xs
  pub value : (d : A) → slice_index_or xs n d ≡ x
  pub got : slice_get xs n ≡ Some x
  pub following : drop (suc n) xs ≡ rest
  pub whole : xs ≡ take n xs ++ x ∷ rest
  pub written : (y : A) → slice_set xs n y ≡ take n xs ++ y ∷ rest
