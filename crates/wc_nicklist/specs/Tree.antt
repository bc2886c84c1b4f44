-- The rows as a tree of two levels: leaves of some entries each, one after the other.
use Rattle.std.specs.Prelude.{◌≡◌, ℕ, suc, ◌+◌, ◌<◌, ◌≤◌, slice_get, List, [], ◌∷◌}
use Rattle.std.specs.Prelude.{◌++◌, length, take, drop, map, vec_len, vec_capacity, Some}
use Rattle.std.specs.List.{flat_map}
use Rattle.std.specs.declared.alloc.Global.{Global}
use Rattle.std.specs.declared.vec.Vec.{Vec}
use Rattle.wc_nicklist.specs.declared.digest.Digest.{Digest}
use Rattle.wc_nicklist.specs.declared.store.Entry.{Entry}
use Rattle.wc_nicklist.specs.declared.item.Key.{Key}
use Rattle.wc_nicklist.specs.declared.item.Row.{Row}
use Rattle.wc_nicklist.specs.declared.store.Store.{Store}
use Rattle.wc_nicklist.specs.Rows.{find_row}
use Rattle.wc_nicklist.specs.Stored.{row_at, entry_row, AllEntriesLead, IdIn, AllBefore}
use Rattle.wc_nicklist.specs.Stored.{FirstNotBefore, IsSplitAt}

abbrev pub Leaf : Type 0
Leaf = Vec Entry Global

abbrev pub leaf_entries : Leaf → List Entry
leaf_entries l = l.items

abbrev pub leaf_rows : Store → Leaf → List Row
leaf_rows s l = map (entry_row s) l.items

-- the entries of all leaves, and their rows
abbrev pub entries_in : List Leaf → List Entry
entries_in leaves = flat_map leaf_entries leaves

abbrev pub rows_in : Store → List Leaf → List Row
rows_in s leaves = map (entry_row s) (entries_in leaves)

-- the digest is that of the last of these entries, if there is one
abbrev pub IsLastDigest : Digest → List Entry → Type 0
IsLastDigest d entries = (xs : List Entry) (e : Entry) → entries ≡ xs ++ e ∷ [] → d ≡ e.digest

-- a leaf has some entries, at most 64, and the memory for 64
pub record IsLeaf (l : Leaf) : Type 0 where
  pub filled : 0 < vec_len l
  pub fits : vec_len l ≤ 64
  pub roomy : 64 ≤ vec_capacity l

abbrev pub AreLeaves : List Leaf → Type 0
AreLeaves [] = Unit {0}
AreLeaves (l ∷ ls) = IsLeaf l × AreLeaves ls

-- each entry has a row in the store, and each row there an entry
pub record IsTree (s : Store) (leaves : List Leaf) (spare : Leaf) (count : ℕ) : Type 0 where
  pub are_leaves : AreLeaves leaves
  pub stand : AllEntriesLead s (entries_in leaves)
  pub spare_empty : spare.items ≡ []
  pub counted : count ≡ length (entries_in leaves)
  pub owned : (n : ℕ) (r : Row) → row_at s n ≡ Some r → IdIn n (entries_in leaves)

-- an address belongs into this leaf: the rows of the leaves before are before it, and where those
-- of this leaf do too, it is the last
pub record IsLeafPlace (s : Store) (leaves : List Leaf) (a : List Key) (c : ℕ) : Type 0 where
  pub leaf : Leaf
  pub split : IsSplitAt leaves c leaf (drop (suc c) leaves)
  pub left : AllBefore (rows_in s (take c leaves)) a
  pub right : AllBefore (leaf_rows s leaf) a → drop (suc c) leaves ≡ []

-- the row of this key is at this place of this leaf
pub record IsInTree (s : Store) (leaves : List Leaf) (c n : ℕ) (k : Key) : Type 0 where
  pub leaf : Leaf
  pub outer : IsSplitAt leaves c leaf (drop (suc c) leaves)
  pub entry : Entry
  pub found : find_row k (rows_in s leaves) ≡ Some (entry_row s entry)
  pub inner : IsSplitAt leaf.items n entry (drop (suc n) leaf.items)

-- an entry came in where its row belongs
pub record IsInserted (s : Store) (old new : List Entry) (e : Entry) (a : List Key) : Type 0 where
  pub front : List Entry
  pub back : List Entry
  pub was : old ≡ front ++ back
  pub is : new ≡ front ++ e ∷ back
  pub left : AllBefore (map (entry_row s) front) a
  pub right : FirstNotBefore (map (entry_row s) back) a

-- an entry went
pub record IsRemoved (old new : List Entry) (e : Entry) : Type 0 where
  pub front : List Entry
  pub back : List Entry
  pub was : old ≡ front ++ e ∷ back
  pub is : new ≡ front ++ back

-- the leaf there has all its rows
pub record IsFullAt (leaves : List Leaf) (c : ℕ) : Type 0 where
  pub leaf : Leaf
  pub split : IsSplitAt leaves c leaf (drop (suc c) leaves)
  pub full : vec_len leaf ≡ 64

-- the leaf of an address, which has room
pub record IsRoomyPlace (s : Store) (leaves : List Leaf) (a : List Key) (c : ℕ) : Type 0 where
  pub place : IsLeafPlace s leaves a c
  pub room : vec_len place.leaf < 64

-- the leaf there and the next one have few rows together
pub record AreFewAt (leaves : List Leaf) (c : ℕ) : Type 0 where
  pub leaf : Leaf
  pub next : Leaf
  pub got : slice_get leaves c ≡ Some leaf
  pub next_got : slice_get leaves (suc c) ≡ Some next
  pub few : vec_len leaf + vec_len next ≤ 32

-- leaves, of which that one may have no rows
pub record AreNearlyLeaves (leaves : List Leaf) (c : ℕ) : Type 0 where
  pub leaf : Leaf
  pub split : IsSplitAt leaves c leaf (drop (suc c) leaves)
  pub fits : vec_len leaf ≤ 64
  pub roomy : 64 ≤ vec_capacity leaf
  pub before : AreLeaves (take c leaves)
  pub following : AreLeaves (drop (suc c) leaves)
