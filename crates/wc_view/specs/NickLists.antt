-- A nicklist that is read row by row.
use Rattle.std.specs.Prelude.{◌≡◌, ℕ, ◌-◌, ◌<◌, ◌≤◌, length, Bool, true, false, Result}
use Rattle.std.specs.Prelude.{Ok, Err, List, [], ◌∷◌}
use Rattle.std.specs.Prelude.{◌++◌, take, Option, Some, None, option_map, if◌then◌else◌}
use Rattle.std.specs.List.{slice_get}
use Rattle.std.specs.Ordering.{is_lt}
use Rattle.wc_text.specs.Order.{fold_order}
use Rattle.wc_nicklist.specs.declared.item.Item.{Item}
use Rattle.wc_nicklist.specs.declared.item.Row.{Row}
use Rattle.wc_nicklist.specs.declared.refused.NickRefused.{NickRefused}
use Rattle.wc_nicklist.specs.declared.refused.NickRefused.TheVariants.{NoMemory}
use Rattle.wc_nicklist.specs.Rows.{below, TextsAreUtf8}
use Rattle.wc_view.specs.declared.nick_list.Listing.{Listing}
use Rattle.wc_nickdiff.specs.PushLaw.{rows_from}
use Rattle.wc_view.specs.NickFold.{are_rows, rows_if}

abbrev pub last_from : Option Row → List Row → Option Row
last_from d [] = d
last_from d (x ∷ xs) = last_from (Some x) xs

abbrev pub last_row : List Row → Option Row
last_row rows = last_from None rows

-- the path of a nick that comes after this row
abbrev pub path_after : Option Row → List (List ℕ)
path_after None = []
path_after (Some r) = if r.item.is_group then below r else r.path

-- the name of a row that is a nick
abbrev pub nick_name : Option Row → Option (List ℕ)
nick_name None = None
nick_name (Some r) = if r.item.is_group then None else Some r.item.name

-- the row of an item that comes after these
abbrev pub next_row : List Row → Item → Row
next_row rows i = record {
  path = if i.is_group then take (i.level - 1) (path_after (last_row rows))
      else path_after (last_row rows);
  item = i;
}

-- whether a name comes after that of the row before it at its place, where there is one
abbrev pub comes_after : Option (List ℕ) → List ℕ → Bool
comes_after None name = true
comes_after (Some other) name = is_lt (fold_order other name)

-- rows that a nicklist can hold, and where the next one comes
pub record IsListing (l : Listing) : Type 0 where
  pub rows : are_rows l.list.rows ≡ true
  pub path : l.path.items ≡ path_after (last_row l.list.rows)
  pub nick : l.nick ≡ nick_name (last_row l.list.rows)

-- where a group can come next by its level and its name: below this many names of the path
pub record IsDepth (l : Listing) (i : Item) (depth : ℕ) : Type 0 where
  pub level : depth ≡ i.level - 1
  pub some : 0 < i.level
  pub deep : i.level - 1 ≤ length l.path.items
  pub after : comes_after (slice_get l.path.items (i.level - 1)) i.name ≡ true

abbrev pub ItemsAreUtf8 : List Item → Type 0
ItemsAreUtf8 [] = Unit {0}
ItemsAreUtf8 (i ∷ is) = TextsAreUtf8 i × ItemsAreUtf8 is

-- the rows of the items after a root
abbrev pub rows_after : List Item → Option (List Row)
rows_after items = rows_if (are_rows (rows_from [] items)) (rows_from [] items)

-- a row that was taken, or one that was refused for another cause than want of memory
abbrev pub Took : {A : Type 0} → Result A NickRefused → Bool → Type 0
Took (Ok x) taken = taken ≡ true
Took (Err e) taken = (taken ≡ false) × (e ≡ NoMemory → ⊥)
