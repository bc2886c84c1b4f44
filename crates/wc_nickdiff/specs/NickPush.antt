-- What is pushed of a nicklist: the comparison of the rows that were told with the rows now, key by
-- key.
use Rattle.std.specs.Prelude.{ℕ, ◌+◌, Bool, true, false, not, ◌&&◌, ◌==◌, nat_lt, Option, Some}
use Rattle.std.specs.Prelude.{None, List, [], ◌∷◌, ◌++◌, map, filter, reverse, length}
use Rattle.std.specs.Prelude.{if◌then◌else◌, bytes_eq}
use Rattle.wc_text.specs.declared.names.Handle.{Handle}
use Rattle.wc_nicklist.specs.declared.item.Item.{Item}
use Rattle.wc_nicklist.specs.declared.item.Key.{Key}
use Rattle.wc_nicklist.specs.declared.item.Row.{Row}
use Rattle.wc_nicklist.specs.Order.{key, group_key}
use Rattle.wc_nicklist.specs.Rows.{bool_eq, path_eq, find_row, root_name, is_root, parent_of}
use Rattle.wc_nickdiff.specs.declared.diff_item.DiffItem.{DiffItem}
use Rattle.wc_nickdiff.specs.declared.diff_item.Mark.{Mark}
use Rattle.wc_nickdiff.specs.declared.diff_item.Mark.TheVariants.{Parent, Added, Removed, Changed}
use Rattle.wc_nickdiff.specs.declared.diff_item.Push.{Push}
use Rattle.wc_nickdiff.specs.declared.diff_item.Push.TheVariants.{Nothing, Diff, Full}

unfoldable pub item_eq : Item → Item → Bool
item_eq a b =
    (a.handle.0 == b.handle.0) && bool_eq a.is_group b.is_group && bool_eq a.visible b.visible
    && (a.level == b.level)
    && bytes_eq a.name b.name && bytes_eq a.color b.color && bytes_eq a.prefix b.prefix
    && bytes_eq a.prefix_color b.prefix_color

-- whether the row of a key, as it was told, is now under the same groups, and has got other fields
abbrev pub stays : Option Row → Option Row → Bool
stays None now = false
stays (Some r) None = false
stays (Some r) (Some s) = path_eq r.path s.path

abbrev pub differs : Option Row → Option Row → Bool
differs None now = false
differs (Some r) None = false
differs (Some r) (Some s) = not (item_eq r.item s.item)

abbrev pub change_list : Option Row → Option Row → Bool
change_list told now = stays told now && differs told now

abbrev pub is_group : Row → Bool
is_group r = r.item.is_group

abbrev pub is_nick : Row → Bool
is_nick r = not r.item.is_group

-- the rows that are out, those that are in, and those that are changed, each in their own order
abbrev pub outs : List Row → List Row → List Row
outs told now = filter (λ r. not (stays (Some r) (find_row (key r) now))) told

abbrev pub ins : List Row → List Row → List Row
ins told now = filter (λ r. not (stays (find_row (key r) told) (Some r))) now

abbrev pub changed_rows : List Row → List Row → List Row
changed_rows told now = filter (λ r. change_list (find_row (key r) told) (Some r)) now

-- The root's item, which is in no row.
abbrev pub root_item : Handle → Item
root_item root = record {
  handle = root;
  is_group = true;
  visible = false;
  level = 0;
  name = root_name;
  color = [];
  prefix = [];
  prefix_color = [];
}

abbrev pub item_or : Item → Option Row → Item
item_or d None = d
item_or d (Some r) = r.item

-- the item of the group of a name, by what is under each key
abbrev pub group_item : Item → (Key → Option Row) → List ℕ → Item
group_item root found name = if is_root name then root else item_or root (found (group_key name))

-- an item of the diff, with the name and the item of its parent
pub record Op : Type 0 where
  pub mark : Mark
  pub under : List ℕ
  pub parent : Item
  pub item : Item

abbrev pub op : Mark → Item → (Key → Option Row) → Row → Op
op mark root found r = record {
  mark = mark;
  under = parent_of r;
  parent = group_item root found (parent_of r);
  item = r.item;
}

-- the parent of an out is as it was told, and that of another as it is now
abbrev pub ops : Item → List Row → List Row → List Op
ops root told now =
    map (op Removed root (λ k. find_row k told)) (filter is_nick (outs told now))
    ++ (map (op Removed root (λ k. find_row k told)) (reverse (filter is_group (outs told now)))
    ++ (map (op Added root (λ k. find_row k now)) (filter is_group (ins told now))
    ++ (map (op Added root (λ k. find_row k now)) (filter is_nick (ins told now))
    ++ map (op Changed root (λ k. find_row k now)) (changed_rows told now))))

abbrev pub same_name : Option (List ℕ) → List ℕ → Bool
same_name None name = false
same_name (Some p) name = bytes_eq p name

-- before an item whose parent's name differs from that of the item before is the parent
abbrev pub with_parents : Option (List ℕ) → List Op → List DiffItem
with_parents p [] = []
with_parents p (o ∷ os) =
    if same_name p o.under
    then record { mark = o.mark; item = o.item } ∷ with_parents p os
    else record { mark = Parent; item = o.parent } ∷ record { mark = o.mark; item = o.item } ∷
    with_parents (Some o.under) os

-- the parent that was named last
abbrev pub last_under : Option (List ℕ) → List Row → Option (List ℕ)
last_under p [] = p
last_under p (r ∷ rs) = last_under (Some (parent_of r)) rs

abbrev pub diff : Item → List Row → List Row → List DiffItem
diff root told now = with_parents None (ops root told now)

abbrev pub full_list : Item → List Row → List Item
full_list root rows = root ∷ map (λ r. r.item) rows

-- a diff is sent where it is shorter than the full list, in which the root counts
abbrev pub push_of : Item → List DiffItem → List Row → Push
push_of root [] now = Nothing
push_of root (d ∷ ds) now = if nat_lt (length (d ∷ ds)) (length now + 1) then Diff (d ∷ ds)
    else Full (full_list root now)

abbrev pub nick_push : Handle → List Row → List Row → Push
nick_push root told now = push_of (root_item root) (diff (root_item root) told now) now
