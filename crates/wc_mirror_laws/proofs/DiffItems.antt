-- What holds of the root and of the items of rows holds of each item of their diff.
use Rattle.std.proofs.Common.{◌≡◌, ℕ, ◌+◌, ◌≤◌, not, List, [], ◌∷◌, ◌++◌, map, filter, length, Option, Some, None, refl, ap, arith}
use Rattle.std.specs.Prelude.{reverse}
use Rattle.std.specs.List.{AllByRecursion}
use Rattle.std.proofs.lemmas.List.{length-append, length-map}
use Rattle.wc_text.specs.declared.names.Handle.{Handle}
use Rattle.wc_nicklist.specs.declared.item.Item.{Item}
use Rattle.wc_nicklist.specs.declared.item.Row.{Row}
use Rattle.wc_nicklist.specs.Order.{key, group_key}
use Rattle.wc_nicklist.specs.Rows.{find_row, is_root, parent_of}
use Rattle.wc_nicklist.proofs.OrderLaws.{by_bool}
use Rattle.wc_nickdiff.specs.declared.diff_item.DiffItem.{DiffItem}
use Rattle.wc_nickdiff.specs.declared.diff_item.Mark.{Mark}
use Rattle.wc_nickdiff.specs.declared.diff_item.Mark.TheVariants.{Removed, Added, Changed}
use Rattle.wc_nickdiff.specs.NickPush.{root_item, item_or, group_item, Op, op, ops, stays, change_list, is_group, is_nick, outs, ins, changed_rows, same_name, with_parents, diff, full_list}
use Rattle.wc_mirror_laws.proofs.ListLemmas.{all_append, all_filter, all_map, all_reverse}
use Rattle.wc_mirror_laws.proofs.NickRows.{found_has}

module _ (P : Item → Type 0) (root : Handle) (base : P (root_item root)) where
  -- it holds of the item of each row
  abbrev pub OfRows : List Row → Type 0
  OfRows rows = AllByRecursion (λ (r : Row). P r.item) rows

  abbrev OfOps : List Op → Type 0
  OfOps os = AllByRecursion (λ (o : Op). P o.parent × P o.item) os

  of_group : (rows : List Row) (name : List ℕ) → OfRows rows → P (group_item (root_item root) (λ k. find_row k rows) name)
  of_group rows name all = by_bool (is_root name) _ (λ t. rw t base) (λ t. rw t (by (find_row (group_key name) rows) refl))
    where
      by : (o : Option Row) → find_row (group_key name) rows ≡ o → P (item_or (root_item root) o)
      by None at = base
      by (Some r) at = found_has (λ (r : Row). P r.item) (group_key name) rows r at all

  of_ops : (mark : Mark) (all rows : List Row) → OfRows all → OfRows rows → OfOps (map (op mark (root_item root) (λ k. find_row k all)) rows)
  of_ops mark all [] each some = tt
  of_ops mark all (r ∷ rows) each some = ((of_group all (parent_of r) each, some.0), of_ops mark all rows each some.1)

  of_parents : (p : Option (List ℕ)) (os : List Op) → OfOps os → AllByRecursion (λ (d : DiffItem). P d.item) (with_parents p os)
  of_parents p [] each = tt
  of_parents p (o ∷ os) each = by_bool (same_name p o.under) _
      (λ t. rw t (each.0.1, of_parents p os each.1))
      (λ t. rw t (each.0.0, (each.0.1, of_parents (Some o.under) os each.1)))

  pub of_diff : (told now : List Row) → OfRows told → OfRows now → AllByRecursion (λ (d : DiffItem). P d.item) (diff (root_item root) told now)
  of_diff told now old new =
      let Q : Row → Type 0 = λ r. P r.item in
      let Ops : Op → Type 0 = λ o. P o.parent × P o.item in
      let away = all_filter Q (λ r. not (stays (Some r) (find_row (key r) now))) told old in
      let here = all_filter Q (λ r. not (stays (find_row (key r) told) (Some r))) now new in
      let differ = all_filter Q (λ r. change_list (find_row (key r) told) (Some r)) now new in
      of_parents None (ops (root_item root) told now)
      (all_append Ops _ _ (of_ops Removed told (filter is_nick (outs told now)) old (all_filter Q is_nick (outs told now) away))
      (all_append Ops _ _ (of_ops Removed told (reverse (filter is_group (outs told now))) old (all_reverse Q (filter is_group (outs told now)) (all_filter Q is_group (outs told now) away)))
      (all_append Ops _ _ (of_ops Added now (filter is_group (ins told now)) new (all_filter Q is_group (ins told now) here))
      (all_append Ops _ _ (of_ops Added now (filter is_nick (ins told now)) new (all_filter Q is_nick (ins told now) here))
      (of_ops Changed now (changed_rows told now) new differ)))))

  pub of_full : (rows : List Row) → OfRows rows → AllByRecursion P (full_list (root_item root) rows)
  of_full rows each = (base, all_map (λ (r : Row). P r.item) P (λ r. r.item) rows (λ r p. p) each)

-- ---- the diff of what was never told

parents_long : (p : Option (List ℕ)) (os : List Op) → length os ≤ length (with_parents p os)
parents_long p [] = omega arith
parents_long p (o ∷ os) = by_bool (same_name p o.under) _
    (λ t. rw t (omega (arith, parents_long p os)))
    (λ t. rw t (omega (arith, parents_long (Some o.under) os)))

-- the first item has its parent before it
first_parent : (os : List Op) → 1 ≤ length os → length os + 1 ≤ length (with_parents None os)
first_parent [] some = absurd (omega arith)
first_parent (o ∷ os) some = omega (arith, parents_long (Some o.under) os)

all_in : (now : List Row) → ins [] now ≡ now
all_in [] = refl
all_in (r ∷ now) = ap (λ rows. r ∷ rows) (all_in now)

none_changed : (now : List Row) → changed_rows [] now ≡ []
none_changed [] = refl
none_changed (r ∷ now) = none_changed now

parted : (rows : List Row) → length (filter is_group rows) + length (filter is_nick rows) ≡ length rows
parted [] = refl
parted (r ∷ rows) = by_bool r.item.is_group _
    (λ t. rw t (omega (arith, parted rows)))
    (λ t. rw t (omega (arith, parted rows)))

all_ops : (root : Item) (now : List Row) → length (ops root [] now) ≡ length now
all_ops root now =
    let add : Row → Op = op Added root (λ k. find_row k now) in
    let change : Row → Op = op Changed root (λ k. find_row k now) in
    let rest = map add (filter is_nick (ins [] now)) ++ map change (changed_rows [] now) in
    let came : length (ins [] now) ≡ length now = ap length (all_in now) in
    let none : length (changed_rows [] now) ≡ 0 = ap length (none_changed now) in
    omega (
      arith,
      came,
      none,
      parted (ins [] now),
      length-append (map add (filter is_group (ins [] now))) rest,
      length-append (map add (filter is_nick (ins [] now))) (map change (changed_rows [] now)),
      length-map (filter is_group (ins [] now)) add,
      length-map (filter is_nick (ins [] now)) add,
      length-map (changed_rows [] now) change,
    )

-- it has more items than rows, so the whole list is sent in its place
pub first_long : (root : Item) (now : List Row) → 1 ≤ length now → length now + 1 ≤ length (diff root [] now)
first_long root now some = omega (arith, all_ops root now, first_parent (ops root [] now) (omega (arith, some, all_ops root now)))
