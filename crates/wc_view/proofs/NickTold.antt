-- What is told of groups and nicks is read as it was told.
use Rattle.std.proofs.Common.{◌≡◌, ℕ, ◌^◌, ◌-◌, ◌≤◌, cond, List, [], ◌∷◌, map, Some, refl, ap, ◌∙◌, le-leb}
use Rattle.std.specs.Prelude.{nat_le}
use Rattle.std.specs.List.{AllByRecursion}
use Rattle.std.specs.Option.{option_and_then}
use denote.Hole.Carrier.{out}
use Rattle.wc_text.specs.declared.names.Handle.{Handle}
use Rattle.wc_nicklist.specs.declared.item.Item.{Item}
use Rattle.wc_nickdiff.specs.declared.diff_item.DiffItem.{DiffItem}
use Rattle.wc_nickdiff.specs.declared.diff_item.Mark.{Mark}
use Rattle.wc_nickdiff.specs.declared.diff_item.Mark.TheVariants.{Parent, Added, Removed, Changed}
use Rattle.wc_objects.specs.declared.object.Object.TheVariants as o
use Rattle.wc_objects.specs.declared.object.Object.TheViews.{out-Object}
use Rattle.wc_events.specs.LineObjects.{truth}
use Rattle.wc_events.specs.BufferObjects.{count, text}
use Rattle.wc_events.specs.NickObjects.{nick_path, nick_keys, diff_keys, nick_values, nick_item, mark_code, diff_item, nick_objects, diff_objects}
use Rattle.wc_view.specs.declared.nick_rows.NickRow.{NickRow}
use Rattle.wc_view.specs.declared.nick_rows.NickChange.{NickChange}
use Rattle.wc_view.specs.Each.{each}
use Rattle.wc_view.specs.Values.{number_in}
use Rattle.wc_view.specs.NickRows.{nick_marks_in, nick_texts_in, nick_of, nick_row, nick_row_in, nick_rows_on, mark_in, nick_change_in, nick_changes_on}
use Rattle.wc_view.proofs.LineTold.{truth_told, number_told, text_told, items_told}

-- a level is told by a number of the protocol
abbrev pub IsFew : Item → Type 0
IsFew i = i.level ≤ 2 ^ 31 - 1

abbrev pub AreFew : List Item → Type 0
AreFew items = AllByRecursion IsFew items

count_told : (n : ℕ) → n ≤ 2 ^ 31 - 1 → number_in (o.Int (count n)) ≡ Some n
count_told n few = number_told (cond (nat_le n (2 ^ 31 - 1)) n (2 ^ 31 - 1)) ∙ ap (λ b. Some (cond b n (2 ^ 31 - 1))) (le-leb n (2 ^ 31 - 1) few)

marks_told : (i : Item) → IsFew i
    → nick_marks_in (o.Chr (truth i.is_group)) (o.Chr (truth i.visible)) (o.Int (count i.level)) ≡ Some (record { is_group = i.is_group; visible = i.visible; level = i.level })
unfolding nick_marks_in
marks_told i few = rw (truth_told i.is_group, truth_told i.visible, count_told i.level few) refl

texts_told : (i : Item)
    → nick_texts_in (text i.name) (text i.color) (text i.prefix) (text i.prefix_color) ≡ Some (record { name = i.name; color = i.color; prefix = i.prefix; prefix_color = i.prefix_color })
unfolding nick_texts_in
texts_told i = rw (text_told i.name, text_told i.color, text_told i.prefix, text_told i.prefix_color) refl

item_told : (i : Item) → IsFew i → nick_of (Some i.handle.0) (nick_values i) ≡ Some i
unfolding nick_values
item_told i few = rw (marks_told i few, texts_told i) refl

-- ---- lists
abbrev pub row_at : Handle → Item → NickRow
row_at buffer i = record { buffer = buffer.0; item = i }

pub row_told : (buffer : Handle) (i : Item) → IsFew i → nick_row_in (nick_item buffer i) ≡ Some (row_at buffer i)
unfolding nick_row_in
row_told buffer i few = ap (nick_row (Some buffer.0)) (item_told i few)

each_row_told : (buffer : Handle) (items : List Item) → AreFew items → each nick_row_in (map (nick_item buffer) items) ≡ Some (map (row_at buffer) items)
each_row_told buffer [] few = refl
each_row_told buffer (i ∷ items) few = rw (row_told buffer i few.0, each_row_told buffer items few.1) refl

pub rows_told : (buffer : Handle) (items : List Item) → AreFew items → nick_rows_on (nick_objects (map (nick_item buffer) items)) ≡ Some (map (row_at buffer) items)
rows_told buffer items few =
    ap (option_and_then (each nick_row_in)) (items_told nick_path nick_keys (map (nick_item buffer) items) refl refl) ∙ each_row_told buffer items few

-- ---- diffs
mark_told : (mark : Mark) → mark_in (o.Chr (mark_code mark)) ≡ Some mark
unfolding out-Object out
mark_told Parent = refl
mark_told Added = refl
mark_told Removed = refl
mark_told Changed = refl

abbrev pub AreFewChanges : List DiffItem → Type 0
AreFewChanges ds = AllByRecursion (λ (d : DiffItem). IsFew d.item) ds

abbrev pub change_at : Handle → DiffItem → NickChange
change_at buffer d = record { buffer = buffer.0; diff = d }

change_told : (buffer : Handle) (d : DiffItem) → IsFew d.item → nick_change_in (diff_item buffer d) ≡ Some (change_at buffer d)
unfolding nick_change_in
change_told buffer d few = rw (mark_told d.mark, item_told d.item few) refl

each_change_told : (buffer : Handle) (ds : List DiffItem) → AreFewChanges ds → each nick_change_in (map (diff_item buffer) ds) ≡ Some (map (change_at buffer) ds)
each_change_told buffer [] few = refl
each_change_told buffer (d ∷ ds) few = rw (change_told buffer d few.0, each_change_told buffer ds few.1) refl

pub changes_told : (buffer : Handle) (ds : List DiffItem) → AreFewChanges ds → nick_changes_on (diff_objects (map (diff_item buffer) ds)) ≡ Some (map (change_at buffer) ds)
changes_told buffer ds few =
    ap (option_and_then (each nick_change_in)) (items_told nick_path diff_keys (map (diff_item buffer) ds) refl refl) ∙ each_change_told buffer ds few
