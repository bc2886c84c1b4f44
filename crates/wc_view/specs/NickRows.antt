-- The groups and nicks that a message tells.
use Rattle.std.specs.Prelude.{ℕ, ℤ, pos, List, [], ◌∷◌, Option, Some, None, option_map}
use Rattle.std.specs.Prelude.{if◌then◌else◌}
use Rattle.std.specs.List.{slice_get}
use Rattle.std.specs.Option.{option_and_then}
use Rattle.std.specs.Ordering.{int_eq}
use Rattle.wc_nicklist.specs.declared.item.Item.{Item}
use Rattle.wc_nickdiff.specs.declared.diff_item.Mark.{Mark}
use Rattle.wc_nickdiff.specs.declared.diff_item.Mark.TheVariants.{Parent, Added, Removed, Changed}
use Rattle.wc_objects.specs.declared.object.Object.{Object}
use Rattle.wc_objects.specs.declared.object.HdaItem.{HdaItem, out-HdaItem}
use Rattle.wc_keys.specs.declared.key.KeyList.TheVariants as l
use Rattle.wc_keys.specs.Keys.{list_text}
use Rattle.wc_keys.specs.Events.{nick_path}
use Rattle.wc_view.specs.declared.nick_rows.NickMarks.{NickMarks}
use Rattle.wc_view.specs.declared.nick_rows.NickTexts.{NickTexts}
use Rattle.wc_view.specs.declared.nick_rows.NickRow.{NickRow}
use Rattle.wc_view.specs.declared.nick_rows.NickChange.{NickChange}
use Rattle.wc_view.specs.Each.{each}
use Rattle.wc_view.specs.Items.{items_on, last_pointer}
use Rattle.wc_view.specs.Values.{number_in, level_in, truth_in, text_in}

-- the first pointer of an item, which names the buffer
abbrev pub first_pointer : HdaItem → Option ℕ
first_pointer item = slice_get (out-HdaItem item).pointers 0

unfoldable pub nick_marks_in : Object → Object → Object → Option NickMarks
nick_marks_in group visible level =
    option_and_then (λ group. option_and_then (λ visible. option_and_then (λ level.
    Some (record { is_group = group; visible = visible; level = level }))
    (number_in level)) (truth_in visible)) (truth_in group)

unfoldable pub nick_texts_in : Object → Object → Object → Object → Option NickTexts
nick_texts_in name color prefix prefix_color =
    option_and_then (λ name. option_and_then
    (λ color. option_and_then (λ prefix. option_and_then (λ prefix_color.
    Some (record { name = name; color = color; prefix = prefix; prefix_color = prefix_color }))
    (text_in prefix_color)) (text_in prefix)) (text_in color)) (text_in name)

abbrev pub nick_with : ℕ → NickMarks → NickTexts → Item
nick_with handle marks texts = record {
  handle = record { 0 = handle };
  is_group = marks.is_group;
  visible = marks.visible;
  level = marks.level;
  name = texts.name;
  color = texts.color;
  prefix = texts.prefix;
  prefix_color = texts.prefix_color;
}

-- a group or a nick by its pointer and the values in the order of the keys
abbrev pub nick_of : Option ℕ → List Object → Option Item
nick_of handle (group ∷ visible ∷ level ∷ name ∷ color ∷ prefix ∷ prefix_color ∷ []) =
    option_and_then (λ handle. option_and_then
    (λ marks. option_and_then (λ texts. Some (nick_with handle marks texts))
    (nick_texts_in name color prefix prefix_color)) (nick_marks_in group visible level)) handle
nick_of handle _ = None

abbrev pub nick_row : Option ℕ → Option Item → Option NickRow
nick_row (Some buffer) (Some item) = Some (record { buffer = buffer; item = item })
nick_row _ _ = None

unfoldable pub nick_row_in : HdaItem → Option NickRow
nick_row_in item = nick_row (first_pointer item)
    (nick_of (last_pointer item) (out-HdaItem item).values)

-- the groups and nicks of a message of one hda with the keys of a nicklist, each of whose items
-- says one
abbrev pub nick_rows_on : List Object → Option (List NickRow)
nick_rows_on objects = option_and_then (each nick_row_in) (items_on nick_path (list_text l.Nicks) objects)

-- ---- diffs

-- `^`, `+`, `-` or `*`
abbrev pub mark_of : ℤ → Option Mark
mark_of n =
    if int_eq n (pos 94) then Some Parent else (
    if int_eq n (pos 43) then Some Added else (
    if int_eq n (pos 45) then Some Removed else (
    if int_eq n (pos 42) then Some Changed else None)))

abbrev pub mark_in : Object → Option Mark
mark_in value = option_and_then mark_of (level_in value)

abbrev pub nick_change : Option ℕ → Option Mark → Option Item → Option NickChange
nick_change (Some buffer) (Some mark) (Some item) =
    Some (record { buffer = buffer; diff = record { mark = mark; item = item } })
nick_change _ _ _ = None

abbrev pub change_of : Option ℕ → Option ℕ → List Object → Option NickChange
change_of buffer handle [] = None
change_of buffer handle (mark ∷ values) = nick_change buffer (mark_in mark) (nick_of handle values)

unfoldable pub nick_change_in : HdaItem → Option NickChange
nick_change_in item = change_of (first_pointer item) (last_pointer item) (out-HdaItem item).values

-- the same of a diff
abbrev pub nick_changes_on : List Object → Option (List NickChange)
nick_changes_on objects = option_and_then (each nick_change_in)
    (items_on nick_path (list_text l.Diff) objects)
