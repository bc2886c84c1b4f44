-- What is told of nicklists keeps the rules of messages.
use Rattle.std.proofs.Common.{◌≡◌, ℕ, true, ◌&&◌, List, [], ◌∷◌, ◌++◌, map, Option, Some, None, refl, sym, ap, ◌∙◌}
use Rattle.std.specs.List.{AllByRecursion}
use Rattle.std.specs.Str.{IsUtf8, is_utf8, chars}
use Rattle.std.proofs.lemmas.Str.{IsUtf8-from_is_utf8}
use Rattle.std.proofs.lemmas.List.Folds.{list_all-append}
use lib.Utf8.{encode}
use Rattle.wc_text.specs.declared.names.Handle.{Handle}
use Rattle.wc_nicklist.specs.declared.item.Item.{Item}
use Rattle.wc_nicklist.specs.declared.item.Key.{Key}
use Rattle.wc_nicklist.specs.declared.item.Row.{Row}
use Rattle.wc_nicklist.specs.Order.{key}
use Rattle.wc_nicklist.specs.Rows.{key_eq, find_row, root_name, Keyed, IsRows, TextsAreUtf8}
use Rattle.wc_nicklist.proofs.OrderLaws.{key_eq-true, key_eq-same, by_bool}
use Rattle.wc_nickdiff.specs.declared.diff_item.DiffItem.{DiffItem}
use Rattle.wc_nickdiff.specs.Apply.{AreUtf8}
use Rattle.wc_nickdiff.specs.NickPush.{full_list, root_item}
use Rattle.wc_buffers.specs.declared.row.BufferEntry.{BufferEntry}
use Rattle.wc_buffers.specs.Calls.{entry_of}
use Rattle.wc_model.specs.World.{World, rows_at, root_at}
use Rattle.wc_objects.specs.declared.object.Object.TheVariants as o
use Rattle.wc_objects.specs.declared.object.Object.TheViews.{out-roll-Object, out-roll-Hda}
use Rattle.wc_objects.specs.declared.object.Hda.{roll-Hda}
use Rattle.wc_objects.specs.declared.object.HdaItem.{HdaItem}
use Rattle.wc_objects.specs.Forms.{values_are, item_of, hda_is, object_is, well_formed}
use Rattle.wc_keys.specs.declared.key.KeyList.TheVariants as l
use Rattle.wc_keys.proofs.ListTexts.{list_is_text, list_names_kinds, nick_path_is_text}
use Rattle.wc_events.specs.Dumps.{if_there}
use Rattle.wc_events.specs.NickObjects.{nick_path, nick_keys, diff_keys, nick_values, nick_item, diff_item, root_and_rows}
use Rattle.wc_events.specs.NickForms.{on_nick_path, all_nicks, nick_group, nick_kinds, diff_kinds, are_nicks, are_diffs}
use Rattle.wc_events.proofs.Formed.{int_formed, chr_formed, str_formed}

-- ---- paths and keys

pub nicks_formed : (items : List HdaItem) → are_nicks items ≡ true → well_formed (on_nick_path nick_keys items) ≡ true
unfolding well_formed object_is hda_is
nicks_formed items each =
    rw (← o.rolls-Hda (roll-Hda (record { path = Some nick_path; keys = Some nick_keys; items = items })), out-roll-Object, out-roll-Hda, nick_path_is_text, list_is_text l.Nicks, list_names_kinds l.Nicks, each) refl

diffs_formed : (items : List HdaItem) → are_diffs items ≡ true → well_formed (on_nick_path diff_keys items) ≡ true
unfolding well_formed object_is hda_is
diffs_formed items each =
    rw (← o.rolls-Hda (roll-Hda (record { path = Some nick_path; keys = Some diff_keys; items = items })), out-roll-Object, out-roll-Hda, nick_path_is_text, list_is_text l.Diff, list_names_kinds l.Diff, each) refl

-- ---- items

values_formed : (i : Item) → TextsAreUtf8 i → values_are nick_kinds (nick_values i) ≡ true
unfolding nick_values
values_formed i h =
    rw (chr_formed, chr_formed, int_formed, str_formed i.name h.name, str_formed i.color h.color, str_formed i.prefix h.prefix, str_formed i.prefix_color h.prefix_color) refl

nick_item_formed : (buffer : Handle) (i : Item) → TextsAreUtf8 i → item_of 2 (Some nick_kinds) (nick_item buffer i) ≡ true
unfolding item_of
nick_item_formed buffer i h = values_formed i h

diff_item_formed : (buffer : Handle) (d : DiffItem) → TextsAreUtf8 d.item → item_of 2 (Some diff_kinds) (diff_item buffer d) ≡ true
unfolding item_of
diff_item_formed buffer d h = rw (chr_formed, values_formed d.item h) refl

each_nick : (buffer : Handle) (items : List Item) → AllByRecursion TextsAreUtf8 items → are_nicks (map (nick_item buffer) items) ≡ true
each_nick buffer [] h = refl
each_nick buffer (i ∷ items) h = rw (nick_item_formed buffer i h.0) (each_nick buffer items h.1)

each_diff : (buffer : Handle) (ds : List DiffItem) → AreUtf8 ds → are_diffs (map (diff_item buffer) ds) ≡ true
each_diff buffer [] h = refl
each_diff buffer (d ∷ ds) h = rw (diff_item_formed buffer d h.0) (each_diff buffer ds h.1)

-- ---- pushes

pub diff_formed : (buffer : Handle) (ds : List DiffItem) → AreUtf8 ds → well_formed (on_nick_path diff_keys (map (diff_item buffer) ds)) ≡ true
diff_formed buffer ds h = diffs_formed _ (each_diff buffer ds h)

pub full_formed : (buffer : Handle) (items : List Item) → AllByRecursion TextsAreUtf8 items → well_formed (on_nick_path nick_keys (map (nick_item buffer) items)) ≡ true
full_formed buffer items h = nicks_formed _ (each_nick buffer items h)

-- ---- lists

-- what holds of each row that is found holds of all
each_found : (P : Row → Type 0) (rows : List Row) → Keyed rows → ((q : Key) (r : Row) → find_row q rows ≡ Some r → P r) → AllByRecursion P rows
each_found P [] keyed h = tt
each_found P (x ∷ xs) keyed h = (
  h (key x) x (rw (key_eq-same (key x)) refl),
  each_found P xs keyed.1 (λ q r e. by_bool (key_eq (key x) q) _
      (λ t. absurd (let none : find_row q xs ≡ None = ap (λ p. find_row p xs) (sym (key_eq-true _ _ t)) ∙ keyed.0 in let no : None ≡ Some r = sym none ∙ e in cc))
      (λ t. h q r (rw t e))),
)

pub texts_of_rows : (rows : List Row) → IsRows rows → AllByRecursion (λ r. TextsAreUtf8 r.item) rows
texts_of_rows rows are = each_found (λ r. TextsAreUtf8 r.item) rows are.keyed (λ q r e. (are.held q r e).utf8)

texts_of_items : (rows : List Row) → AllByRecursion (λ r. TextsAreUtf8 r.item) rows → AllByRecursion TextsAreUtf8 (map (λ (r : Row). r.item) rows)
texts_of_items [] h = tt
texts_of_items (r ∷ rows) h = (h.0, texts_of_items rows h.1)

root_is_text : is_utf8 root_name ≡ true
unfolding is_utf8 chars encode
root_is_text = refl

root_text : IsUtf8 root_name
root_text = IsUtf8-from_is_utf8 root_name root_is_text

empty_is_text : is_utf8 [] ≡ true
unfolding is_utf8 chars encode
empty_is_text = refl

empty_text : IsUtf8 []
empty_text = IsUtf8-from_is_utf8 [] empty_is_text

pub texts_of_root : (root : Handle) → TextsAreUtf8 (root_item root)
texts_of_root root = record { name = root_text; color = empty_text; prefix = empty_text; prefix_color = empty_text }

pub texts_of_full : (root : Handle) (rows : List Row) → IsRows rows → AllByRecursion TextsAreUtf8 (full_list (root_item root) rows)
texts_of_full root rows are = (texts_of_root root, texts_of_items rows (texts_of_rows rows are))

-- items after items
pub list_formed : (items : List HdaItem) (buffer root : Handle) (rows : List Row) → IsRows rows → are_nicks items ≡ true
    → are_nicks (items ++ map (nick_item buffer) (full_list (root_item root) rows)) ≡ true
list_formed items buffer root rows held are =
    let more : List HdaItem = map (nick_item buffer) (full_list (root_item root) rows) in
    let formed : are_nicks more ≡ true = each_nick buffer (full_list (root_item root) rows) (texts_of_full root rows held) in
    list_all-append (λ item. item_of 2 (Some nick_kinds) item) items more ∙ (λ i. are i && formed i)

both_nicks : (xs ys : List HdaItem) → are_nicks xs ≡ true → are_nicks ys ≡ true → are_nicks (xs ++ ys) ≡ true
both_nicks xs ys p q = list_all-append (λ item. item_of 2 (Some nick_kinds) item) xs ys ∙ (λ i. p i && q i)

-- the items of each buffer keep the rules
module _ (world : World) (held : (b : ℕ) → IsRows (rows_at world b)) where
  there_formed : (e : Option BufferEntry) → are_nicks (if_there (root_and_rows world) e) ≡ true
  there_formed None = refl
  there_formed (Some e) =
      each_nick e.row.handle (full_list (root_item (root_at e.row.handle.0)) (rows_at world e.row.handle.0)) (texts_of_full (root_at e.row.handle.0) (rows_at world e.row.handle.0) (held e.row.handle.0))

  group_formed : (group : List Handle) → are_nicks (nick_group world group) ≡ true
  group_formed [] = refl
  group_formed (h ∷ group) = both_nicks (if_there (root_and_rows world) (entry_of h world.groups)) (nick_group world group) (there_formed (entry_of h world.groups)) (group_formed group)

  pub all_formed : (groups : List (List Handle)) → are_nicks (all_nicks world groups) ≡ true
  all_formed [] = refl
  all_formed (group ∷ groups) = both_nicks (nick_group world group) (all_nicks world groups) (group_formed group) (all_formed groups)

-- the nicklist of one buffer
pub one_formed : (buffer root : Handle) (rows : List Row) → IsRows rows → well_formed (on_nick_path nick_keys (map (nick_item buffer) (full_list (root_item root) rows))) ≡ true
one_formed buffer root rows held = nicks_formed _ (each_nick buffer (full_list (root_item root) rows) (texts_of_full root rows held))
