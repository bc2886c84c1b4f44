-- The texts of a message that keeps the rules are UTF-8.
use Rattle.std.proofs.Common.{◌≡◌, ℕ, Bool, true, false, ◌&&◌, Option, Some, None, List, [], ◌∷◌, length, map, cond, refl, sym, ap, ◌∙◌, subst, arith}
use Rattle.std.specs.Prelude.{◌==◌}
use Rattle.std.specs.Option.{option_and_then}
use Rattle.std.specs.Str.{IsUtf8, is_utf8}
use Rattle.std.specs.List.{list_all}
use Rattle.std.proofs.lemmas.Bool.{true≢false, and_parts, eqb-true}
use Rattle.std.proofs.lemmas.Str.{IsUtf8-from_is_utf8}
use Rattle.wc_nicklist.specs.declared.item.Item.{Item}
use Rattle.wc_nicklist.specs.Rows.{TextsAreUtf8}
use Rattle.wc_nickdiff.specs.Apply.{AreUtf8}
use Rattle.wc_nickdiff.specs.declared.diff_item.Mark.{Mark}
use Rattle.wc_objects.specs.declared.kind.Kind.{Kind}
use Rattle.wc_objects.specs.declared.object.Object.{Object, out-Object}
use Rattle.wc_objects.specs.declared.object.Object.TheOpen.{Object-F}
use Rattle.wc_objects.specs.declared.object.Hda.{Hda, out-Hda}
use Rattle.wc_objects.specs.declared.object.HdaItem.{HdaItem, out-HdaItem}
use Rattle.wc_objects.specs.Forms.{names_of, kinds_of, object_layer_is, value_layer_is, value_is, values_are, values_of, item_of, hda_parts_are, hda_is, object_is, well_formed}
use Rattle.wc_objects.specs.Kinds.{Layer}
use Rattle.wc_events.specs.NickObjects.{nick_path, nick_keys, diff_keys}
use Rattle.wc_view.specs.declared.nick_rows.NickTexts.{NickTexts}
use Rattle.wc_view.specs.declared.nick_rows.NickRow.{NickRow}
use Rattle.wc_view.specs.declared.nick_rows.NickChange.{NickChange}
use Rattle.wc_view.specs.Each.{onto, each}
use Rattle.wc_view.specs.Items.{items_layer, items_on, last_pointer}
use Rattle.wc_view.specs.NickRows.{first_pointer, nick_marks_in, nick_texts_in, nick_with, nick_of, nick_row, nick_row_in, nick_rows_on, mark_in, nick_change, change_of, nick_change_in, nick_changes_on}
use Rattle.wc_view.specs.Values.{text_layer, text_in}
use Rattle.wc_view.proofs.NickGroups.{RowsAreUtf8}

-- a value that is a text is UTF-8
abbrev pub IsWell : Object → Type 0
IsWell v = (t : List ℕ) → text_in v ≡ Some t → IsUtf8 t

abbrev AreWell : List Object → Type 0
AreWell [] = Unit {0}
AreWell (v ∷ vs) = IsWell v × AreWell vs

abbrev ItemsAreWell : List HdaItem → Type 0
ItemsAreWell [] = Unit {0}
ItemsAreWell (item ∷ items) = AreWell (out-HdaItem item).values × ItemsAreWell items

layer_well : (kind : Kind) (layer : Layer) → value_layer_is kind layer ≡ true → (t : List ℕ) → text_layer layer ≡ Some t → IsUtf8 t
layer_well kind (Object-F.Str None) e t h = absurd cc
layer_well kind (Object-F.Str (Some x)) e t h =
    let same : x ≡ t = cc in
    IsUtf8-from_is_utf8 t (ap is_utf8 (sym same) ∙ (and_parts _ _ e).1)
layer_well kind _ e t h = absurd (let z : None ≡ Some t = h in cc)

value_well : (kind : Kind) (v : Object) → value_is kind v ≡ true → IsWell v
unfolding value_is
value_well kind v e t h = layer_well kind (out-Object v) e t h

values_well : (kinds : List Kind) (vs : List Object) → values_are kinds vs ≡ true → AreWell vs
values_well [] [] e = tt
values_well (k ∷ ks) (v ∷ vs) e = let p = and_parts _ _ e in (value_well k v p.0, values_well ks vs p.1)
values_well [] (v ∷ vs) e = absurd (true≢false (sym e))
values_well (k ∷ ks) [] e = absurd (true≢false (sym e))

values_of_well : (kinds : Option (List Kind)) (vs : List Object) → values_of kinds vs ≡ true → AreWell vs
values_of_well None vs e = absurd (true≢false (sym e))
values_of_well (Some kinds) vs e = values_well kinds vs e

items_well : (depth : ℕ) (kinds : Option (List Kind)) (items : List HdaItem) → list_all (λ item. item_of depth kinds item) items ≡ true → ItemsAreWell items
unfolding item_of
items_well depth kinds [] e = tt
items_well depth kinds (item ∷ items) e =
    let p = and_parts _ _ e in
    (values_of_well kinds (out-HdaItem item).values (and_parts _ _ p.0).1, items_well depth kinds items p.1)

no_items : (items : List HdaItem) → length items == 0 ≡ true → ItemsAreWell items
no_items [] e = tt
no_items (item ∷ items) e = absurd (let z : length (item ∷ items) ≡ 0 = eqb-true _ _ e in omega (arith, z))

parts_well : (path keys : Option (List ℕ)) (items : List HdaItem) → hda_parts_are path keys items ≡ true → ItemsAreWell items
parts_well None None items e = no_items items e
parts_well (Some path) (Some keys) items e = items_well (length (names_of path)) (kinds_of keys) items (and_parts _ _ e).1
parts_well None (Some keys) items e = absurd (true≢false (sym e))
parts_well (Some path) None items e = absurd (true≢false (sym e))

hda_well : (h : Hda) → hda_is h ≡ true → ItemsAreWell (out-Hda h).items
unfolding hda_is
hda_well h e = parts_well (out-Hda h).path (out-Hda h).keys (out-Hda h).items e

if_some : {A : Type 0} (b : Bool) (x y : A) → cond b (Some x) None ≡ Some y → x ≡ y
if_some true x y e = cc
if_some false x y e = absurd cc

layer_on : (path keys : List ℕ) (layer : Layer) (items : List HdaItem) → object_layer_is layer ≡ true → items_layer path keys layer ≡ Some items → ItemsAreWell items
layer_on path keys (Object-F.Hda h) items w e = subst ItemsAreWell (if_some _ (out-Hda h).items items e) (hda_well h w)
layer_on path keys _ items w e = absurd (let z : None ≡ Some items = e in cc)

on_well : (path keys : List ℕ) (objects : List Object) (items : List HdaItem) → well_formed objects ≡ true → items_on path keys objects ≡ Some items → ItemsAreWell items
unfolding items_on well_formed object_is
on_well path keys [] items w e = absurd cc
on_well path keys (o ∷ []) items w e = layer_on path keys (out-Object o) items (and_parts _ _ w).0 e
on_well path keys (o ∷ p ∷ os) items w e = absurd cc

and_then_some : {A B : Type 0} (f : A → Option B) (o : Option A) (y : B) → option_and_then f o ≡ Some y → (x : A) × (o ≡ Some x) × (f x ≡ Some y)
and_then_some f None y e = absurd cc
and_then_some f (Some x) y e = (x, refl, e)

texts_well : (n c p q : Object) (texts : NickTexts) → IsWell n → IsWell c → IsWell p → IsWell q → nick_texts_in n c p q ≡ Some texts
    → IsUtf8 texts.name × IsUtf8 texts.color × IsUtf8 texts.prefix × IsUtf8 texts.prefix_color
unfolding nick_texts_in
texts_well n c p q texts wn wc wp wq e =
    let a = and_then_some _ (text_in n) texts e in
    let b = and_then_some _ (text_in c) texts a.2 in
    let d = and_then_some _ (text_in p) texts b.2 in
    let f = and_then_some _ (text_in q) texts d.2 in
    let whole : Some (record { name = a.0; color = b.0; prefix = d.0; prefix_color = f.0 }) ≡ Some texts = f.2 in
    let same : record { name = a.0; color = b.0; prefix = d.0; prefix_color = f.0 } ≡ texts = cc in (
      subst IsUtf8 (ap (λ (t : NickTexts). t.name) same) (wn a.0 a.1),
      subst IsUtf8 (ap (λ (t : NickTexts). t.color) same) (wc b.0 b.1),
      subst IsUtf8 (ap (λ (t : NickTexts). t.prefix) same) (wp d.0 d.1),
      subst IsUtf8 (ap (λ (t : NickTexts). t.prefix_color) same) (wq f.0 f.1),
    )

nick_well : (handle : Option ℕ) (values : List Object) (i : Item) → AreWell values → nick_of handle values ≡ Some i → TextsAreUtf8 i
nick_well handle (g ∷ v ∷ l ∷ n ∷ c ∷ p ∷ q ∷ []) i w e =
    let a = and_then_some _ handle i e in
    let b = and_then_some _ (nick_marks_in g v l) i a.2 in
    let d = and_then_some _ (nick_texts_in n c p q) i b.2 in
    let t = texts_well n c p q d.0 w.1.1.1.0 w.1.1.1.1.0 w.1.1.1.1.1.0 w.1.1.1.1.1.1.0 d.1 in
    let whole : Some (nick_with a.0 b.0 d.0) ≡ Some i = d.2 in
    let same : nick_with a.0 b.0 d.0 ≡ i = cc in
    subst TextsAreUtf8 same (record { name = t.0; color = t.1; prefix = t.2; prefix_color = t.3 })
nick_well handle _ i w e = absurd (let z : None ≡ Some i = e in cc)

row_of : (buffer : Option ℕ) (o : Option Item) (row : NickRow) → nick_row buffer o ≡ Some row → o ≡ Some row.item
row_of (Some b) (Some i) row e = let same : record { buffer = b; item = i } ≡ row = cc in ap (λ (r : NickRow). Some r.item) same
row_of (Some b) None row e = absurd cc
row_of None o row e = absurd cc

row_well : (item : HdaItem) (row : NickRow) → AreWell (out-HdaItem item).values → nick_row_in item ≡ Some row → TextsAreUtf8 row.item
unfolding nick_row_in
row_well item row w e = nick_well (last_pointer item) (out-HdaItem item).values row.item w (row_of (first_pointer item) _ row e)

onto_some : {B : Type 0} (o : Option B) (p : Option (List B)) (ys : List B) → onto o p ≡ Some ys → (y : B) × (zs : List B) × (o ≡ Some y) × (p ≡ Some zs) × (y ∷ zs ≡ ys)
onto_some (Some y) (Some zs) ys e = (y, zs, refl, refl, cc)
onto_some (Some y) None ys e = absurd cc
onto_some None p ys e = absurd cc

rows_well : (items : List HdaItem) (rows : List NickRow) → ItemsAreWell items → each nick_row_in items ≡ Some rows → RowsAreUtf8 rows
rows_well [] rows w e = let same : [] ≡ rows = cc in subst RowsAreUtf8 same tt
rows_well (item ∷ items) rows w e =
    let o = onto_some (nick_row_in item) (each nick_row_in items) rows e in
    subst RowsAreUtf8 o.4 (row_well item o.0 w.0 o.2, rows_well items o.1 w.1 o.3)

pub rows_utf8 : (objects : List Object) (rows : List NickRow) → well_formed objects ≡ true → nick_rows_on objects ≡ Some rows → RowsAreUtf8 rows
rows_utf8 objects rows w e =
    let o = and_then_some (each nick_row_in) (items_on nick_path nick_keys objects) rows e in
    rows_well o.0 rows (on_well nick_path nick_keys objects o.0 w o.1) o.2

-- ---- diffs
abbrev pub ChangesAreUtf8 : List NickChange → Type 0
ChangesAreUtf8 [] = Unit {0}
ChangesAreUtf8 (change ∷ changes) = TextsAreUtf8 change.diff.item × ChangesAreUtf8 changes

change_is : (buffer : Option ℕ) (mark : Option Mark) (o : Option Item) (change : NickChange) → nick_change buffer mark o ≡ Some change → o ≡ Some change.diff.item
change_is (Some b) (Some m) (Some i) change e =
    let same : record { buffer = b; diff = record { mark = m; item = i } } ≡ change = cc in ap (λ (z : NickChange). Some z.diff.item) same
change_is (Some b) (Some m) None change e = absurd cc
change_is (Some b) None o change e = absurd cc
change_is None m o change e = absurd cc

values_change_well : (buffer handle : Option ℕ) (values : List Object) (change : NickChange) → AreWell values → change_of buffer handle values ≡ Some change → TextsAreUtf8 change.diff.item
values_change_well buffer handle [] change w e = absurd cc
values_change_well buffer handle (mark ∷ values) change w e = nick_well handle values change.diff.item w.1 (change_is buffer (mark_in mark) _ change e)

change_well : (item : HdaItem) (change : NickChange) → AreWell (out-HdaItem item).values → nick_change_in item ≡ Some change → TextsAreUtf8 change.diff.item
unfolding nick_change_in
change_well item change w e = values_change_well (first_pointer item) (last_pointer item) (out-HdaItem item).values change w e

changes_well : (items : List HdaItem) (changes : List NickChange) → ItemsAreWell items → each nick_change_in items ≡ Some changes → ChangesAreUtf8 changes
changes_well [] changes w e = let same : [] ≡ changes = cc in subst ChangesAreUtf8 same tt
changes_well (item ∷ items) changes w e =
    let o = onto_some (nick_change_in item) (each nick_change_in items) changes e in
    subst ChangesAreUtf8 o.4 (change_well item o.0 w.0 o.2, changes_well items o.1 w.1 o.3)

diffs_well : (changes : List NickChange) → ChangesAreUtf8 changes → AreUtf8 (map (λ (change : NickChange). change.diff) changes)
diffs_well [] h = tt
diffs_well (change ∷ changes) h = (h.0, diffs_well changes h.1)

pub changes_utf8 : (objects : List Object) (changes : List NickChange) → well_formed objects ≡ true → nick_changes_on objects ≡ Some changes → AreUtf8 (map (λ (change : NickChange). change.diff) changes)
changes_utf8 objects changes w e =
    let o = and_then_some (each nick_change_in) (items_on nick_path diff_keys objects) changes e in
    diffs_well changes (changes_well o.0 changes (on_well nick_path diff_keys objects o.0 w o.1) o.2)
