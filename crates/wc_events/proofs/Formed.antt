-- What is told of lines keeps the rules of messages.
use Rattle.std.proofs.Common.{◌≡◌, ℕ, ℤ, true, List, [], ◌∷◌, length, Some, refl, All}
use Rattle.std.specs.List.{list_all, AllByRecursion}
use Rattle.std.specs.Str.{IsUtf8, is_utf8}
use Rattle.std.proofs.lemmas.Str.{is_utf8-from_IsUtf8}
use Rattle.std.proofs.lemmas.List.Elements.{recursion_from_All}
use denote.Hole.Carrier.{out}
use Rattle.wc_text.specs.declared.names.Handle.{Handle}
use Rattle.wc_lines.specs.declared.line.Line.{Line}
use Rattle.wc_lines.specs.LineText.{HasUtf8Texts}
use Rattle.wc_objects.specs.declared.kind.Kind.TheVariants as k
use Rattle.wc_objects.specs.declared.object.Object.TheVariants as o
use Rattle.wc_objects.specs.declared.object.Object.TheViews.{out-Object, out-roll-Object, out-roll-Hda}
use Rattle.wc_objects.specs.declared.object.HdaItem.{HdaItem}
use Rattle.wc_objects.specs.Forms.{simple_is, value_is, values_are, item_of, hda_is, object_is, well_formed, is_path, names_of, hda_parts_are}
use Rattle.wc_keys.specs.declared.key.KeyList.TheVariants as l
use Rattle.wc_keys.specs.Events.{line_path}
use Rattle.wc_keys.proofs.ListTexts.{list_is_text, list_names_kinds, line_path_is_text}
use Rattle.wc_events.specs.LineObjects.{line_keys, texts, line_values, added_item, added_objects, on_path}
use Rattle.wc_events.specs.Dumps.{line_kinds}

pub ptr_formed : (n : ℕ) → value_is k.Ptr (o.Ptr n) ≡ true
unfolding value_is simple_is out-Object out
ptr_formed n = refl

pub int_formed : (n : ℤ) → value_is k.Int (o.Int n) ≡ true
unfolding value_is simple_is out-Object out
int_formed n = refl

tim_formed : (n : ℤ) → value_is k.Tim (o.Tim n) ≡ true
unfolding value_is simple_is out-Object out
tim_formed n = refl

pub chr_formed : (n : ℤ) → value_is k.Chr (o.Chr n) ≡ true
unfolding value_is simple_is out-Object out
chr_formed n = refl

pub str_formed : (text : List ℕ) → IsUtf8 text → value_is k.Str (o.Str (Some text)) ≡ true
unfolding value_is simple_is out-Object out
str_formed text h = is_utf8-from_IsUtf8 text h

tags_simple : (tags : List (List ℕ)) → AllByRecursion IsUtf8 tags → list_all (λ value. simple_is k.Str value) (texts tags) ≡ true
unfolding simple_is out-Object out
tags_simple [] _ = refl
tags_simple (tag ∷ tags) h = rw (is_utf8-from_IsUtf8 tag h.0) (tags_simple tags h.1)

tags_formed : (tags : List (List ℕ)) → All IsUtf8 tags → value_is k.Arr (o.Arr k.Str (texts tags)) ≡ true
unfolding value_is
tags_formed tags h = rw (← o.rolls-Arr k.Str (texts tags), out-roll-Object) (tags_simple tags (recursion_from_All IsUtf8 tags h))

values_formed : (buffer : Handle) (line : Line) → HasUtf8Texts line → values_are line_kinds (line_values buffer line) ≡ true
unfolding line_values
values_formed buffer line h = rw (ptr_formed, int_formed, tim_formed, int_formed, tim_formed, int_formed, chr_formed, chr_formed, chr_formed, tags_formed line.tags h.tags, str_formed line.prefix h.prefix, str_formed line.message h.message) refl

hda_parts : (path : List ℕ) (items : List HdaItem) → hda_is (on_path path items) ≡ hda_parts_are (Some path) (Some line_keys) items
unfolding hda_is
hda_parts path items = rw out-roll-Hda refl

items_formed : (path : List ℕ) (items : List HdaItem) → is_utf8 path ≡ true → is_path path ≡ true
    → list_all (λ item. item_of (length (names_of path)) (Some line_kinds) item) items ≡ true → well_formed (o.Hda (on_path path items) ∷ []) ≡ true
unfolding well_formed object_is
items_formed path items text named each =
    rw (← o.rolls-Hda (on_path path items), out-roll-Object, hda_parts, text, named, list_is_text l.LineData, list_names_kinds l.LineData, each) refl

added_item_formed : (buffer : Handle) (line : Line) → HasUtf8Texts line → item_of 1 (Some line_kinds) (added_item buffer line) ≡ true
unfolding item_of added_item
added_item_formed buffer line h = values_formed buffer line h

pub added_formed : (buffer : Handle) (line : Line) → HasUtf8Texts line → well_formed (added_objects buffer line) ≡ true
added_formed buffer line h =
    items_formed line_path (added_item buffer line ∷ []) line_path_is_text refl (rw (added_item_formed buffer line h) refl)
