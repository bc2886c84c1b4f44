-- Completions and the hotlist keep the rules of messages.
use Rattle.std.proofs.Common.{◌≡◌, ℕ, true, List, [], ◌∷◌, Some, map, refl}
use Rattle.std.specs.List.{AllByRecursion, list_all}
use Rattle.std.specs.Str.{IsUtf8, is_utf8, chars}
use Rattle.std.proofs.lemmas.Bool.{and_parts, and_from}
use Rattle.std.proofs.lemmas.Str.{IsUtf8-from_is_utf8}
use Rattle.std.proofs.lemmas.List.Elements.{All-from_recursion}
use lib.Utf8.{encode}
use denote.Hole.Carrier.{out}
use Rattle.wc_hotlist.specs.declared.row.HotRow.{HotRow}
use Rattle.wc_complete.specs.declared.completion.Completion.{Completion}
use Rattle.wc_complete.specs.declared.completion.Context.{Context}
use Rattle.wc_complete.specs.declared.completion.Context.TheVariants as contexts
use Rattle.wc_complete.specs.Completed.{context_name}
use Rattle.wc_objects.specs.declared.kind.Kind.TheVariants as kind
use Rattle.wc_objects.specs.declared.object.Object.TheVariants as o
use Rattle.wc_objects.specs.declared.object.Object.TheViews.{out-Object, out-roll-Object}
use Rattle.wc_objects.specs.Forms.{simple_is, value_is, values_are, item_of as item_is, well_formed}
use Rattle.wc_keys.specs.declared.key.KeyList.TheVariants as l
use Rattle.wc_keys.specs.Keys.{kind_of_key, keys_in, keys_text, list_text}
use Rattle.wc_hdata.proofs.FormLemmas.{keys_text_kinds, keys_text_is_utf8}
use Rattle.wc_hdata.proofs.WalkFormed.{IsValue, asked_are, values_fit, int_formed, ptr_formed, str_formed, tags_formed, parts_fit, hda_fits}
use Rattle.wc_session.specs.Completions.{completion_path, completion_values, told_completion}
use Rattle.wc_session.specs.Hotlists.{hotlist_path, hotlist_object, hotlist_objects, int_of, row_value, row_values, row_item, keys_of_rows}

-- ---- the hotlist

ints_simple : (numbers : List ℕ) → list_all (λ value. simple_is kind.Int value) (map int_of numbers) ≡ true
unfolding simple_is out-Object out
ints_simple [] = refl
ints_simple (number ∷ numbers) = ints_simple numbers

counts_formed : (numbers : List ℕ) → value_is kind.Arr (o.Arr kind.Int (map int_of numbers)) ≡ true
unfolding value_is
counts_formed numbers = rw (← o.rolls-Arr kind.Int (map int_of numbers), out-roll-Object) (ints_simple numbers)

row_fits : (row : HotRow) → AllByRecursion (λ key. IsValue key (row_value row key)) (keys_in l.Hotlist)
row_fits row = (int_formed _, (ptr_formed row.buffer.0, (counts_formed row.counts, tt)))

rows_fit : (asked : List ℕ) (rows : List HotRow) → list_all (λ item. item_is 1 (Some (map kind_of_key (keys_of_rows asked))) item) (map (row_item (keys_of_rows asked)) rows) ≡ true
rows_fit asked [] = refl
rows_fit asked (row ∷ rows) =
    let keys = keys_of_rows asked in
    and_from (item_is 1 (Some (map kind_of_key keys)) (row_item keys row)) _
    (parts_fit (row.buffer.0 ∷ []) (row_values keys row) 1 (map kind_of_key keys) refl
    (values_fit (row_value row) keys (asked_are (λ key. IsValue key (row_value row key)) l.Hotlist asked (row_fits row))))
    (rows_fit asked rows)

path_text : is_utf8 hotlist_path ≡ true
unfolding is_utf8 chars encode
path_text = refl

pub hotlist_formed : (rows : List HotRow) (asked : List ℕ) → well_formed (hotlist_objects rows asked) ≡ true
unfolding hotlist_object
hotlist_formed rows asked =
    let keys = keys_of_rows asked in
    hda_fits hotlist_path (keys_text keys) (map (row_item keys) rows) 1 (map kind_of_key keys) path_text refl
    (keys_text_is_utf8 keys) (keys_text_kinds keys) refl (rows_fit asked rows)

-- ---- completions

name_text : (context : Context) → is_utf8 (context_name context) ≡ true
unfolding is_utf8 chars encode
name_text contexts.Command = refl
name_text contexts.Auto = refl

name_path : is_utf8 completion_path ≡ true
unfolding is_utf8 chars encode
name_path = refl

all_texts : (list : List (List ℕ)) → list_all is_utf8 list ≡ true → AllByRecursion IsUtf8 list
all_texts [] e = tt
all_texts (text ∷ list) e =
    let both = and_parts (is_utf8 text) (list_all is_utf8 list) e in
    (IsUtf8-from_is_utf8 text both.0, all_texts list both.1)

values_formed : (c : Completion) → IsUtf8 c.base_word → list_all is_utf8 c.list ≡ true → values_are (map kind_of_key (keys_in l.Completion)) (completion_values c) ≡ true
values_formed c word list =
    rw (
      str_formed (context_name c.context) (IsUtf8-from_is_utf8 (context_name c.context) (name_text c.context)),
      str_formed c.base_word word,
      int_formed _,
      int_formed _,
      tags_formed c.list (All-from_recursion IsUtf8 c.list (all_texts c.list list)),
    ) refl

pub completion_formed : (c : Completion) → IsUtf8 c.base_word → list_all is_utf8 c.list ≡ true → well_formed (told_completion c ∷ []) ≡ true
unfolding keys_text
completion_formed c word list =
    let keys = keys_in l.Completion in
    let kinds = map kind_of_key keys in
    let item = parts_fit (0 ∷ []) (completion_values c) 1 kinds refl (values_formed c word list) in
    hda_fits completion_path (list_text l.Completion) _ 1 kinds name_path refl
    (keys_text_is_utf8 keys) (keys_text_kinds keys) refl (and_from _ true item refl)
