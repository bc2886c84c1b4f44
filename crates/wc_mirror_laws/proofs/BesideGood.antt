-- Replies of the hotlist and of completions can be spelled.
use Rattle.std.proofs.Common.{◌≡◌, ℕ, ◌<◌, ◌^◌, ℤ, ◌&&◌, Bool, true, false, cond, List, [], ◌∷◌, map, Option, Some, None, refl, sym, ap, arith}
use Rattle.std.specs.Prelude.{nat_le, length}
use Rattle.std.specs.List.{AllByRecursion, filter_map, cons_option, list_all}
use Rattle.std.specs.Str.{IsUtf8, is_utf8}
use Rattle.std.proofs.lemmas.Option.{same_Some}
use Rattle.wc_text.specs.declared.names.Handle.{Handle}
use Rattle.wc_buffers.specs.Calls.{is_there}
use Rattle.wc_model.specs.World.{World, rows_at}
use Rattle.wc_hotlist.specs.declared.row.HotRow.{HotRow}
use Rattle.wc_complete.specs.declared.completion.Completion.{Completion}
use Rattle.wc_complete.specs.BaseWord.{front_at, last_word}
use Rattle.wc_complete.specs.Completed.{completion_at, completion_of, is_position, longest}
use Rattle.wc_complete.proofs.TextLaws.{base_is_text}
use Rattle.wc_objects.specs.declared.kind.Kind.TheVariants as kind
use Rattle.wc_objects.specs.declared.object.Object.{Object}
use Rattle.wc_objects.specs.declared.object.Object.TheVariants as o
use Rattle.wc_objects.specs.declared.object.Object.TheViews.{out-Object, out-roll-Object, out-roll-Hda}
use Rattle.wc_objects.specs.declared.object.Hda.{roll-Hda}
use Rattle.wc_objects.specs.Within.{SimpleWithin, ValueWithin, ItemWithin, HdaWithin, ObjectWithin}
use Rattle.wc_keys.specs.declared.key.Key.{Key}
use Rattle.wc_keys.specs.declared.key.KeyList.TheVariants as l
use Rattle.wc_keys.specs.Keys.{keys_in, keys_text, list_text}
use Rattle.wc_events.specs.LineObjects.{count}
use Rattle.wc_hdata.proofs.ValuesWithin.{count_within, value_int, value_ptr, value_str, value_texts}
use Rattle.wc_hdata.proofs.WalkFormed.{asked_are}
use Rattle.wc_session.specs.Completions.{completion_path, completion_values, told_completion, completion_or_null, completion_in, completion_objects}
use Rattle.wc_session.specs.Hotlists.{hotlist_path, hotlist_object, hotlist_objects, int_of, row_value, row_item, keys_of_rows}
use Rattle.wc_session.specs.Names.{buffer_named}
use Rattle.wc_session.specs.Sending.{null_hdata}
use Rattle.wc_session.proofs.Formed.{null_formed}
use Rattle.wc_session.proofs.RepliesFormed.{hotlist_formed, completion_formed}
use Rattle.wc_mirror_laws.specs.Kept.{AreSmall}
use Rattle.wc_mirror_laws.proofs.TellingLemmas.{AreGood}
use Rattle.wc_mirror_laws.proofs.WithinLemmas.{hda_within, item_within, items_within}
use denote.Hole.Carrier.{out}

null_within : HdaWithin (roll-Hda (record { path = None; keys = None; items = [] }))
unfolding HdaWithin
null_within = rw out-roll-Hda tt

pub null_good : AreGood null_hdata
null_good = record { formed = null_formed; within = (hda_within (roll-Hda (record { path = None; keys = None; items = [] })) null_within, tt) }

-- ---- the hotlist

simple_count : (number : ℕ) → SimpleWithin (int_of number)
unfolding SimpleWithin out-Object out
simple_count number = count_within number

ints_within : (numbers : List ℕ) → AllByRecursion SimpleWithin (map int_of numbers)
ints_within [] = tt
ints_within (number ∷ numbers) = (simple_count number, ints_within numbers)

counts_within : (numbers : List ℕ) → ValueWithin (o.Arr kind.Int (map int_of numbers))
unfolding ValueWithin
counts_within numbers = rw (← o.rolls-Arr kind.Int (map int_of numbers), out-roll-Object) (ints_within numbers)

abbrev IsWithinIf : Option Object → Type 0
IsWithinIf None = Unit {0}
IsWithinIf (Some value) = ValueWithin value

mapped_within : (f : Key → Option Object) (keys : List Key) → AllByRecursion (λ key. IsWithinIf (f key)) keys → AllByRecursion ValueWithin (filter_map f keys)
mapped_within f [] all = tt
mapped_within f (key ∷ keys) all = by (f key) all.0 (mapped_within f keys all.1) where
  by : (value : Option Object) → IsWithinIf value → AllByRecursion ValueWithin (filter_map f keys) → AllByRecursion ValueWithin (cons_option value (filter_map f keys))
  by None fits others = others
  by (Some value) fits others = (fits, others)

row_within : (row : HotRow) → row.buffer.0 < 2 ^ 64 → AllByRecursion (λ key. IsWithinIf (row_value row key)) (keys_in l.Hotlist)
row_within row small = (value_int (count row.priority) (count_within row.priority), (value_ptr row.buffer.0 small, (counts_within row.counts, tt)))

rows_within : (asked : List ℕ) (rows : List HotRow) → AreSmall rows → AllByRecursion ItemWithin (map (row_item (keys_of_rows asked)) rows)
rows_within asked [] small = tt
rows_within asked (row ∷ rows) small = (
  item_within row.buffer.0 _ small.0 (mapped_within (row_value row) (keys_of_rows asked) (asked_are (λ key. IsWithinIf (row_value row key)) l.Hotlist asked (row_within row small.0))),
  rows_within asked rows small.1,
)

pub hotlist_good : (rows : List HotRow) (asked : List ℕ) → AreSmall rows → AreGood (hotlist_objects rows asked)
unfolding hotlist_object
hotlist_good rows asked small = record {
  formed = hotlist_formed rows asked;
  within = items_within hotlist_path (keys_text (keys_of_rows asked)) (map (row_item (keys_of_rows asked)) rows) (rows_within asked rows small);
}

-- ---- completions

told_within : (c : Completion) → AllByRecursion ObjectWithin (told_completion c ∷ [])
told_within c =
    items_within completion_path (list_text l.Completion) _
    (item_within 0 (completion_values c) (omega arith) (value_str _, (value_str c.base_word, (value_int _ (count_within c.pos_start), (value_int _ (count_within c.pos_end), (value_texts c.list, tt))))), tt)

word_is : (world : World) (commands : List (List ℕ)) (buffer : Handle) (position : ℤ) (typed : List ℕ) (c : Completion) → completion_at world commands buffer position typed ≡ Some c
    → c.base_word ≡ last_word (front_at position typed)
unfolding completion_at completion_of
word_is world commands buffer position typed c = by (is_there buffer world.groups && is_position position && nat_le (length typed) longest) where
  by : (b : Bool) → cond b (Some (completion_of commands (rows_at world buffer.0) (front_at position typed))) None ≡ Some c → c.base_word ≡ last_word (front_at position typed)
  by true e = sym (ap (λ (x : Completion). x.base_word) (same_Some _ c e))
  by false e = absurd (let given = e in cc)

pub completion_good : (world : World) (commands : List (List ℕ)) (buffer : List ℕ) (position : ℤ) (typed : List ℕ) → IsUtf8 typed → AreGood (completion_objects world commands buffer position typed)
unfolding completion_objects
completion_good world commands buffer position typed text = by (buffer_named world.groups buffer) where
  pick : (c : Completion) (b : Bool) → list_all is_utf8 c.list ≡ b → IsUtf8 c.base_word → AreGood (cond b (told_completion c ∷ []) null_hdata)
  pick c true e word = record { formed = completion_formed c word e; within = told_within c }
  pick c false e word = null_good

  found : (h : Handle) (completion : Option Completion) → completion_at world commands h position typed ≡ completion → AreGood (completion_or_null completion)
  found h None e = null_good
  found h (Some c) e = pick c (list_all is_utf8 c.list) refl (base_is_text position typed c.base_word (word_is world commands h position typed c e) text)

  by : (o : Option Handle) → AreGood (completion_or_null (completion_in world commands o position typed))
  by None = null_good
  by (Some h) = found h (completion_at world commands h position typed) refl
