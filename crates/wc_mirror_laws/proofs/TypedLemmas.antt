-- What is typed is text, and so is what it asks for.
use Rattle.std.proofs.Common.{◌≡◌, ℕ, ◌<◌, Bool, true, false, cond, List, [], ◌∷◌, ◌++◌, codes, take, drop, length, Option, Some, None, option_map, refl, sym, subst, eqb, ltb, eqb-true, append_assoc, append-nil, bytes_eq, IsUtf8, lit<}
use Rattle.std.specs.List.{AllByRecursion, slice_split, onto_first, before_first}
use Rattle.std.proofs.lemmas.Bool.Decides.{Decides-eqb}
use Rattle.std.proofs.lemmas.List.Elements.{All-nil, All-from_recursion}
use Rattle.std.proofs.lemmas.Slice.Eq.{starts_is}
use Rattle.std.proofs.lemmas.Str.{IsUtf8-nil, IsUtf8-append}
use Rattle.wc_text.specs.declared.names.Handle.{Handle}
use Rattle.wc_text.specs.declared.names.Pair.{Pair}
use Rattle.wc_text.specs.Words.{is_filled}
use Rattle.wc_buffers.specs.declared.row.BufferEntry.{BufferEntry}
use Rattle.wc_buffers.specs.Calls.{EntryGroups, handle_of, entry_of, buffer_of}
use Rattle.wc_buffers.specs.Entries.{IsText}
use Rattle.wc_buffers.specs.Groups.{rows}
use Rattle.wc_buffers.specs.Kept.{AreVars, IsBuffer}
use Rattle.wc_buffers.specs.Vars.{plugin_var, name_var}
use Rattle.wc_model.specs.declared.change.Change.{Change}
use Rattle.wc_model.specs.declared.change.What.{What}
use Rattle.wc_model.specs.declared.change.What.TheVariants as what
use Rattle.wc_model.specs.World.{World}
use Rattle.wc_text.specs.Splits.{onward, text_after, word_of, rest_of}
use Rattle.wc_relaycmd.proofs.Utf8Lemmas.{cut_text, put_byte, before_text, past_text}
use Rattle.wc_core.specs.Resolved.{Effect, Stays, Ends, Tells, Asks, SetsOption, UnsetsOption, SavesOptions, ChangesHotlist, ChangesFilters, switched, buffer_meant, of_meant, of_named, change_of, line_spec, plugin_in, effect_of}
use Rattle.wc_core.specs.Typed.{TypedCommand, Nothing, Quits, Refused, Others, Prints, Adds, Closes, Merges, Names, Changes, Sets, Unsets, Switches, Saves, UsesHotlist, UsesFilters, save_command, switch_command, input_command, hotlist_value, hotlist_command, news_command, set_option, set_command, unset_command, option_command, unknown_command, wrong_arguments, lines_parted, lines_of_text, print_unless_empty, print_words, tags_of, is_first, second_of, after_second, print_tagged, print_on, print_command, wrong_buffer, one_word, without_words, some_text, moves_to, close_command, starts, set_property, buffer_word, buffer_command, quit_command, close_here, wrong_filter, filter_with, add_filter, one_filter, switch_filters, filter_word, filter_command, help_with, help_on, help_command, command, slash_command, typed_line, Evaluates, eval_text, eval_printed, eval_command}
use Rattle.wc_core.specs.Forms.{without_slash, form_named}
use Rattle.wc_mirror_laws.specs.Worlds.{IsBufferKept, IsWorldKept}
use Rattle.wc_mirror_laws.proofs.ListLemmas.{all_filter}
use Rattle.wc_mirror_laws.proofs.RowLemmas.{row_has}
use Rattle.wc_mirror_laws.proofs.PrintLemmas.{level_fits}
use Rattle.wc_mirror_laws.specs.Changes.{IsAsked}
use Rattle.wc_core.specs.declared.typed_eval.EvalUse.{EvalUse}
use Rattle.wc_core.specs.declared.typed_filter.FilterChange.{FilterChange}
use Rattle.wc_core.specs.declared.typed_filter.FilterChange.TheVariants as filtering
use Rattle.wc_filters.specs.declared.switch.Switch.{Switch}
use Rattle.wc_filters.specs.declared.switch.Switch.TheVariants.{Enable, Disable, Toggle}
use Rattle.wc_core.specs.declared.typed_hotlist.HotlistUse.TheVariants as hotlist
use Rattle.wc_core.specs.declared.typed_eval.EvalUse.TheVariants as eval

-- ---- parts of a text

onward_text : (c : ℕ) (front text : List ℕ) → c < 128 → IsUtf8 (front ++ text) → IsUtf8 (onward c text)
onward_text c front [] ascii utf8 = IsUtf8-nil
onward_text c front (b ∷ text) ascii utf8 = by (eqb b c) refl (onward_text c (front ++ b ∷ []) text ascii (subst IsUtf8 (sym (append_assoc front (b ∷ []) text)) utf8)) where
  by : (t : Bool) → eqb b c ≡ t → IsUtf8 (onward c text) → IsUtf8 (cond t (b ∷ text) (onward c text))
  by true e more =
      let same : b ≡ c = eqb-true b c e in
      let small : b < 128 = subst (λ n. n < 128) (sym same) ascii in
      put_byte b text small (cut_text front b text small utf8).1
  by false e more = more

word_text : (text : List ℕ) → IsUtf8 text → IsUtf8 (word_of text)
word_text text utf8 = before_text 32 text (lit< tt) utf8

rest_text : (text : List ℕ) → IsUtf8 text → IsUtf8 (rest_of text)
rest_text text utf8 = past_text (onward 32 text) (onward_text 32 [] text (lit< tt) utf8)

-- the parts of a text that a byte parts, after what was before the text
abbrev after_front : List ℕ → List (List ℕ) → List (List ℕ)
after_front front [] = front ∷ []
after_front front (part ∷ parts) = (front ++ part) ∷ parts

split_text : (c : ℕ) (front text : List ℕ) → c < 128 → IsUtf8 (front ++ text) → AllByRecursion IsUtf8 (after_front front (slice_split (λ b. eqb b c) text))
split_text c front [] ascii utf8 = (utf8, tt)
split_text c front (b ∷ text) ascii utf8 =
    by (eqb b c) refl (λ u. split_text c [] text ascii u) (split_text c (front ++ b ∷ []) text ascii (subst IsUtf8 (sym (append_assoc front (b ∷ []) text)) utf8))
  where
    same_parts : (parts : List (List ℕ)) → AllByRecursion IsUtf8 (after_front [] parts) → AllByRecursion IsUtf8 parts
    same_parts [] all = tt
    same_parts (part ∷ parts) all = all

    moved : (parts : List (List ℕ)) → AllByRecursion IsUtf8 (after_front (front ++ b ∷ []) parts) → AllByRecursion IsUtf8 (after_front front (onto_first b parts))
    moved [] all = all
    moved (part ∷ parts) all = (subst IsUtf8 (append_assoc front (b ∷ []) part) all.0, all.1)

    by : (t : Bool) → eqb b c ≡ t → (IsUtf8 text → AllByRecursion IsUtf8 (after_front [] (slice_split (λ b. eqb b c) text))) → AllByRecursion IsUtf8 (after_front (front ++ b ∷ []) (slice_split (λ b. eqb b c) text))
        → AllByRecursion IsUtf8 (after_front front (cond t ([] ∷ slice_split (λ b. eqb b c) text) (onto_first b (slice_split (λ b. eqb b c) text))))
    by true e here more =
        let same : b ≡ c = eqb-true b c e in
        let cut = cut_text front b text (subst (λ n. n < 128) (sym same) ascii) utf8 in
        (subst IsUtf8 (sym (append-nil front)) cut.0, same_parts (slice_split (λ b. eqb b c) text) (here cut.1))
    by false e here more = moved (slice_split (λ b. eqb b c) text) more

tags_text : (word : List ℕ) → IsUtf8 word → AllByRecursion IsUtf8 (tags_of word)
tags_text word utf8 = all_filter IsUtf8 is_filled (slice_split (λ b. eqb b 44) word) (whole (slice_split (λ b. eqb b 44) word) (split_text 44 [] word (lit< tt) utf8)) where
  whole : (parts : List (List ℕ)) → AllByRecursion IsUtf8 (after_front [] parts) → AllByRecursion IsUtf8 parts
  whole [] all = tt
  whole (part ∷ parts) all = all

lines_text : (line text : List ℕ) → IsUtf8 (line ++ text) → AllByRecursion IsUtf8 (lines_parted line text)
lines_text line [] utf8 = (subst IsUtf8 (append-nil line) utf8, tt)
lines_text line (b ∷ text) utf8 = by (eqb b 10) refl (λ u. lines_text [] text u) (lines_text (line ++ b ∷ []) text (subst IsUtf8 (sym (append_assoc line (b ∷ []) text)) utf8)) where
  by : (t : Bool) → eqb b 10 ≡ t → (IsUtf8 text → AllByRecursion IsUtf8 (lines_parted [] text)) → AllByRecursion IsUtf8 (lines_parted (line ++ b ∷ []) text)
      → AllByRecursion IsUtf8 (cond t (line ∷ lines_parted [] text) (lines_parted (line ++ b ∷ []) text))
  by true e here more =
      let same : b ≡ 10 = eqb-true b 10 e in
      let cut = cut_text line b text (subst (λ n. n < 128) (sym same) (lit< tt)) utf8 in
      (cut.0, here cut.1)
  by false e here more = more

-- the lines of a text
pub parted_text : (text : List ℕ) → IsUtf8 text → AllByRecursion IsUtf8 (lines_of_text text)
parted_text text utf8 = lines_text [] text utf8

-- ---- what a line asks for

abbrev pub IsTypedText : TypedCommand → Type 0
IsTypedText Nothing = Unit {0}
IsTypedText Quits = Unit {0}
IsTypedText (Refused text) = Unit {0}
IsTypedText (Others text) = Unit {0}
IsTypedText (Prints buffer tags prefix message) = AllByRecursion IsUtf8 tags
IsTypedText (Adds name) = IsUtf8 name
IsTypedText (Closes buffer) = Unit {0}
IsTypedText (Merges buffer) = Unit {0}
IsTypedText (Names name) = IsUtf8 name
IsTypedText (Changes w) = IsAsked w
IsTypedText (Sets name value) = Unit {0}
IsTypedText (Unsets name) = Unit {0}
IsTypedText (Switches name) = Unit {0}
IsTypedText Saves = Unit {0}
IsTypedText (UsesHotlist usage) = Unit {0}
IsTypedText (UsesFilters change) = Unit {0}
IsTypedText (Evaluates usage text) = IsUtf8 text

if_text : (b : Bool) (x y : TypedCommand) → (b ≡ true → IsTypedText x) → IsTypedText y → IsTypedText (cond b x y)
if_text true x y p q = p refl
if_text false x y p q = q

printed_text : (buffer : Option (List ℕ)) (tags : List (List ℕ)) (text : List ℕ) → AllByRecursion IsUtf8 tags → IsTypedText (print_words buffer tags text)
printed_text buffer tags [] all = tt
printed_text buffer tags (b ∷ text) all = by (text_after 9 (b ∷ text)) where
  by : (o : Option (List ℕ)) → IsTypedText (print_unless_empty buffer tags (b ∷ text) o)
  by None = all
  by (Some message) = all

second_text : (text : List ℕ) → IsUtf8 text → IsUtf8 (second_of text)
second_text text utf8 = word_text (rest_of text) (rest_text text utf8)

after_second_text : (text : List ℕ) → IsUtf8 text → IsUtf8 (after_second text)
after_second_text text utf8 = rest_text (rest_of text) (rest_text text utf8)

tagged_text : (buffer : Option (List ℕ)) (text : List ℕ) → IsUtf8 text → IsTypedText (print_tagged buffer text)
tagged_text buffer text utf8 =
    if_text (is_first (codes "-tags") text) (print_words buffer (tags_of (second_of text)) (after_second text)) (print_words buffer [] text)
    (λ here. printed_text buffer (tags_of (second_of text)) (after_second text) (tags_text (second_of text) (second_text text utf8))) (printed_text buffer [] text tt)

on_text : (tags : List (List ℕ)) (text : List ℕ) → AllByRecursion IsUtf8 tags → IsTypedText (print_on tags text)
on_text tags text all =
    if_text (is_first (codes "-buffer") text) (print_words (Some (second_of text)) tags (after_second text)) (print_words None tags text)
    (λ here. printed_text (Some (second_of text)) tags (after_second text) all) (printed_text None tags text all)

print_text : (text : List ℕ) → IsUtf8 text → IsTypedText (print_command text)
print_text text utf8 =
    let tags = tags_of (second_of text) in
    if_text (is_first (codes "-buffer") text) (print_tagged (Some (second_of text)) (after_second text)) (cond (is_first (codes "-tags") text) (print_on tags (after_second text)) (print_words None [] text))
    (λ here. tagged_text (Some (second_of text)) (after_second text) (after_second_text text utf8))
    (if_text (is_first (codes "-tags") text) (print_on tags (after_second text)) (print_words None [] text)
    (λ here. on_text tags (after_second text) (tags_text (second_of text) (second_text text utf8))) (printed_text None [] text tt))

one_text : (typed : List ℕ → TypedCommand) (text : List ℕ) → IsUtf8 text → ((word : List ℕ) → IsUtf8 word → IsTypedText (typed word)) → IsTypedText (one_word typed text)
one_text typed [] utf8 each = tt
one_text typed (b ∷ text) utf8 each =
    if_text (ltb 0 (length (rest_of (b ∷ text)))) wrong_buffer (typed (word_of (b ∷ text))) (λ here. tt) (each (word_of (b ∷ text)) (word_text (b ∷ text) utf8))

whole_text : (typed : List ℕ → TypedCommand) (text : List ℕ) → IsUtf8 text → ((value : List ℕ) → IsUtf8 value → IsTypedText (typed value)) → IsTypedText (some_text typed text)
whole_text typed [] utf8 each = tt
whole_text typed (b ∷ text) utf8 each = each (b ∷ text) utf8

bare_text : (w : What) (text : List ℕ) → IsAsked w → IsTypedText (without_words (Changes w) text)
bare_text w [] told = told
bare_text w (b ∷ text) told = tt

moves_text : (word : List ℕ) → IsTypedText (moves_to word)
moves_text word = if_text _ (Changes (what.MoveTo _)) wrong_buffer (λ here. tt) tt

close_text : (text : List ℕ) → IsUtf8 text → IsTypedText (close_command text)
close_text [] utf8 = tt
close_text (b ∷ text) utf8 = one_text (λ name. Closes (Some name)) (b ∷ text) utf8 (λ word u. tt)

-- what comes after the front of a word
variable_text : (word : List ℕ) → IsUtf8 word → starts (codes "localvar_set_") word ≡ true → IsUtf8 (drop 13 word)
variable_text word utf8 e =
    let whole = (starts_is Decides-eqb word (codes "localvar_set_") (starts (codes "localvar_set_") word) refl).0 e in
    (cut_text (codes "localvar_set") 95 (drop 13 word) (lit< tt) (subst IsUtf8 whole utf8)).1

hotlist_value_text : (value : List ℕ) → IsTypedText (hotlist_value value)
hotlist_value_text value = if_text (bytes_eq value (codes "-1")) (UsesHotlist hotlist.Remove) Nothing (λ here. tt) tt

property_text : (word text : List ℕ) → IsUtf8 word → IsUtf8 text → IsTypedText (set_property word text)
property_text word text named utf8 =
    let sets = some_text (λ value. Changes (what.SetVar (record { name = drop 13 word; value = value }))) text in
    let removes = without_words (Changes (what.RemoveVar (drop 13 word))) text in
    let variable = cond (starts (codes "localvar_set_") word) sets (cond (starts (codes "localvar_del_") word) removes wrong_buffer) in
    let seen = some_text hotlist_value text in
    let others = cond (bytes_eq word (codes "hotlist")) seen variable in
    let titles = some_text (λ value. Changes (what.Title value)) text in
    let shortens = some_text (λ value. Changes (what.ShortName value)) text in
    if_text (bytes_eq word (codes "name")) (some_text (λ value. Names value) text) (cond (bytes_eq word (codes "short_name")) shortens (cond (bytes_eq word (codes "title")) titles others))
    (λ here. whole_text (λ value. Names value) text utf8 (λ value u. u))
    (if_text (bytes_eq word (codes "short_name")) shortens (cond (bytes_eq word (codes "title")) titles others)
    (λ here. whole_text (λ value. Changes (what.ShortName value)) text utf8 (λ value u. u))
    (if_text (bytes_eq word (codes "title")) titles others
    (λ here. whole_text (λ value. Changes (what.Title value)) text utf8 (λ value u. tt))
    (if_text (bytes_eq word (codes "hotlist")) seen variable
    (λ here. whole_text hotlist_value text utf8 (λ value u. hotlist_value_text value))
    (if_text (starts (codes "localvar_set_") word) sets (cond (starts (codes "localvar_del_") word) removes wrong_buffer)
    (λ here. whole_text (λ value. Changes (what.SetVar (record { name = drop 13 word; value = value }))) text utf8 (λ value u. variable_text word named here))
    (if_text (starts (codes "localvar_del_") word) removes wrong_buffer (λ here. bare_text (what.RemoveVar (drop 13 word)) text tt) tt)))))

switch_text : (word text : List ℕ) → IsTypedText (switch_command word text)
switch_text [] text = tt
switch_text (b ∷ word) [] = tt
switch_text (b ∷ word) (c ∷ text) = tt

words_text : (word text : List ℕ) → IsUtf8 text → IsTypedText (buffer_word word text)
words_text word text utf8 =
    let sets = cond (bytes_eq word (codes "set")) (set_property (word_of text) (rest_of text)) (switch_command word text) in
    let clears = cond (bytes_eq word (codes "clear")) (without_words (Changes what.Clear) text) sets in
    let unhides = cond (bytes_eq word (codes "unhide")) (without_words (Changes what.Unhide) text) clears in
    let hides = cond (bytes_eq word (codes "hide")) (without_words (Changes what.Hide) text) unhides in
    let unmerges = cond (bytes_eq word (codes "unmerge")) (without_words (Changes what.Unmerge) text) hides in
    let merges = cond (bytes_eq word (codes "merge")) (one_word (λ name. Merges name) text) unmerges in
    let moves = cond (bytes_eq word (codes "move")) (one_word moves_to text) merges in
    let closes = cond (bytes_eq word (codes "close")) (close_command text) moves in
    if_text (bytes_eq word (codes "add")) (one_word (λ name. Adds name) text) closes (λ here. one_text (λ name. Adds name) text utf8 (λ word u. u))
    (if_text (bytes_eq word (codes "close")) (close_command text) moves (λ here. close_text text utf8)
    (if_text (bytes_eq word (codes "move")) (one_word moves_to text) merges (λ here. one_text moves_to text utf8 (λ word u. moves_text word))
    (if_text (bytes_eq word (codes "merge")) (one_word (λ name. Merges name) text) unmerges (λ here. one_text (λ name. Merges name) text utf8 (λ word u. tt))
    (if_text (bytes_eq word (codes "unmerge")) (without_words (Changes what.Unmerge) text) hides (λ here. bare_text what.Unmerge text tt)
    (if_text (bytes_eq word (codes "hide")) (without_words (Changes what.Hide) text) unhides (λ here. bare_text what.Hide text tt)
    (if_text (bytes_eq word (codes "unhide")) (without_words (Changes what.Unhide) text) clears (λ here. bare_text what.Unhide text tt)
    (if_text (bytes_eq word (codes "clear")) (without_words (Changes what.Clear) text) sets (λ here. bare_text what.Clear text tt)
    (if_text (bytes_eq word (codes "set")) (set_property (word_of text) (rest_of text)) (switch_command word text)
    (λ here. property_text (word_of text) (rest_of text) (word_text text utf8) (rest_text text utf8)) (switch_text word text)))))))))

quit_text : (text : List ℕ) → IsTypedText (quit_command text)
quit_text [] = tt
quit_text (b ∷ text) = tt

set_text : (name value : List ℕ) → IsTypedText (set_option name value)
set_text name [] = tt
set_text name (b ∷ value) = tt

unset_text : (text : List ℕ) → IsTypedText (unset_command text)
unset_text [] = tt
unset_text (b ∷ text) = if_text (ltb 0 (length (rest_of (b ∷ text)))) (wrong_arguments (codes "unset")) (Unsets (word_of (b ∷ text))) (λ here. tt) tt

save_text : (text : List ℕ) → IsTypedText (save_command text)
save_text [] = tt
save_text (b ∷ text) = tt

option_text : (name rest : List ℕ) → IsTypedText (option_command name rest)
unfolding option_command
option_text name rest =
    let saves = cond (bytes_eq name (codes "save")) (save_command rest) (unknown_command name) in
    let unsets = cond (bytes_eq name (codes "unset")) (unset_command rest) saves in
    if_text (bytes_eq name (codes "set")) (set_command rest) unsets (λ here. set_text (word_of rest) (rest_of rest))
    (if_text (bytes_eq name (codes "unset")) (unset_command rest) saves (λ here. unset_text rest)
    (if_text (bytes_eq name (codes "save")) (save_command rest) (unknown_command name) (λ here. save_text rest) tt))

input_text : (text : List ℕ) → IsTypedText (input_command text)
input_text text =
    if_text (bytes_eq text (codes "set_unread_current_buffer")) Nothing (cond (bytes_eq text (codes "hotlist_clear")) (UsesHotlist hotlist.Clear) (unknown_command (codes "input"))) (λ here. tt)
    (if_text (bytes_eq text (codes "hotlist_clear")) (UsesHotlist hotlist.Clear) (unknown_command (codes "input")) (λ here. tt) tt)

hotlist_text : (text : List ℕ) → IsTypedText (hotlist_command text)
hotlist_text text =
    let removes = cond (bytes_eq text (codes "remove")) (UsesHotlist hotlist.Remove) (wrong_arguments (codes "hotlist")) in
    if_text (bytes_eq text (codes "clear")) (UsesHotlist hotlist.Clear) removes (λ here. tt)
    (if_text (bytes_eq text (codes "remove")) (UsesHotlist hotlist.Remove) (wrong_arguments (codes "hotlist")) (λ here. tt) tt)

news_text : (name rest : List ℕ) → IsTypedText (news_command name rest)
unfolding news_command
news_text name rest =
    let hotlists = cond (bytes_eq name (codes "hotlist")) (hotlist_command rest) (option_command name rest) in
    if_text (bytes_eq name (codes "input")) (input_command rest) hotlists (λ here. input_text rest)
    (if_text (bytes_eq name (codes "hotlist")) (hotlist_command rest) (option_command name rest) (λ here. hotlist_text rest) (option_text name rest))

eval_use_text : (usage : EvalUse) (text : List ℕ) → IsUtf8 text → IsTypedText (eval_text usage text)
eval_use_text usage [] utf8 = tt
eval_use_text usage (b ∷ text) utf8 = utf8

eval_printed_text : (text : List ℕ) → IsUtf8 text → IsTypedText (eval_printed text)
eval_printed_text text utf8 =
    if_text (is_first (codes "-c") text) (eval_text eval.Test (rest_of text)) (eval_text eval.Print text) (λ here. eval_use_text eval.Test (rest_of text) (rest_text text utf8)) (eval_use_text eval.Print text utf8)

eval_command_text : (text : List ℕ) → IsUtf8 text → IsTypedText (eval_command text)
eval_command_text text utf8 =
    if_text (is_first (codes "-n") text) (eval_printed (rest_of text)) (eval_text eval.Run text) (λ here. eval_printed_text (rest_of text) (rest_text text utf8)) (eval_use_text eval.Run text utf8)

close_here_text : (text : List ℕ) → IsTypedText (close_here text)
close_here_text [] = tt
close_here_text (b ∷ text) = tt

filter_with_text : (name buffers tags pattern : List ℕ) → IsTypedText (filter_with name buffers tags pattern)
filter_with_text name buffers tags [] = tt
filter_with_text name buffers tags (b ∷ pattern) = tt

one_filter_text : (change : List ℕ → FilterChange) (text : List ℕ) → IsTypedText (one_filter change text)
one_filter_text change [] = tt
one_filter_text change (b ∷ text) = if_text (ltb 0 (length (rest_of (b ∷ text)))) wrong_filter (UsesFilters (change (word_of (b ∷ text)))) (λ here. tt) tt

switch_filters_text : (switch : Switch) (text : List ℕ) → IsTypedText (switch_filters switch text)
switch_filters_text switch [] = tt
switch_filters_text switch (b ∷ text) = one_filter_text (λ name. filtering.Switch (Some name) switch) (b ∷ text)

filter_word_text : (word text : List ℕ) → IsTypedText (filter_word word text)
filter_word_text word text =
    let toggles = cond (bytes_eq word (codes "toggle")) (switch_filters Toggle text) wrong_filter in
    let disables = cond (bytes_eq word (codes "disable")) (switch_filters Disable text) toggles in
    let enables = cond (bytes_eq word (codes "enable")) (switch_filters Enable text) disables in
    let deletes = cond (bytes_eq word (codes "del")) (one_filter filtering.Delete text) enables in
    if_text (bytes_eq word (codes "add")) (add_filter text) deletes (λ here. filter_with_text (word_of text) (second_of text) (word_of (after_second text)) (rest_of (after_second text)))
    (if_text (bytes_eq word (codes "del")) (one_filter filtering.Delete text) enables (λ here. one_filter_text filtering.Delete text)
    (if_text (bytes_eq word (codes "enable")) (switch_filters Enable text) disables (λ here. switch_filters_text Enable text)
    (if_text (bytes_eq word (codes "disable")) (switch_filters Disable text) toggles (λ here. switch_filters_text Disable text)
    (if_text (bytes_eq word (codes "toggle")) (switch_filters Toggle text) wrong_filter (λ here. switch_filters_text Toggle text) tt))))

help_on_text : (name : List ℕ) → IsTypedText (help_on name)
help_on_text name = by (form_named name) where
  by : (o : Option (List ℕ)) → IsTypedText (help_with name o)
  by None = tt
  by (Some form) = tt

help_text : (text : List ℕ) → IsTypedText (help_command text)
help_text [] = tt
help_text (b ∷ text) =
    let name = without_slash (word_of (b ∷ text)) in
    if_text (ltb 0 (length (rest_of (b ∷ text)))) (wrong_arguments (codes "help")) (help_on name) (λ here. tt) (help_on_text name)

command_text : (name rest : List ℕ) → IsUtf8 rest → IsTypedText (command name rest)
command_text name rest utf8 =
    let helps = cond (bytes_eq name (codes "help")) (help_command rest) (news_command name rest) in
    let filters = cond (bytes_eq name (codes "filter")) (filter_command rest) helps in
    let evals = cond (bytes_eq name (codes "eval")) (eval_command rest) filters in
    let quits = cond (bytes_eq name (codes "quit")) (quit_command rest) evals in
    let closes = cond (bytes_eq name (codes "close")) (close_here rest) quits in
    let buffers = cond (bytes_eq name (codes "buffer")) (buffer_command rest) closes in
    if_text (bytes_eq name (codes "print")) (print_command rest) buffers (λ here. print_text rest utf8)
    (if_text (bytes_eq name (codes "buffer")) (buffer_command rest) closes (λ here. words_text (word_of rest) (rest_of rest) (rest_text rest utf8))
    (if_text (bytes_eq name (codes "close")) (close_here rest) quits (λ here. close_here_text rest)
    (if_text (bytes_eq name (codes "quit")) (quit_command rest) evals (λ here. quit_text rest)
    (if_text (bytes_eq name (codes "eval")) (eval_command rest) filters (λ here. eval_command_text rest utf8)
    (if_text (bytes_eq name (codes "filter")) (filter_command rest) helps (λ here. filter_word_text (word_of rest) (rest_of rest))
    (if_text (bytes_eq name (codes "help")) (help_command rest) (news_command name rest) (λ here. help_text rest) (news_text name rest)))))))

slashed_text : (text : List ℕ) → IsUtf8 text → IsTypedText (slash_command text)
slashed_text [] utf8 = command_text [] [] utf8
slashed_text (b ∷ text) utf8 =
    if_text (eqb b 47) _ (command (word_of (b ∷ text)) (rest_of (b ∷ text))) (λ here. tt) (command_text (word_of (b ∷ text)) (rest_of (b ∷ text)) (rest_text (b ∷ text) utf8))

pub typed_text : (line : List ℕ) → IsUtf8 line → IsTypedText (typed_line line)
unfolding typed_line
typed_text [] utf8 = tt
typed_text (b ∷ text) utf8 =
    if_text (eqb b 47) (slash_command text) _
    (λ here. slashed_text text (cut_text [] b text (let same : b ≡ 47 = eqb-true b 47 here in subst (λ n. n < 128) (sym same) (lit< tt)) utf8).1) tt

-- ---- what it comes to

-- the change that is asked may be
abbrev pub OnAsks : Effect → Type 0
OnAsks Stays = Unit {0}
OnAsks Ends = Unit {0}
OnAsks (Tells text) = Unit {0}
OnAsks (Asks change) = IsAsked change.what
OnAsks (SetsOption name value) = Unit {0}
OnAsks (UnsetsOption name) = Unit {0}
OnAsks SavesOptions = Unit {0}
OnAsks (ChangesHotlist usage buffer) = Unit {0}
OnAsks (ChangesFilters change) = Unit {0}

meant_told : (f : Handle → Change) (o : Option Handle) → ((h : Handle) → IsAsked (f h).what) → OnAsks (of_meant f o)
meant_told f None each = tt
meant_told f (Some h) each = each h

named_told : (groups : EntryGroups) (buffer : Handle) (f : Handle → Change) (name : Option (List ℕ)) → ((h : Handle) → IsAsked (f h).what) → OnAsks (of_named groups buffer f name)
named_told groups buffer f None each = each buffer
named_told groups buffer f (Some word) each = meant_told f (buffer_meant groups word) each

-- what is before the first dot of a full name
plugin_text : (e : BufferEntry) → IsBuffer e → IsUtf8 (before_first (λ b. eqb b 46) e.row.full_name)
plugin_text e is = by e.vars is.vars is.first where
  by : (vars : List Pair) → AreVars vars → take 2 vars ≡ plugin_var e.row.full_name ∷ name_var e.row.full_name ∷ [] → IsUtf8 (before_first (λ b. eqb b 46) e.row.full_name)
  by [] all first = absurd (let f = first in cc)
  by (v ∷ []) all first = absurd (let f = first in cc)
  by (v ∷ w ∷ vars) all first = let same : v ≡ plugin_var e.row.full_name = cc in subst (λ (p : Pair). IsUtf8 p.value) same all.0.value

front_text : (limit : ℕ) (w : World) (buffer : Handle) → IsWorldKept limit w → IsUtf8 (plugin_in (buffer_of buffer w.groups))
front_text limit w buffer is = by (entry_of buffer w.groups) refl where
  by : (o : Option BufferEntry) → entry_of buffer w.groups ≡ o → IsUtf8 (plugin_in (option_map (λ (e : BufferEntry). e.row) o))
  by None at = IsUtf8-nil
  by (Some e) at = plugin_text e (row_has (IsBufferKept w.next) handle_of buffer.0 (rows w.groups) e at is.each).fit

core_text : IsUtf8 (codes "core.")
core_text = put_byte 99 _ (lit< tt) (put_byte 111 _ (lit< tt) (put_byte 114 _ (lit< tt) (put_byte 101 _ (lit< tt) (put_byte 46 _ (lit< tt) IsUtf8-nil))))

dot_text : IsUtf8 (codes ".")
dot_text = put_byte 46 _ (lit< tt) IsUtf8-nil

switched_told : (o : Option Handle) → OnAsks (switched o)
switched_told None = tt
switched_told (Some buffer) = tt

pub resolved_told : (limit : ℕ) (w : World) (moment : ℕ) (buffer : Handle) (typed : TypedCommand) → IsWorldKept limit w → IsTypedText typed → OnAsks (effect_of w moment buffer typed)
unfolding effect_of
resolved_told limit w moment buffer Nothing is text = tt
resolved_told limit w moment buffer Quits is text = tt
resolved_told limit w moment buffer (Refused told) is text = tt
resolved_told limit w moment buffer (Others told) is text = tt
resolved_told limit w moment buffer (Prints name tags prefix message) is text =
    named_told w.groups buffer (λ b. change_of b (what.Print (line_spec moment tags prefix message))) name (λ h. (All-from_recursion IsUtf8 tags text, level_fits tags false))
resolved_told limit w moment buffer (Adds name) is text = (IsUtf8-append (codes "core.") name core_text text, text, IsUtf8-nil, All-nil IsText)
resolved_told limit w moment buffer (Closes name) is text = named_told w.groups buffer (λ b. change_of b what.Close) name (λ h. tt)
resolved_told limit w moment buffer (Merges name) is text = meant_told (λ into. change_of buffer (what.MergeInto into)) (buffer_meant w.groups name) (λ h. tt)
resolved_told limit w moment buffer (Names name) is text =
    IsUtf8-append (plugin_in (buffer_of buffer w.groups) ++ codes ".") name (IsUtf8-append (plugin_in (buffer_of buffer w.groups)) (codes ".") (front_text limit w buffer is) dot_text) text
resolved_told limit w moment buffer (Changes c) is text = text
resolved_told limit w moment buffer (Sets name value) is text = tt
resolved_told limit w moment buffer (Unsets name) is text = tt
resolved_told limit w moment buffer (Switches name) is text = switched_told (buffer_meant w.groups name)
resolved_told limit w moment buffer Saves is text = tt
resolved_told limit w moment buffer (UsesHotlist usage) is text = tt
resolved_told limit w moment buffer (UsesFilters change) is text = tt
resolved_told limit w moment buffer (Evaluates usage value) is text = tt
