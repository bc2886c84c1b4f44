-- What is typed is text, and how its lines are parted.
use Rattle.std.proofs.Common.{◌≡◌, ℕ, List, [], ◌∷◌, ◌++◌, refl, ap, sym, subst, ◌∙◌, Bool, true, false, cond, eqb, Option, Some, None, codes, lit<, append-nil, append_assoc, arith, nat_lt, ◌&&◌, ◌-◌, ◌^◌, min, length, drop, filter, find, All}
use Rattle.std.proofs.lemmas.Bool.{false≢true}
use Rattle.std.proofs.lemmas.Bool.Decides.{nat_tests, Decides-eqb}
use Rattle.std.proofs.lemmas.Str.{IsUtf8-nil, IsUtf8-append}
use Rattle.std.specs.Str.{IsUtf8, bytes_eq}
use Rattle.std.specs.Borrow.{Bor}
use Rattle.std.specs.Option.{option_copied}
use Rattle.wc_text.specs.Splits.{before, text_after, word_of, rest_of}
use Rattle.wc_text.proofs.WordLemmas.{WordAndRest-made}
use Rattle.wc_relaycmd.specs.Lists.{pieces_of}
use Rattle.wc_relaycmd.specs.Utf8.{AreUtf8Words}
use Rattle.wc_relaycmd.proofs.Utf8Lemmas.{cut_text, before_text, after_text, parts_text, put_byte, all_pieces_text}
use Rattle.std.proofs.lemmas.List.Elements.{All-nil, All-cons}
use Rattle.std.proofs.lemmas.Slice.Eq.{starts_is}
use Rattle.std.specs.Str.Parse.{digits_value}
use Rattle.wc_text.specs.Integer.{is_numeral}
use Rattle.wc_text.specs.Words.{is_filled}
use Rattle.wc_model.specs.declared.change.What.TheVariants as what
use Rattle.wc_core.specs.Filtering.{IsFilterText}
use Rattle.wc_core.specs.Texts.{WhatUtf8}
use Rattle.wc_core.specs.declared.typed_filter.FilterChange.{FilterChange}
use Rattle.wc_core.specs.declared.typed_filter.FilterChange.TheVariants as filtering
use Rattle.wc_filters.specs.declared.switch.Switch.{Switch}
use Rattle.wc_filters.specs.declared.switch.Switch.TheVariants.{Enable, Disable, Toggle}
use Rattle.wc_core.specs.Step.{other_of}
use Rattle.wc_core.specs.Typed.{TypedCommand, Nothing, Quits, Refused, Others, Prints, Adds, Closes, Merges, Names, Changes, Sets, Unsets, no_text_here, wrong_arguments, unknown_command, print_unless_empty, print_words, tags_of, is_first, second_of, after_second, print_tagged, print_on, print_command, wrong_buffer, one_word, without_words, some_text, moves_to, close_command, starts, set_property, buffer_word, buffer_command, quit_command, set_option, set_command, unset_command, option_command, command, slash_command, typed_line, lines_parted, lines_of_text, Switches, switch_command, input_command, hotlist_value, hotlist_command, news_command, UsesHotlist, UsesFilters, Saves, save_command, close_here, wrong_filter, filter_with, add_filter, one_filter, switch_filters, filter_word, filter_command, Evaluates, help_with, help_on, help_command, eval_text, eval_printed, eval_command, evaluation_of}
use Rattle.wc_core.specs.Forms.{core_text, server_text, names_told, command_forms, without_slash, is_form_of, form_named}
use Rattle.wc_core.specs.TypedSeen.{lines_left, LeftUtf8}
use Rattle.wc_core.specs.declared.typed_eval.EvalUse.{EvalUse}
use Rattle.wc_core.specs.declared.typed_hotlist.HotlistUse.TheVariants as hotlist
use Rattle.wc_core.specs.declared.typed_eval.EvalUse.TheVariants as eval

-- whether each byte is ASCII
abbrev pub all_ascii : List ℕ → Bool
all_ascii [] = true
all_ascii (b ∷ text) = nat_lt b 128 && all_ascii text

pub ascii_text : (text : List ℕ) → all_ascii text ≡ true → IsUtf8 text
ascii_text [] e = IsUtf8-nil
ascii_text (b ∷ text) e = by (nat_lt b 128) refl (ascii_text text) e where
  by : (t : Bool) → nat_lt b 128 ≡ t → (all_ascii text ≡ true → IsUtf8 text) → (t && all_ascii text) ≡ true → IsUtf8 (b ∷ text)
  by true small more others = put_byte b text (grind (arith, nat_tests)) (more others)
  by false small more others = absurd (false≢true others)

-- ---- the texts that a line asks for

pub record LineUtf8 (words : List (List ℕ)) (front text : List ℕ) : Type 0 where
  pub tags : All IsUtf8 words
  pub prefix : IsUtf8 front
  pub message : IsUtf8 text

abbrev pub TypedUtf8 : TypedCommand → Type 0
TypedUtf8 Nothing = Unit {0}
TypedUtf8 Quits = Unit {0}
TypedUtf8 (Refused text) = IsUtf8 text
TypedUtf8 (Others text) = IsUtf8 text
TypedUtf8 (Prints buffer tags prefix message) = LineUtf8 tags prefix message
TypedUtf8 (Adds name) = IsUtf8 name
TypedUtf8 (Closes buffer) = Unit {0}
TypedUtf8 (Merges buffer) = Unit {0}
TypedUtf8 (Names name) = IsUtf8 name
TypedUtf8 (Changes w) = WhatUtf8 w
TypedUtf8 (Sets name value) = IsUtf8 name × IsUtf8 value
TypedUtf8 (Unsets name) = IsUtf8 name
TypedUtf8 (Switches name) = Unit {0}
TypedUtf8 Saves = Unit {0}
TypedUtf8 (UsesHotlist usage) = Unit {0}
TypedUtf8 (UsesFilters change) = IsFilterText change
TypedUtf8 (Evaluates usage text) = IsUtf8 text

typed_if : (b : Bool) (x y : TypedCommand) → TypedUtf8 x → TypedUtf8 y → TypedUtf8 (cond b x y)
typed_if true x y p q = p
typed_if false x y p q = q

-- the first word of a text, and what comes after it
word_text : (text : List ℕ) → IsUtf8 text → IsUtf8 (word_of text) × IsUtf8 (rest_of text)
word_text text utf8 = parts_text text (word_of text) (rest_of text) (WordAndRest-made text) utf8

second_text : (text : List ℕ) → IsUtf8 text → IsUtf8 (second_of text) × IsUtf8 (after_second text)
second_text text utf8 = word_text (rest_of text) (word_text text utf8).1

no_text : TypedUtf8 no_text_here
no_text = ascii_text (codes "no text here") refl

wrong_text : (name : List ℕ) → IsUtf8 name → TypedUtf8 (wrong_arguments name)
wrong_text name utf8 = IsUtf8-append (codes "wrong arguments: /") name (ascii_text (codes "wrong arguments: /") refl) utf8

unknown_text : (name : List ℕ) → IsUtf8 name → TypedUtf8 (unknown_command name)
unknown_text name utf8 = IsUtf8-append (codes "unknown command: /") name (ascii_text (codes "unknown command: /") refl) utf8

-- ---- `/print`

filled_texts : (texts : List (List ℕ)) → AreUtf8Words texts → All IsUtf8 (filter is_filled texts)
filled_texts [] utf8 = All-nil IsUtf8
filled_texts (text ∷ texts) utf8 = by (is_filled text) (filled_texts texts utf8.1) where
  by : (b : Bool) → All IsUtf8 (filter is_filled texts) → All IsUtf8 (cond b (text ∷ filter is_filled texts) (filter is_filled texts))
  by true more = All-cons IsUtf8 text (filter is_filled texts) utf8.0 more
  by false more = more

tags_text : (word : List ℕ) → IsUtf8 word → All IsUtf8 (tags_of word)
tags_text word utf8 = filled_texts (pieces_of word) (all_pieces_text word utf8)

printed_text : (buffer : Option (List ℕ)) (tags : List (List ℕ)) (text : List ℕ) → All IsUtf8 tags → IsUtf8 text → TypedUtf8 (print_words buffer tags text)
printed_text buffer tags [] all utf8 = wrong_text (codes "print") (ascii_text (codes "print") refl)
printed_text buffer tags (b ∷ text) all utf8 = by (text_after 9 (b ∷ text)) refl where
  by : (o : Option (List ℕ)) → text_after 9 (b ∷ text) ≡ o → TypedUtf8 (print_unless_empty buffer tags (b ∷ text) o)
  by None e = record { tags = all; prefix = IsUtf8-nil; message = utf8 }
  by (Some message) e = record { tags = all; prefix = before_text 9 (b ∷ text) (lit< tt) utf8; message = after_text 9 (b ∷ text) message (lit< tt) utf8 e }

tagged_text : (buffer : Option (List ℕ)) (text : List ℕ) → IsUtf8 text → TypedUtf8 (print_tagged buffer text)
tagged_text buffer text utf8 =
    let second = second_text text utf8 in
    typed_if (is_first (codes "-tags") text) (print_words buffer (tags_of (second_of text)) (after_second text)) (print_words buffer [] text)
    (printed_text buffer (tags_of (second_of text)) (after_second text) (tags_text (second_of text) second.0) second.1)
    (printed_text buffer [] text (All-nil IsUtf8) utf8)

on_text : (tags : List (List ℕ)) (text : List ℕ) → All IsUtf8 tags → IsUtf8 text → TypedUtf8 (print_on tags text)
on_text tags text all utf8 =
    typed_if (is_first (codes "-buffer") text) (print_words (Some (second_of text)) tags (after_second text)) (print_words None tags text)
    (printed_text (Some (second_of text)) tags (after_second text) all (second_text text utf8).1)
    (printed_text None tags text all utf8)

print_text : (text : List ℕ) → IsUtf8 text → TypedUtf8 (print_command text)
print_text text utf8 =
    let second = second_text text utf8 in
    typed_if (is_first (codes "-buffer") text) (print_tagged (Some (second_of text)) (after_second text))
    (cond (is_first (codes "-tags") text) (print_on (tags_of (second_of text)) (after_second text)) (print_words None [] text))
    (tagged_text (Some (second_of text)) (after_second text) second.1)
    (typed_if (is_first (codes "-tags") text) (print_on (tags_of (second_of text)) (after_second text)) (print_words None [] text)
    (on_text (tags_of (second_of text)) (after_second text) (tags_text (second_of text) second.0) second.1)
    (printed_text None [] text (All-nil IsUtf8) utf8))

-- ---- `/buffer`

wrong_buffer_text : TypedUtf8 wrong_buffer
wrong_buffer_text = wrong_text (codes "buffer") (ascii_text (codes "buffer") refl)

one_word_text : (typed : List ℕ → TypedCommand) → ((word : List ℕ) → IsUtf8 word → TypedUtf8 (typed word)) → (text : List ℕ) → IsUtf8 text → TypedUtf8 (one_word typed text)
one_word_text typed each [] utf8 = wrong_buffer_text
one_word_text typed each (b ∷ text) utf8 =
    typed_if (nat_lt 0 (length (rest_of (b ∷ text)))) wrong_buffer (typed (word_of (b ∷ text))) wrong_buffer_text (each (word_of (b ∷ text)) (word_text (b ∷ text) utf8).0)

without_words_text : (typed : TypedCommand) → TypedUtf8 typed → (text : List ℕ) → TypedUtf8 (without_words typed text)
without_words_text typed utf8 [] = utf8
without_words_text typed utf8 (b ∷ text) = wrong_buffer_text

some_text_text : (typed : List ℕ → TypedCommand) → ((text : List ℕ) → IsUtf8 text → TypedUtf8 (typed text)) → (text : List ℕ) → IsUtf8 text → TypedUtf8 (some_text typed text)
some_text_text typed each [] utf8 = wrong_buffer_text
some_text_text typed each (b ∷ text) utf8 = each (b ∷ text) utf8

moves_text : (word : List ℕ) → TypedUtf8 (moves_to word)
moves_text word = typed_if (is_numeral word) (Changes (what.MoveTo (min (digits_value 10 word) (2 ^ 32 - 1)))) wrong_buffer tt wrong_buffer_text

close_text : (text : List ℕ) → IsUtf8 text → TypedUtf8 (close_command text)
close_text [] utf8 = tt
close_text (b ∷ text) utf8 = one_word_text (λ name. Closes (Some name)) (λ word u. tt) (b ∷ text) utf8

-- what comes after the front of a word that ends in `_`
after_front : (front word : List ℕ) → starts (front ++ 95 ∷ []) word ≡ true → length (front ++ 95 ∷ []) ≡ 13 → IsUtf8 word → IsUtf8 (drop 13 word)
after_front front word begins long utf8 =
    let whole : word ≡ (front ++ 95 ∷ []) ++ drop (length (front ++ 95 ∷ [])) word = (starts_is Decides-eqb word (front ++ 95 ∷ []) (starts (front ++ 95 ∷ []) word) refl).0 begins in
    let lines_of_text : word ≡ front ++ 95 ∷ drop 13 word = whole ∙ append_assoc front (95 ∷ []) (drop (length (front ++ 95 ∷ [])) word) ∙ ap (λ n. front ++ 95 ∷ drop n word) long in
    (cut_text front 95 (drop 13 word) (lit< tt) (subst IsUtf8 lines_of_text utf8)).1

hotlist_value_text : (value : List ℕ) → TypedUtf8 (hotlist_value value)
hotlist_value_text value = typed_if (bytes_eq value (codes "-1")) (UsesHotlist hotlist.Remove) Nothing tt tt

set_text : (word text : List ℕ) → IsUtf8 word → IsUtf8 text → TypedUtf8 (set_property word text)
set_text word text w t =
    if_typed (bytes_eq word (codes "name")) _ _ (λ e. some_text_text (λ value. Names value) (λ value u. u) text t) (λ e.
    if_typed (bytes_eq word (codes "short_name")) _ _ (λ e. some_text_text (λ value. Changes (what.ShortName value)) (λ value u. u) text t) (λ e.
    if_typed (bytes_eq word (codes "title")) _ _ (λ e. some_text_text (λ value. Changes (what.Title value)) (λ value u. u) text t) (λ e.
    if_typed (bytes_eq word (codes "hotlist")) _ _ (λ e. some_text_text hotlist_value (λ value u. hotlist_value_text value) text t) (λ e.
    if_typed (starts (codes "localvar_set_") word) _ _
    (λ begins. some_text_text (λ value. Changes (what.SetVar (record { name = drop 13 word; value = value }))) (λ value u. (after_front (codes "localvar_set") word begins refl w, u)) text t) (λ e.
    if_typed (starts (codes "localvar_del_") word) _ _
    (λ begins. without_words_text (Changes (what.RemoveVar (drop 13 word))) (after_front (codes "localvar_del") word begins refl w) text) (λ e. wrong_buffer_text))))))
  where
    if_typed : (b : Bool) (x y : TypedCommand) → (b ≡ true → TypedUtf8 x) → (b ≡ false → TypedUtf8 y) → TypedUtf8 (cond b x y)
    if_typed true x y p q = p refl
    if_typed false x y p q = q refl

switch_text : (word text : List ℕ) → TypedUtf8 (switch_command word text)
switch_text [] text = wrong_buffer_text
switch_text (b ∷ word) text = without_words_text (Switches (b ∷ word)) tt text

buffer_word_text : (word text : List ℕ) → IsUtf8 text → TypedUtf8 (buffer_word word text)
buffer_word_text word text t =
    typed_if (bytes_eq word (codes "add")) _ _ (one_word_text (λ name. Adds name) (λ name u. u) text t)
    (typed_if (bytes_eq word (codes "close")) _ _ (close_text text t)
    (typed_if (bytes_eq word (codes "move")) _ _ (one_word_text moves_to (λ name u. moves_text name) text t)
    (typed_if (bytes_eq word (codes "merge")) _ _ (one_word_text (λ name. Merges name) (λ name u. tt) text t)
    (typed_if (bytes_eq word (codes "unmerge")) _ _ (without_words_text (Changes what.Unmerge) tt text)
    (typed_if (bytes_eq word (codes "hide")) _ _ (without_words_text (Changes what.Hide) tt text)
    (typed_if (bytes_eq word (codes "unhide")) _ _ (without_words_text (Changes what.Unhide) tt text)
    (typed_if (bytes_eq word (codes "clear")) _ _ (without_words_text (Changes what.Clear) tt text)
    (typed_if (bytes_eq word (codes "set")) _ _ (let set = word_text text t in set_text (word_of text) (rest_of text) set.0 set.1) (switch_text word text)))))))))

buffer_text : (text : List ℕ) → IsUtf8 text → TypedUtf8 (buffer_command text)
buffer_text text utf8 = buffer_word_text (word_of text) (rest_of text) (word_text text utf8).1

-- ---- `/filter`

wrong_filter_text : TypedUtf8 wrong_filter
wrong_filter_text = wrong_text (codes "filter") (ascii_text (codes "filter") refl)

filter_with_text : (name buffers tags pattern : List ℕ) → IsUtf8 name → IsUtf8 pattern → TypedUtf8 (filter_with name buffers tags pattern)
filter_with_text name buffers tags [] n p = wrong_filter_text
filter_with_text name buffers tags (b ∷ pattern) n p = (n, p)

add_filter_text : (text : List ℕ) → IsUtf8 text → TypedUtf8 (add_filter text)
add_filter_text text utf8 =
    filter_with_text (word_of text) (second_of text) (word_of (after_second text)) (rest_of (after_second text)) (word_text text utf8).0 (word_text (after_second text) (second_text text utf8).1).1

one_filter_text : (change : List ℕ → FilterChange) → ((word : List ℕ) → IsUtf8 word → IsFilterText (change word)) → (text : List ℕ) → IsUtf8 text → TypedUtf8 (one_filter change text)
one_filter_text change each [] utf8 = wrong_filter_text
one_filter_text change each (b ∷ text) utf8 =
    typed_if (nat_lt 0 (length (rest_of (b ∷ text)))) wrong_filter (UsesFilters (change (word_of (b ∷ text)))) wrong_filter_text (each (word_of (b ∷ text)) (word_text (b ∷ text) utf8).0)

switch_filters_text : (switch : Switch) (text : List ℕ) → IsUtf8 text → TypedUtf8 (switch_filters switch text)
switch_filters_text switch [] utf8 = tt
switch_filters_text switch (b ∷ text) utf8 = one_filter_text (λ name. filtering.Switch (Some name) switch) (λ name u. u) (b ∷ text) utf8

filter_word_text : (word text : List ℕ) → IsUtf8 text → TypedUtf8 (filter_word word text)
filter_word_text word text t =
    typed_if (bytes_eq word (codes "add")) _ _ (add_filter_text text t)
    (typed_if (bytes_eq word (codes "del")) _ _ (one_filter_text filtering.Delete (λ name u. u) text t)
    (typed_if (bytes_eq word (codes "enable")) _ _ (switch_filters_text Enable text t)
    (typed_if (bytes_eq word (codes "disable")) _ _ (switch_filters_text Disable text t)
    (typed_if (bytes_eq word (codes "toggle")) _ _ (switch_filters_text Toggle text t) wrong_filter_text))))

filter_text : (text : List ℕ) → IsUtf8 text → TypedUtf8 (filter_command text)
filter_text text utf8 = filter_word_text (word_of text) (rest_of text) (word_text text utf8).1

-- ---- commands

close_here_text : (text : List ℕ) → TypedUtf8 (close_here text)
close_here_text [] = tt
close_here_text (b ∷ text) = wrong_text (codes "close") (ascii_text (codes "close") refl)

quit_text : (text : List ℕ) → TypedUtf8 (quit_command text)
quit_text [] = tt
quit_text (b ∷ text) = wrong_text (codes "quit") (ascii_text (codes "quit") refl)

option_text : (name value : List ℕ) → IsUtf8 name → IsUtf8 value → TypedUtf8 (set_option name value)
option_text name [] n v = wrong_text (codes "set") (ascii_text (codes "set") refl)
option_text name (b ∷ value) n v = (n, v)

sets_text : (text : List ℕ) → IsUtf8 text → TypedUtf8 (set_command text)
sets_text text utf8 = let parts = word_text text utf8 in option_text (word_of text) (rest_of text) parts.0 parts.1

unsets_text : (text : List ℕ) → IsUtf8 text → TypedUtf8 (unset_command text)
unsets_text [] utf8 = wrong_text (codes "unset") (ascii_text (codes "unset") refl)
unsets_text (b ∷ text) utf8 =
    let wrong = wrong_text (codes "unset") (ascii_text (codes "unset") refl) in
    typed_if (nat_lt 0 (length (rest_of (b ∷ text)))) (wrong_arguments (codes "unset")) (Unsets (word_of (b ∷ text))) wrong (word_text (b ∷ text) utf8).0

saves_text : (text : List ℕ) → TypedUtf8 (save_command text)
saves_text [] = tt
saves_text (b ∷ text) = wrong_text (codes "save") (ascii_text (codes "save") refl)

options_text : (name text : List ℕ) → IsUtf8 name → IsUtf8 text → TypedUtf8 (option_command name text)
unfolding option_command
options_text name text n t =
    typed_if (bytes_eq name (codes "set")) _ _ (sets_text text t)
    (typed_if (bytes_eq name (codes "unset")) _ _ (unsets_text text t)
    (typed_if (bytes_eq name (codes "save")) _ _ (saves_text text) (unknown_text name n)))

input_text : (text : List ℕ) → TypedUtf8 (input_command text)
input_text text =
    typed_if (bytes_eq text (codes "set_unread_current_buffer")) _ _ tt
    (typed_if (bytes_eq text (codes "hotlist_clear")) _ _ tt (unknown_text (codes "input") (ascii_text (codes "input") refl)))

hotlist_text : (text : List ℕ) → TypedUtf8 (hotlist_command text)
hotlist_text text =
    typed_if (bytes_eq text (codes "clear")) _ _ tt
    (typed_if (bytes_eq text (codes "remove")) _ _ tt (wrong_text (codes "hotlist") (ascii_text (codes "hotlist") refl)))

news_text : (name text : List ℕ) → IsUtf8 name → IsUtf8 text → TypedUtf8 (news_command name text)
unfolding news_command
news_text name text n t =
    typed_if (bytes_eq name (codes "input")) _ _ (input_text text)
    (typed_if (bytes_eq name (codes "hotlist")) _ _ (hotlist_text text) (options_text name text n t))

eval_use_text : (usage : EvalUse) (text : List ℕ) → IsUtf8 text → TypedUtf8 (eval_text usage text)
eval_use_text usage [] utf8 = wrong_text (codes "eval") (ascii_text (codes "eval") refl)
eval_use_text usage (b ∷ text) utf8 = utf8

eval_printed_text : (text : List ℕ) → IsUtf8 text → TypedUtf8 (eval_printed text)
eval_printed_text text utf8 =
    typed_if (is_first (codes "-c") text) (eval_text eval.Test (rest_of text)) (eval_text eval.Print text) (eval_use_text eval.Test (rest_of text) (word_text text utf8).1) (eval_use_text eval.Print text utf8)

eval_command_text : (text : List ℕ) → IsUtf8 text → TypedUtf8 (eval_command text)
eval_command_text text utf8 =
    typed_if (is_first (codes "-n") text) (eval_printed (rest_of text)) (eval_text eval.Run text) (eval_printed_text (rest_of text) (word_text text utf8).1) (eval_use_text eval.Run text utf8)

-- ---- `/help`

abbrev are_ascii : List (List ℕ) → Bool
are_ascii [] = true
are_ascii (text ∷ texts) = all_ascii text && are_ascii texts

-- a form that was found is text
found_text : (name : List ℕ) (p : List ℕ → Bool) (forms : List (List ℕ)) → IsUtf8 name → are_ascii forms ≡ true → TypedUtf8 (help_with name (find p forms))
found_text name p [] n e = unknown_text name n
found_text name p (form ∷ forms) n e = by (p form) (all_ascii form) refl e (found_text name p forms n) where
  by : (t a : Bool) → all_ascii form ≡ a → (a && are_ascii forms) ≡ true → (are_ascii forms ≡ true → TypedUtf8 (help_with name (find p forms))) → TypedUtf8 (help_with name (cond t (Some form) (find p forms)))
  by true true is e others = record { tags = All-nil IsUtf8; prefix = IsUtf8-nil; message = ascii_text form is }
  by false true is e others = others e
  by t false is e others = absurd (false≢true e)

help_on_text : (name : List ℕ) → IsUtf8 name → TypedUtf8 (help_on name)
unfolding form_named command_forms
help_on_text name n = found_text name (is_form_of name) command_forms n refl

without_slash_text : (word : List ℕ) → IsUtf8 word → IsUtf8 (without_slash word)
without_slash_text [] utf8 = utf8
without_slash_text (b ∷ text) utf8 = by (eqb b 47) refl where
  by : (t : Bool) → eqb b 47 ≡ t → IsUtf8 (cond t text (b ∷ text))
  by true e = let same : b ≡ 47 = grind (arith, nat_tests) in (cut_text [] b text (omega (arith, same)) utf8).1
  by false e = utf8

names_text : IsUtf8 names_told
unfolding core_text server_text
names_text = ascii_text names_told refl

help_text : (text : List ℕ) → IsUtf8 text → TypedUtf8 (help_command text)
help_text [] utf8 = record { tags = All-nil IsUtf8; prefix = IsUtf8-nil; message = names_text }
help_text (b ∷ text) utf8 =
    let name = without_slash (word_of (b ∷ text)) in
    typed_if (nat_lt 0 (length (rest_of (b ∷ text)))) (wrong_arguments (codes "help")) (help_on name) (wrong_text (codes "help") (ascii_text (codes "help") refl))
    (help_on_text name (without_slash_text (word_of (b ∷ text)) (word_text (b ∷ text) utf8).0))

command_text : (name text : List ℕ) → IsUtf8 name → IsUtf8 text → TypedUtf8 (command name text)
command_text name text n t =
    typed_if (bytes_eq name (codes "print")) _ _ (print_text text t)
    (typed_if (bytes_eq name (codes "buffer")) _ _ (buffer_text text t)
    (typed_if (bytes_eq name (codes "close")) _ _ (close_here_text text)
    (typed_if (bytes_eq name (codes "quit")) _ _ (quit_text text)
    (typed_if (bytes_eq name (codes "eval")) _ _ (eval_command_text text t)
    (typed_if (bytes_eq name (codes "filter")) _ _ (filter_text text t)
    (typed_if (bytes_eq name (codes "help")) _ _ (help_text text t) (news_text name text n t)))))))

slashed_text : (text : List ℕ) → IsUtf8 text → TypedUtf8 (slash_command text)
slashed_text [] utf8 = command_text [] [] IsUtf8-nil IsUtf8-nil
slashed_text (b ∷ text) utf8 =
    let parts = word_text (b ∷ text) utf8 in
    typed_if (eqb b 47) no_text_here (command (word_of (b ∷ text)) (rest_of (b ∷ text))) no_text (command_text (word_of (b ∷ text)) (rest_of (b ∷ text)) parts.0 parts.1)

-- what a text asks for is text
pub typed_utf8 : (line : List ℕ) → IsUtf8 line → TypedUtf8 (typed_line line)
unfolding typed_line
typed_utf8 [] utf8 = tt
typed_utf8 (b ∷ text) utf8 = by (eqb b 47) refl where
  by : (t : Bool) → eqb b 47 ≡ t → TypedUtf8 (cond t (slash_command text) no_text_here)
  by true e = let same : b ≡ 47 = grind (arith, nat_tests) in slashed_text text (cut_text [] b text (omega (arith, same)) utf8).1
  by false e = no_text

-- ---- the lines of a text

-- the lines after the first one
abbrev pub lines_after : Option (List ℕ) → List (List ℕ)
lines_after None = []
lines_after (Some text) = lines_of_text text

parted_front : (line text : List ℕ) → lines_parted line text ≡ (line ++ before 10 text) ∷ lines_after (text_after 10 text)
parted_front line [] = ap (λ l. l ∷ []) (sym (append-nil line))
parted_front line (b ∷ text) = by (eqb b 10) (parted_front (line ++ b ∷ []) text) where
  by : (t : Bool) → lines_parted (line ++ b ∷ []) text ≡ ((line ++ b ∷ []) ++ before 10 text) ∷ lines_after (text_after 10 text)
      → cond t (line ∷ lines_parted [] text) (lines_parted (line ++ b ∷ []) text) ≡ (line ++ cond t [] (b ∷ before 10 text)) ∷ lines_after (cond t (Some text) (text_after 10 text))
  by true more = ap (λ l. l ∷ lines_of_text text) (sym (append-nil line))
  by false more = more ∙ ap (λ l. l ∷ lines_after (text_after 10 text)) (append_assoc line (b ∷ []) (before 10 text))

-- the first line of a text, and the others
pub parted_split : (text : List ℕ) → lines_of_text text ≡ before 10 text ∷ lines_after (text_after 10 text)
parted_split text = parted_front [] text

pub lines_left-text_after : (left : Option (Bor (List ℕ))) → lines_left left ≡ lines_after (option_copied left)
lines_left-text_after None = refl
lines_left-text_after (Some text) = refl

-- the first line is text, and so are the others
pub first_utf8 : (text : List ℕ) → IsUtf8 text → IsUtf8 (before 10 text)
first_utf8 text utf8 = before_text 10 text (lit< tt) utf8

pub others_utf8 : (text : List ℕ) (left : Option (Bor (List ℕ))) → IsUtf8 text → option_copied left ≡ text_after 10 text → LeftUtf8 left
others_utf8 text None utf8 e = tt
others_utf8 text (Some rest) utf8 e = after_text 10 text rest.now (lit< tt) utf8 (sym e)

-- the lines that are left are those of the text
pub lines_left-split : (text : List ℕ) (left : Option (Bor (List ℕ))) → option_copied left ≡ text_after 10 text → before 10 text ∷ lines_left left ≡ lines_of_text text
lines_left-split text left e = ap (λ lines. before 10 text ∷ lines) (lines_left-text_after left ∙ ap lines_after e) ∙ sym (parted_split text)

-- what is told of a line that the core does not know by itself is text
pub others_text : (typed : TypedCommand) (text : List ℕ) → TypedUtf8 typed → Some text ≡ other_of typed → IsUtf8 text
others_text (Others told) text utf8 e = subst IsUtf8 (some_text_is told text (sym e)) utf8 where
  some_text_is : (a b : List ℕ) → Some a ≡ Some b → a ≡ b
  some_text_is a b e = cc
others_text Nothing text utf8 e = absurd (cc)
others_text Quits text utf8 e = absurd (cc)
others_text (Refused t) text utf8 e = absurd (cc)
others_text (Prints buffer tags prefix message) text utf8 e = absurd (cc)
others_text (Adds name) text utf8 e = absurd (cc)
others_text (Closes buffer) text utf8 e = absurd (cc)
others_text (Merges buffer) text utf8 e = absurd (cc)
others_text (Names name) text utf8 e = absurd (cc)
others_text (Changes w) text utf8 e = absurd (cc)
others_text (Sets name value) text utf8 e = absurd (cc)
others_text (Unsets name) text utf8 e = absurd (cc)
others_text (Switches name) text utf8 e = absurd (cc)
others_text Saves text utf8 e = absurd (cc)
others_text (UsesHotlist usage) text utf8 e = absurd (cc)
others_text (UsesFilters change) text utf8 e = absurd (cc)
others_text (Evaluates usage value) text utf8 e = absurd (cc)

-- the text that a line evaluates is text
pub evaluated_text : (typed : TypedCommand) (usage : EvalUse) (text : List ℕ) → TypedUtf8 typed → Some (usage, text) ≡ evaluation_of typed → IsUtf8 text
evaluated_text (Evaluates kind value) usage text utf8 e = subst IsUtf8 (same_text (usage, text) (kind, value) e) utf8 where
  same_text : (a b : EvalUse × List ℕ) → Some a ≡ Some b → b.1 ≡ a.1
  same_text a b e = cc
evaluated_text Nothing usage text utf8 e = absurd (cc)
evaluated_text Quits usage text utf8 e = absurd (cc)
evaluated_text (Refused t) usage text utf8 e = absurd (cc)
evaluated_text (Others t) usage text utf8 e = absurd (cc)
evaluated_text (Prints buffer tags prefix message) usage text utf8 e = absurd (cc)
evaluated_text (Adds name) usage text utf8 e = absurd (cc)
evaluated_text (Closes buffer) usage text utf8 e = absurd (cc)
evaluated_text (Merges buffer) usage text utf8 e = absurd (cc)
evaluated_text (Names name) usage text utf8 e = absurd (cc)
evaluated_text (Changes w) usage text utf8 e = absurd (cc)
evaluated_text (Sets name value) usage text utf8 e = absurd (cc)
evaluated_text (Unsets name) usage text utf8 e = absurd (cc)
evaluated_text (Switches name) usage text utf8 e = absurd (cc)
evaluated_text Saves usage text utf8 e = absurd (cc)
evaluated_text (UsesHotlist from) usage text utf8 e = absurd (cc)
evaluated_text (UsesFilters change) usage text utf8 e = absurd (cc)
