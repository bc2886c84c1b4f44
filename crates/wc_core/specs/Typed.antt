-- What a text that is typed into a buffer asks for, by its bytes alone.
use Rattle.std.specs.Prelude.{ℕ, ◌^◌, ◌-◌, min, Bool, List, [], ◌∷◌, ◌++◌, codes, drop, length}
use Rattle.std.specs.Prelude.{filter, nat_eq, nat_lt, if◌then◌else◌, ◌==◌, Option, Some, None}
use Rattle.std.specs.List.{slice_split, starts_with}
use Rattle.std.specs.Str.{bytes_eq}
use Rattle.std.specs.Str.Parse.{digits_value}
use Rattle.wc_filters.specs.declared.switch.Switch.{Switch}
use Rattle.wc_filters.specs.declared.switch.Switch.TheVariants.{Enable, Disable, Toggle}
use Rattle.wc_text.specs.Integer.{is_numeral}
use Rattle.wc_text.specs.Words.{is_filled}
use Rattle.wc_text.specs.Splits.{before, text_after, word_of, rest_of}
use Rattle.wc_model.specs.declared.change.What.{What}
use Rattle.wc_model.specs.declared.change.What.TheVariants as what
use Rattle.wc_core.specs.Forms.{form_named, names_told, without_slash}
use Rattle.wc_core.specs.declared.typed_eval.EvalUse.{EvalUse}
use Rattle.wc_core.specs.declared.typed_eval.EvalUse.TheVariants as eval
use Rattle.wc_core.specs.declared.typed_filter.FilterChange.{FilterChange}
use Rattle.wc_core.specs.declared.typed_filter.FilterChange.TheVariants as filtering
use Rattle.wc_core.specs.declared.typed_hotlist.HotlistUse.{HotlistUse}
use Rattle.wc_core.specs.declared.typed_hotlist.HotlistUse.TheVariants as hotlist

pub data TypedCommand : Type 0 where
  Nothing : TypedCommand
  Quits : TypedCommand
  -- a refusal, which is told on the core buffer
  Refused : List ℕ → TypedCommand
  -- what the core does not know by itself: this is told where no server takes it
  Others : List ℕ → TypedCommand
  -- a line of the buffer that is named, or else of the one into which it was typed: its tags,
  -- prefix and message
  Prints : Option (List ℕ) → List (List ℕ) → List ℕ → List ℕ → TypedCommand
  -- a new buffer
  Adds : List ℕ → TypedCommand
  -- the buffer that is named is closed, or else the one into which it was typed
  Closes : Option (List ℕ) → TypedCommand
  -- the buffer is merged into the one that is named
  Merges : List ℕ → TypedCommand
  -- the buffer gets another name after the first dot of its full name
  Names : List ℕ → TypedCommand
  -- another change of the buffer
  Changes : What → TypedCommand
  -- the option that is named gets this value, or its default
  Sets : List ℕ → List ℕ → TypedCommand
  Unsets : List ℕ → TypedCommand
  -- the buffer that is named is to be shown, which changes nothing where it is there
  Switches : List ℕ → TypedCommand
  -- the options are to be saved
  Saves : TypedCommand
  -- rows of the hotlist are to be taken out
  UsesHotlist : HotlistUse → TypedCommand
  -- the filters are to change
  UsesFilters : FilterChange → TypedCommand
  -- a text that is evaluated, and what becomes of it
  Evaluates : EvalUse → List ℕ → TypedCommand

-- the lines of a text, which LFs part, where `line` is before the text
abbrev pub lines_parted : List ℕ → List ℕ → List (List ℕ)
lines_parted line [] = line ∷ []
lines_parted line (b ∷ text) = if b == 10 then line ∷ lines_parted [] text
    else lines_parted (line ++ b ∷ []) text

abbrev pub lines_of_text : List ℕ → List (List ℕ)
lines_of_text text = lines_parted [] text

abbrev pub unknown_command : List ℕ → TypedCommand
unknown_command name = Others (codes "unknown command: /" ++ name)

abbrev pub wrong_arguments : List ℕ → TypedCommand
wrong_arguments name = Refused (codes "wrong arguments: /" ++ name)

abbrev pub no_text_here : TypedCommand
no_text_here = Others (codes "no text here")

-- ---- `/print`

-- a tab parts the prefix of a line from its message
abbrev pub print_unless_empty : Option (List ℕ) → List (List ℕ) → List ℕ → Option (List ℕ) →
    TypedCommand
print_unless_empty buffer tags text None = Prints buffer tags [] text
print_unless_empty buffer tags text (Some message) = Prints buffer tags (before 9 text) message

-- the text of a line is not empty
abbrev pub print_words : Option (List ℕ) → List (List ℕ) → List ℕ → TypedCommand
print_words buffer tags [] = wrong_arguments (codes "print")
print_words buffer tags (b ∷ text) = print_unless_empty buffer tags (b ∷ text)
    (text_after 9 (b ∷ text))

-- the tags of a word, which commas part
abbrev pub tags_of : List ℕ → List (List ℕ)
tags_of word = filter is_filled (slice_split (λ b. b == 44) word)

abbrev pub is_first : List ℕ → List ℕ → Bool
is_first word text = bytes_eq (word_of text) word

-- the second word of a text, and what comes after it
abbrev pub second_of : List ℕ → List ℕ
second_of text = word_of (rest_of text)

abbrev pub after_second : List ℕ → List ℕ
after_second text = rest_of (rest_of text)

-- after the buffer there may be tags, and after the tags a buffer; another first word is the start
-- of the text
abbrev pub print_tagged : Option (List ℕ) → List ℕ → TypedCommand
print_tagged buffer text =
    if is_first (codes "-tags") text then print_words buffer (tags_of (second_of text))
    (after_second text) else print_words buffer [] text

abbrev pub print_on : List (List ℕ) → List ℕ → TypedCommand
print_on tags text =
    if is_first (codes "-buffer") text then print_words (Some (second_of text)) tags
    (after_second text) else print_words None tags text

abbrev pub print_command : List ℕ → TypedCommand
print_command text =
    if is_first (codes "-buffer") text then print_tagged (Some (second_of text))
    (after_second text) else (
    if is_first (codes "-tags") text then print_on (tags_of (second_of text)) (after_second text)
    else print_words None [] text)

-- ---- `/buffer`

abbrev pub wrong_buffer : TypedCommand
wrong_buffer = wrong_arguments (codes "buffer")

-- one word, and nothing after it
abbrev pub one_word : (List ℕ → TypedCommand) → List ℕ → TypedCommand
one_word typed [] = wrong_buffer
one_word typed (b ∷ text) = if nat_lt 0 (length (rest_of (b ∷ text))) then wrong_buffer
    else typed (word_of (b ∷ text))

-- no word
abbrev pub without_words : TypedCommand → List ℕ → TypedCommand
without_words typed [] = typed
without_words typed (b ∷ text) = wrong_buffer

-- a text up to the end, which is not empty
abbrev pub some_text : (List ℕ → TypedCommand) → List ℕ → TypedCommand
some_text typed [] = wrong_buffer
some_text typed (b ∷ text) = typed (b ∷ text)

-- a number; one that is too large for a number of a buffer counts as the largest
abbrev pub moves_to : List ℕ → TypedCommand
moves_to word = if is_numeral word
    then Changes (what.MoveTo (min (digits_value 10 word) (2 ^ 32 - 1))) else wrong_buffer

abbrev pub close_command : List ℕ → TypedCommand
close_command [] = Closes None
close_command (b ∷ text) = one_word (λ name. Closes (Some name)) (b ∷ text)

abbrev pub starts : List ℕ → List ℕ → Bool
starts front word = starts_with nat_eq word front

-- the value that takes the buffer out of the hotlist; other values mean nothing here
abbrev pub hotlist_value : List ℕ → TypedCommand
hotlist_value value = if bytes_eq value (codes "-1") then UsesHotlist hotlist.Remove else Nothing

-- a property of the buffer: `localvar_set_X` and `localvar_del_X` name a variable by what comes
-- after; `hotlist` is that which clients set as they show another buffer
abbrev pub set_property : List ℕ → List ℕ → TypedCommand
set_property word text =
    if bytes_eq word (codes "name") then some_text (λ value. Names value) text else (
    if bytes_eq word (codes "short_name") then some_text (λ value. Changes (what.ShortName value))
    text else (
    if bytes_eq word (codes "title") then some_text (λ value. Changes (what.Title value))
    text else (
    if bytes_eq word (codes "hotlist") then some_text hotlist_value text else (
    if starts (codes "localvar_set_") word
    then some_text (λ value. Changes
    (what.SetVar (record { name = drop 13 word; value = value }))) text else (
    if starts (codes "localvar_del_") word
    then without_words (Changes (what.RemoveVar (drop 13 word))) text else wrong_buffer)))))

-- the name or the number of a buffer alone, which clients type as they show another one
abbrev pub switch_command : List ℕ → List ℕ → TypedCommand
switch_command [] text = wrong_buffer
switch_command (b ∷ word) text = without_words (Switches (b ∷ word)) text

abbrev pub buffer_word : List ℕ → List ℕ → TypedCommand
buffer_word word text =
    if bytes_eq word (codes "add") then one_word (λ name. Adds name) text else (
    if bytes_eq word (codes "close") then close_command text else (
    if bytes_eq word (codes "move") then one_word moves_to text else (
    if bytes_eq word (codes "merge") then one_word (λ name. Merges name) text else (
    if bytes_eq word (codes "unmerge") then without_words (Changes what.Unmerge) text else (
    if bytes_eq word (codes "hide") then without_words (Changes what.Hide) text else (
    if bytes_eq word (codes "unhide") then without_words (Changes what.Unhide) text else (
    if bytes_eq word (codes "clear") then without_words (Changes what.Clear) text else (
    if bytes_eq word (codes "set") then set_property (word_of text) (rest_of text)
    else switch_command word text))))))))

abbrev pub buffer_command : List ℕ → TypedCommand
buffer_command text = buffer_word (word_of text) (rest_of text)

-- ---- options

-- a name, and a value up to the end that is not empty
abbrev pub set_option : List ℕ → List ℕ → TypedCommand
set_option name [] = wrong_arguments (codes "set")
set_option name (b ∷ value) = Sets name (b ∷ value)

abbrev pub set_command : List ℕ → TypedCommand
set_command text = set_option (word_of text) (rest_of text)

-- a name, and nothing after it
abbrev pub unset_command : List ℕ → TypedCommand
unset_command [] = wrong_arguments (codes "unset")
unset_command (b ∷ text) = if nat_lt 0 (length (rest_of (b ∷ text)))
    then wrong_arguments (codes "unset") else Unsets (word_of (b ∷ text))

-- nothing is after it
abbrev pub save_command : List ℕ → TypedCommand
save_command [] = Saves
save_command (b ∷ text) = wrong_arguments (codes "save")

unfoldable pub option_command : List ℕ → List ℕ → TypedCommand
option_command name rest =
    if bytes_eq name (codes "set") then set_command rest else (
    if bytes_eq name (codes "unset") then unset_command rest else (
    if bytes_eq name (codes "save") then save_command rest else unknown_command name))

-- ---- `/eval`

-- the text is not empty
abbrev pub eval_text : EvalUse → List ℕ → TypedCommand
eval_text usage [] = wrong_arguments (codes "eval")
eval_text usage (b ∷ text) = Evaluates usage (b ∷ text)

-- after `-n` a condition may come after `-c`
abbrev pub eval_printed : List ℕ → TypedCommand
eval_printed text = if is_first (codes "-c") text then eval_text eval.Test (rest_of text)
    else eval_text eval.Print text

abbrev pub eval_command : List ℕ → TypedCommand
eval_command text = if is_first (codes "-n") text then eval_printed (rest_of text)
    else eval_text eval.Run text

-- ---- `/filter`

abbrev pub wrong_filter : TypedCommand
wrong_filter = wrong_arguments (codes "filter")

-- a filter whose pattern, the rest of the text with its trailing blanks, is not empty
abbrev pub filter_with : List ℕ → List ℕ → List ℕ → List ℕ → TypedCommand
filter_with name buffers tags [] = wrong_filter
filter_with name buffers tags (b ∷ pattern) =
    UsesFilters (filtering.Add name buffers tags (b ∷ pattern))

-- three words, and the pattern after them
abbrev pub add_filter : List ℕ → TypedCommand
add_filter text = filter_with (word_of text) (second_of text) (word_of (after_second text))
    (rest_of (after_second text))

-- one word, and nothing after it
abbrev pub one_filter : (List ℕ → FilterChange) → List ℕ → TypedCommand
one_filter change [] = wrong_filter
one_filter change (b ∷ text) = if nat_lt 0 (length (rest_of (b ∷ text))) then wrong_filter
    else UsesFilters (change (word_of (b ∷ text)))

-- those of a name, or without one all
abbrev pub switch_filters : Switch → List ℕ → TypedCommand
switch_filters switch [] = UsesFilters (filtering.Switch None switch)
switch_filters switch (b ∷ text) = one_filter (λ name. filtering.Switch (Some name) switch)
    (b ∷ text)

abbrev pub filter_word : List ℕ → List ℕ → TypedCommand
filter_word word text =
    if bytes_eq word (codes "add") then add_filter text else (
    if bytes_eq word (codes "del") then one_filter filtering.Delete text else (
    if bytes_eq word (codes "enable") then switch_filters Enable text else (
    if bytes_eq word (codes "disable") then switch_filters Disable text else (
    if bytes_eq word (codes "toggle") then switch_filters Toggle text else wrong_filter))))

abbrev pub filter_command : List ℕ → TypedCommand
filter_command text = filter_word (word_of text) (rest_of text)

-- ---- `/help`

-- the form of a command is printed where it was typed
abbrev pub help_with : List ℕ → Option (List ℕ) → TypedCommand
help_with name None = Refused (codes "unknown command: /" ++ name)
help_with name (Some form) = Prints None [] [] form

abbrev pub help_on : List ℕ → TypedCommand
help_on name = help_with name (form_named name)

-- a name, with or without its `/`, and nothing after it; without one, all names
abbrev pub help_command : List ℕ → TypedCommand
help_command [] = Prints None [] [] names_told
help_command (b ∷ text) = if nat_lt 0 (length (rest_of (b ∷ text)))
    then wrong_arguments (codes "help") else help_on (without_slash (word_of (b ∷ text)))

-- ---- commands

-- `/quit` has no words after it
abbrev pub quit_command : List ℕ → TypedCommand
quit_command [] = Quits
quit_command (b ∷ text) = wrong_arguments (codes "quit")

-- nor has `/close`
abbrev pub close_here : List ℕ → TypedCommand
close_here [] = Closes None
close_here (b ∷ text) = wrong_arguments (codes "close")

-- what clients type as they show another buffer; that all of it was read means nothing here
abbrev pub input_command : List ℕ → TypedCommand
input_command text =
    if bytes_eq text (codes "set_unread_current_buffer") then Nothing else (
    if bytes_eq text (codes "hotlist_clear") then UsesHotlist hotlist.Clear
    else unknown_command (codes "input"))

-- one of two words
abbrev pub hotlist_command : List ℕ → TypedCommand
hotlist_command text =
    if bytes_eq text (codes "clear") then UsesHotlist hotlist.Clear else (
    if bytes_eq text (codes "remove") then UsesHotlist hotlist.Remove
    else wrong_arguments (codes "hotlist"))

unfoldable pub news_command : List ℕ → List ℕ → TypedCommand
news_command name rest =
    if bytes_eq name (codes "input") then input_command rest else (
    if bytes_eq name (codes "hotlist") then hotlist_command rest else option_command name rest)

abbrev pub command : List ℕ → List ℕ → TypedCommand
command name rest =
    if bytes_eq name (codes "print") then print_command rest else (
    if bytes_eq name (codes "buffer") then buffer_command rest else (
    if bytes_eq name (codes "close") then close_here rest else (
    if bytes_eq name (codes "quit") then quit_command rest else (
    if bytes_eq name (codes "eval") then eval_command rest else (
    if bytes_eq name (codes "filter") then filter_command rest else (
    if bytes_eq name (codes "help") then help_command rest else news_command name rest))))))

-- what one line asks for after a `/`
abbrev pub slash_command : List ℕ → TypedCommand
slash_command [] = command [] []
slash_command (b ∷ text) = if b == 47 then no_text_here
    else command (word_of (b ∷ text)) (rest_of (b ∷ text))

-- what one line asks for: a command after a `/`, and else nothing that a buffer can take
unfoldable pub typed_line : List ℕ → TypedCommand
typed_line [] = Nothing
typed_line (b ∷ text) = if b == 47 then slash_command text else no_text_here

-- the text that is evaluated, and what becomes of it
abbrev pub evaluation_of : TypedCommand → Option (EvalUse × List ℕ)
evaluation_of (Evaluates usage text) = Some (usage, text)
evaluation_of _ = None
