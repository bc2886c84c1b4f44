-- What a text that was read asks for.
use Rattle.std.specs.Prelude.{ℕ, ◌+◌, ◌-◌, ◌^◌, nat_lt, min, List, [], ◌∷◌, ◌++◌, codes, drop}
use Rattle.std.specs.Prelude.{find, length, if◌then◌else◌, Option, Some, None}
use Rattle.std.specs.Str.{IsUtf8, bytes_eq}
use Rattle.std.specs.Str.Parse.{digits_value}
use Rattle.std.specs.Borrow.{Bor}
use Rattle.wc_text.specs.Integer.{is_numeral}
use Rattle.wc_text.specs.Splits.{word_of, rest_of}
use Rattle.wc_model.specs.declared.change.What.TheVariants as what
use Rattle.wc_core.specs.declared.typed_buffer.BufferWord.{BufferWord}
use Rattle.wc_core.specs.declared.typed_buffer.BufferWord.TheVariants as words
use Rattle.wc_core.specs.declared.typed_buffer.Property.{Property}
use Rattle.wc_core.specs.declared.typed_buffer.Property.TheVariants as properties
use Rattle.wc_core.specs.declared.typed.CommandText.{CommandText}
use Rattle.wc_core.specs.declared.typed.CommandText.TheVariants as asked
use Rattle.wc_core.specs.Typed.{TypedCommand, Nothing, Quits, Refused, Others, Prints, Adds, Closes}
use Rattle.wc_core.specs.declared.typed_eval.EvalUse.{EvalUse}
use Rattle.wc_core.specs.declared.typed_filter.FilterUse.{FilterUse}
use Rattle.wc_core.specs.declared.typed_filter.FilterUse.TheVariants as usage
use Rattle.wc_core.specs.declared.typed_filter.FilterChange.{FilterChange}
use Rattle.wc_core.specs.declared.typed_filter.FilterChange.TheVariants as filtering
use Rattle.wc_core.specs.Typed.{Merges, Names, Changes, Sets, Unsets, Switches, Saves, Evaluates}
use Rattle.wc_core.specs.Forms.{names_told}
use Rattle.wc_core.specs.Typed.{UsesHotlist, UsesFilters, hotlist_value, lines_of_text, tags_of}
use Rattle.wc_core.specs.Typed.{wrong_buffer, some_text, without_words, starts}

-- a word that was found
abbrev pub word_in : Option (Bor (List ℕ)) → Option (List ℕ)
word_in None = None
word_in (Some word) = Some word.now

-- a change of filters whose texts are lent
abbrev pub filters_meant : FilterUse → FilterChange
filters_meant (usage.Add name buffers tags pattern) =
    filtering.Add name.now buffers.now tags.now pattern.now
filters_meant (usage.Delete name) = filtering.Delete name.now
filters_meant (usage.Switch name switch) = filtering.Switch (word_in name) switch

abbrev pub meaning : CommandText → TypedCommand
meaning asked.Nothing = Nothing
meaning asked.Quit = Quits
meaning (asked.Refused front name) = Refused (front.now ++ name.now)
meaning (asked.Other front name) = Others (front.now ++ name.now)
meaning (asked.Print buffer tags prefix message) = Prints (word_in buffer) (tags_of tags.now)
    prefix.now message.now
meaning (asked.Add name) = Adds name.now
meaning (asked.Close name) = Closes (word_in name)
meaning (asked.MoveTo number) = Changes (what.MoveTo number)
meaning (asked.Merge name) = Merges name.now
meaning asked.Unmerge = Changes what.Unmerge
meaning asked.Hide = Changes what.Hide
meaning asked.Unhide = Changes what.Unhide
meaning asked.Clear = Changes what.Clear
meaning (asked.Name name) = Names name.now
meaning (asked.ShortName name) = Changes (what.ShortName name.now)
meaning (asked.Title title) = Changes (what.Title title.now)
meaning (asked.SetVar name value) =
    Changes (what.SetVar (record { name = name.now; value = value.now }))
meaning (asked.RemoveVar name) = Changes (what.RemoveVar name.now)
meaning (asked.SetOption name value) = Sets name.now value.now
meaning (asked.UnsetOption name) = Unsets name.now
meaning (asked.Switch name) = Switches name.now
meaning asked.Save = Saves
meaning (asked.UseHotlist usage) = UsesHotlist usage
meaning (asked.UseFilters change) = UsesFilters (filters_meant change)
meaning asked.ListCommands = Prints None [] [] names_told
meaning (asked.Eval usage text) = Evaluates usage text.now

-- two texts that were found, as one
abbrev pub texts_in : Option (Bor (List ℕ) × Bor (List ℕ)) → Option (List ℕ)
texts_in None = None
texts_in (Some (front, name)) = Some (front.now ++ name.now)

-- a text that is evaluated
abbrev pub evaluation_in : Option (EvalUse × Bor (List ℕ)) → Option (EvalUse × List ℕ)
evaluation_in None = None
evaluation_in (Some (usage, text)) = Some (usage, text.now)

-- ---- the words of `/buffer`

abbrev pub name_of : BufferWord → List ℕ
name_of words.Add = codes "add"
name_of words.Close = codes "close"
name_of words.Move = codes "move"
name_of words.Merge = codes "merge"
name_of words.Unmerge = codes "unmerge"
name_of words.Hide = codes "hide"
name_of words.Unhide = codes "unhide"
name_of words.Clear = codes "clear"
name_of words.Set = codes "set"

abbrev pub all_words : List BufferWord
all_words = words.Add ∷ words.Close ∷ words.Move ∷ words.Merge ∷ words.Unmerge ∷ words.Hide ∷
    words.Unhide ∷ words.Clear ∷ words.Set ∷ []

abbrev pub word_named : List ℕ → Option BufferWord
word_named text = find (λ word. bytes_eq text (name_of word)) all_words

-- the only word of a text
abbrev pub only_word : List ℕ → Option (List ℕ)
only_word [] = None
only_word (b ∷ text) = if nat_lt 0 (length (rest_of (b ∷ text))) then None
    else Some (word_of (b ∷ text))

-- a property that is set to a text
abbrev pub property_set : Property → List ℕ → TypedCommand
property_set properties.Name text = some_text (λ value. Names value) text
property_set properties.ShortName text = some_text (λ value. Changes (what.ShortName value)) text
property_set properties.Title text = some_text (λ value. Changes (what.Title value)) text
property_set properties.Hotlist text = some_text hotlist_value text
property_set (properties.SetVar name) text =
    some_text (λ value. Changes (what.SetVar (record { name = name.now; value = value }))) text
property_set (properties.RemoveVar name) text =
    without_words (Changes (what.RemoveVar name.now)) text

abbrev pub set_to : Option Property → List ℕ → TypedCommand
set_to None text = wrong_buffer
set_to (Some property) text = property_set property text

-- the variable that a word names is set or removed
abbrev pub set_var_property : List ℕ → List ℕ → TypedCommand
set_var_property word text =
    if starts (codes "localvar_set_") word
    then some_text (λ value. Changes
    (what.SetVar (record { name = drop 13 word; value = value }))) text else (
    if starts (codes "localvar_del_") word
    then without_words (Changes (what.RemoveVar (drop 13 word))) text else wrong_buffer)

-- the number that digits write, or the largest of 32 bits
abbrev pub number_of : List ℕ → Option ℕ
number_of word = if is_numeral word then Some (min (digits_value 10 word) (2 ^ 32 - 1)) else None

-- ---- the lines of a text

-- the lines of what is left of a text, where something is
abbrev pub lines_left : Option (Bor (List ℕ)) → List (List ℕ)
lines_left None = []
lines_left (Some text) = lines_of_text text.now

-- how long it is, with one for the line feed in front
abbrev pub length_left : Option (Bor (List ℕ)) → ℕ
length_left None = 0
length_left (Some text) = 1 + length text.now

abbrev pub LeftUtf8 : Option (Bor (List ℕ)) → Type 0
LeftUtf8 None = Unit {0}
LeftUtf8 (Some text) = IsUtf8 text.now
