-- The words of a trigger.
use Rattle.std.specs.Prelude.{ℕ, zero, suc, Bool, true, false, not, ◌==◌, List, [], ◌∷◌, Option}
use Rattle.std.specs.Prelude.{Some, None, option_map, slice_get, if◌then◌else◌}
use Rattle.std.specs.Option.{option_and_then, unwrap_or}
use Rattle.std.specs.List.{list_all}
use Rattle.wc_text.specs.Splits.{past, word_of, rest_of}
use Rattle.wc_triggers.specs.Slashes.{unslashed}

-- the end of a text, or a blank
abbrev pub ends_word : List ℕ → Bool
ends_word [] = true
ends_word (b ∷ text) = b == 32

-- a word that was read up to its second quote, and what comes after that quote
abbrev pub quoted_word : List ℕ → Option (List ℕ) → Option (List ℕ × List ℕ)
quoted_word word None = None
quoted_word word (Some rest) = if ends_word rest then Some (word, past 32 rest) else None

-- The word at the front of a text, and what follows it after blanks. A word that begins with a quote
-- goes up to the next one that no backslash takes, after which the text ends or a blank stands;
-- another goes up to the next blank.
abbrev pub word_front : List ℕ → Option (List ℕ × List ℕ)
word_front [] = Some ([], [])
word_front (b ∷ text) =
    if b == 34 then quoted_word (unslashed 34 true text).0 (unslashed 34 true text).1
    else Some (word_of (b ∷ text), rest_of (b ∷ text))

abbrev pub with_word : List ℕ → Option (List (List ℕ)) → Option (List (List ℕ))
with_word word words = option_map (λ others. word ∷ others) words

-- all words of a text that begins with no blank, where they are at most n
unfoldable pub words_up_to : ℕ → List ℕ → Option (List (List ℕ))
words_up_to n [] = Some []
words_up_to zero (b ∷ text) = None
words_up_to (suc n) (b ∷ text) =
    option_and_then (λ front. with_word front.0 (words_up_to n front.1)) (word_front (b ∷ text))

-- it is not empty and has no blank
unfoldable pub is_name : List ℕ → Bool
is_name [] = false
is_name (b ∷ word) = list_all (λ byte. not (byte == 32)) (b ∷ word)

-- at least a name, a hook and its arguments
abbrev pub has_needed : List (List ℕ) → Bool
has_needed [] = false
has_needed (name ∷ []) = false
has_needed (name ∷ hook ∷ []) = false
has_needed (name ∷ hook ∷ arguments ∷ words) = is_name name

abbrev pub where_needed : List (List ℕ) → Option (List (List ℕ))
where_needed words = if has_needed words then Some words else None

-- the words of a trigger: from three to eight, the first of them a name
abbrev pub trigger_words : List ℕ → Option (List (List ℕ))
trigger_words text = option_and_then where_needed (words_up_to 8 (past 32 text))

-- the word at this place, which is empty where it lacks
abbrev pub word_at : List (List ℕ) → ℕ → List ℕ
word_at words place = unwrap_or (slice_get words place) []
