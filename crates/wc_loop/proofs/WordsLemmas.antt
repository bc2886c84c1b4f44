-- How the words are read one after another.
use Rattle.std.proofs.Common.{◌≡◌, ℕ, ◌+◌, String, arith, Bool, true, false, cond, eqb, ◌||◌, Err, Option, Some, None, List, [], ◌∷◌, ◌++◌, refl, ap}
use Rattle.std.specs.Prelude.{map, string_bytes}
use Rattle.std.specs.List.{AllByRecursion}
use Rattle.std.specs.Str.{IsUtf8}
use Rattle.std.proofs.lemmas.Str.{IsUtf8-string_bytes}
use Rattle.wc_text.proofs.Utf8Lemmas.{utf8_cons}
use Rattle.wc_loop.specs.declared.words.Wish.{Wish}
use Rattle.wc_loop.specs.Words.{is_folder, is_command, asked_by, asked_with, takes_number, takes_value, wish_from, folder_from, with_slash, commands_from, commands_of}

pub flag_step : (place : ℕ) (wish asked : Wish) (word : List ℕ) (words : List (List ℕ)) → asked_by wish word ≡ Some asked
    → wish_from place wish (word ∷ words) ≡ wish_from (place + 1) asked words
flag_step place wish asked word [] e = rw e refl
flag_step place wish asked word (v ∷ vs) e = rw e refl

pub lone_step : (place : ℕ) (wish : Wish) (word : List ℕ) → asked_by wish word ≡ None → wish_from place wish (word ∷ []) ≡ Err (place + 1)
lone_step place wish word e = rw e refl

pub value_step : (place : ℕ) (wish asked : Wish) (word value : List ℕ) (words ws vs : List (List ℕ)) → words ≡ word ∷ vs → vs ≡ value ∷ ws → asked_by wish word ≡ None → takes_value word ≡ true → asked_with wish word value ≡ Some asked
    → wish_from place wish words ≡ wish_from (place + 2) asked ws
value_step place wish asked word value words ws vs e f none takes asks = rw (e, f, none, takes, asks) refl

pub unknown_step : (place : ℕ) (wish : Wish) (word value : List ℕ) (words ws vs : List (List ℕ)) → words ≡ word ∷ vs → vs ≡ value ∷ ws → asked_by wish word ≡ None → takes_value word ≡ false
    → wish_from place wish words ≡ Err (place + 1)
unknown_step place wish word value words ws vs e f none takes = rw (e, f, none, takes) refl

pub unreadable_step : (place : ℕ) (wish : Wish) (word value : List ℕ) (words ws vs : List (List ℕ)) → words ≡ word ∷ vs → vs ≡ value ∷ ws → asked_by wish word ≡ None → takes_value word ≡ true → asked_with wish word value ≡ None
    → wish_from place wish words ≡ Err (place + 2)
unreadable_step place wish word value words ws vs e f none takes asks = rw (e, f, none, takes, asks) refl

-- how the folder is named, word by word
pub names_folder : (folder : Option (List ℕ)) (word value : List ℕ) (rest others following : List (List ℕ)) → rest ≡ word ∷ others → others ≡ value ∷ following → is_folder word ≡ true → folder_from folder rest ≡ folder_from (Some value) following
names_folder folder word value rest others following e q t = rw (e, q, t) refl

pub names_turns : (folder : Option (List ℕ)) (word value : List ℕ) (rest others following : List (List ℕ)) → rest ≡ word ∷ others → others ≡ value ∷ following → is_folder word ≡ false → (takes_number word || is_command word) ≡ true → folder_from folder rest ≡ folder_from folder following
names_turns folder word value rest others following e q f t = rw (e, q, f, t) refl

pub names_none : (folder : Option (List ℕ)) (word value : List ℕ) (rest others following : List (List ℕ)) → rest ≡ word ∷ others → others ≡ value ∷ following → is_folder word ≡ false → (takes_number word || is_command word) ≡ false → folder_from folder rest ≡ folder_from folder others
names_none folder word value rest others following e q f t = rw (e, q, f, t) refl

pub names_last : (folder : Option (List ℕ)) (word : List ℕ) (rest others : List (List ℕ)) → rest ≡ word ∷ others → others ≡ [] → folder_from folder rest ≡ folder
names_last folder word rest others e q = rw (e, q) refl

-- how the commands are named, word by word
pub names_command : (commands : List (List ℕ)) (word value : List ℕ) (rest others following : List (List ℕ)) → rest ≡ word ∷ others → others ≡ value ∷ following → is_command word ≡ true → commands_from commands rest ≡ commands_from (commands ++ with_slash value ∷ []) following
names_command commands word value rest others following e q t = rw (e, q, t) refl

pub names_other : (commands : List (List ℕ)) (word value : List ℕ) (rest others following : List (List ℕ)) → rest ≡ word ∷ others → others ≡ value ∷ following → is_command word ≡ false → (takes_number word || is_folder word) ≡ true → commands_from commands rest ≡ commands_from commands following
names_other commands word value rest others following e q f t = rw (e, q, f, t) refl

pub names_nothing : (commands : List (List ℕ)) (word value : List ℕ) (rest others following : List (List ℕ)) → rest ≡ word ∷ others → others ≡ value ∷ following → is_command word ≡ false → (takes_number word || is_folder word) ≡ false → commands_from commands rest ≡ commands_from commands others
names_nothing commands word value rest others following e q f t = rw (e, q, f, t) refl

pub commands_last : (commands : List (List ℕ)) (word : List ℕ) (rest others : List (List ℕ)) → rest ≡ word ∷ others → others ≡ [] → commands_from commands rest ≡ commands
commands_last commands word rest others e q = rw (e, q) refl

pub pushed_map : {Z : Type 0} (xs : List (String Z)) (x : String Z) → map string_bytes (xs ++ x ∷ []) ≡ map string_bytes xs ++ string_bytes x ∷ []
pushed_map [] x = refl
pushed_map (y ∷ xs) x = ap (λ t. string_bytes y ∷ t) (pushed_map xs x)

-- ---- the commands are text

words_texts : {Z : Type 0} (words : List (String Z)) → AllByRecursion IsUtf8 (map string_bytes words)
words_texts [] = tt
words_texts (word ∷ words) = (IsUtf8-string_bytes word, words_texts words)

all_more : (commands : List (List ℕ)) (command : List ℕ) → AllByRecursion IsUtf8 commands → IsUtf8 command → AllByRecursion IsUtf8 (commands ++ command ∷ [])
all_more [] command all one = (one, tt)
all_more (c ∷ commands) command all one = (all.0, all_more commands command all.1 one)

slash_text : (text : List ℕ) → IsUtf8 text → IsUtf8 (with_slash text)
slash_text [] utf8 = utf8_cons 47 [] (omega arith) utf8
slash_text (byte ∷ bytes) utf8 = by (eqb byte 47) where
  by : (t : Bool) → IsUtf8 (cond t (byte ∷ bytes) (47 ∷ byte ∷ bytes))
  by true = utf8
  by false = utf8_cons 47 (byte ∷ bytes) (omega arith) utf8

from_texts : (commands words : List (List ℕ)) → AllByRecursion IsUtf8 commands → AllByRecursion IsUtf8 words → AllByRecursion IsUtf8 (commands_from commands words)
from_texts commands [] all utf8 = all
from_texts commands (word ∷ []) all utf8 = all
from_texts commands (word ∷ value ∷ words) all utf8 =
    by (is_command word) (takes_number word || is_folder word) (from_texts (commands ++ with_slash value ∷ []) words (all_more commands (with_slash value) all (slash_text value utf8.1.0)) utf8.1.1) (from_texts commands words all utf8.1.1) (from_texts commands (value ∷ words) all utf8.1)
  where
    by : (s t : Bool) → AllByRecursion IsUtf8 (commands_from (commands ++ with_slash value ∷ []) words) → AllByRecursion IsUtf8 (commands_from commands words) → AllByRecursion IsUtf8 (commands_from commands (value ∷ words))
        → AllByRecursion IsUtf8 (cond s (commands_from (commands ++ with_slash value ∷ []) words) (cond t (commands_from commands words) (commands_from commands (value ∷ words))))
    by true t one two three = one
    by false true one two three = two
    by false false one two three = three

pub commands_texts : {Z : Type 0} (words : List (String Z)) → AllByRecursion IsUtf8 (commands_of (map string_bytes words))
commands_texts words = from_texts [] (map string_bytes words) tt (words_texts words)

-- what `read_words` needs
pub ruleset read_words_facts = (flag_step, lone_step)
