-- Words of a typed line, read one after another.
use Rattle.std.proofs.Common.{◌≡◌, ℕ, ◌-◌, ◌^◌, ◌<◌, Bool, true, false, cond, min, List, length, get_or, Option, Some, None, refl, ap, sym, ◌∙◌, arith, codes}
use Rattle.std.specs.List.{list_all}
use Rattle.std.specs.Char.{is_ascii_digit}
use Rattle.std.specs.Str.{bytes_eq}
use Rattle.std.specs.Str.Parse.{digits_value}
use Rattle.std.proofs.lemmas.Bool.{false≢true}
use Rattle.std.proofs.lemmas.Bool.Decides.{nat_tests}
use Rattle.wc_text.proofs.IntegerLemmas.{list_all_fails}
use Rattle.wc_text.specs.Splits.{word_of, rest_of}
use Rattle.wc_model.specs.declared.change.What.TheVariants as what
use Rattle.wc_core.specs.declared.typed_buffer.BufferWord.{BufferWord}
use Rattle.wc_core.specs.declared.typed_buffer.BufferWord.TheVariants as words
use Rattle.wc_core.specs.Typed.{TypedCommand, Adds, Merges, Changes, one_word, without_words, moves_to, close_command, set_property, switch_command, buffer_word, buffer_command}
use Rattle.wc_core.specs.TypedSeen.{set_var_property, number_of, word_named}

fifth : {A : Type 0} (a b c d : Bool) (x y z v w : A) → a ≡ false → b ≡ false → c ≡ false → d ≡ false → cond a x (cond b y (cond c z (cond d v w))) ≡ w
fifth true b c d x y z v w p q r s = absurd (false≢true (sym p))
fifth false true c d x y z v w p q r s = absurd (false≢true (sym q))
fifth false false true d x y z v w p q r s = absurd (false≢true (sym r))
fifth false false false true x y z v w p q r s = absurd (false≢true (sym s))
fifth false false false false x y z v w p q r s = refl

-- a word that is no other property is one of a variable
pub other_property : (word text : List ℕ) → bytes_eq word (codes "name") ≡ false → bytes_eq word (codes "short_name") ≡ false → bytes_eq word (codes "title") ≡ false → bytes_eq word (codes "hotlist") ≡ false
    → set_property word text ≡ set_var_property word text
other_property word text name short title seen =
    fifth (bytes_eq word (codes "name")) (bytes_eq word (codes "short_name")) (bytes_eq word (codes "title")) (bytes_eq word (codes "hotlist")) _ _ _ _ (set_var_property word text) name short title seen

-- what each word asks for
abbrev pub word_typed : BufferWord → List ℕ → TypedCommand
word_typed words.Add text = one_word (λ name. Adds name) text
word_typed words.Close text = close_command text
word_typed words.Move text = one_word moves_to text
word_typed words.Merge text = one_word (λ name. Merges name) text
word_typed words.Unmerge text = without_words (Changes what.Unmerge) text
word_typed words.Hide text = without_words (Changes what.Hide) text
word_typed words.Unhide text = without_words (Changes what.Unhide) text
word_typed words.Clear text = without_words (Changes what.Clear) text
word_typed words.Set text = set_property (word_of text) (rest_of text)

-- of a first word that may be none of them
abbrev pub typed_by : List ℕ → Option BufferWord → List ℕ → TypedCommand
typed_by first None text = switch_command first text
typed_by first (Some word) text = word_typed word text

typed_if : (first : List ℕ) (b : Bool) (word : BufferWord) (others : Option BufferWord) (text : List ℕ) → typed_by first (cond b (Some word) others) text ≡ cond b (word_typed word text) (typed_by first others text)
typed_if first true word others text = refl
typed_if first false word others text = refl

buffer_word-named : (word text : List ℕ) → typed_by word (word_named word) text ≡ buffer_word word text
buffer_word-named word text =
    typed_if word (bytes_eq word (codes "add")) words.Add _ text ∙ ap (cond (bytes_eq word (codes "add")) (word_typed words.Add text)) (
    typed_if word (bytes_eq word (codes "close")) words.Close _ text ∙ ap (cond (bytes_eq word (codes "close")) (word_typed words.Close text)) (
    typed_if word (bytes_eq word (codes "move")) words.Move _ text ∙ ap (cond (bytes_eq word (codes "move")) (word_typed words.Move text)) (
    typed_if word (bytes_eq word (codes "merge")) words.Merge _ text ∙ ap (cond (bytes_eq word (codes "merge")) (word_typed words.Merge text)) (
    typed_if word (bytes_eq word (codes "unmerge")) words.Unmerge _ text ∙ ap (cond (bytes_eq word (codes "unmerge")) (word_typed words.Unmerge text)) (
    typed_if word (bytes_eq word (codes "hide")) words.Hide _ text ∙ ap (cond (bytes_eq word (codes "hide")) (word_typed words.Hide text)) (
    typed_if word (bytes_eq word (codes "unhide")) words.Unhide _ text ∙ ap (cond (bytes_eq word (codes "unhide")) (word_typed words.Unhide text)) (
    typed_if word (bytes_eq word (codes "clear")) words.Clear _ text ∙ ap (cond (bytes_eq word (codes "clear")) (word_typed words.Clear text)) (
    typed_if word (bytes_eq word (codes "set")) words.Set None text))))))))

-- the word of a text was read
pub command_at : (text first rest : List ℕ) (word : BufferWord) → first ≡ word_of text → rest ≡ rest_of text → word_named first ≡ Some word → buffer_command text ≡ word_typed word rest
command_at text first rest word front back named =
    sym (buffer_word-named (word_of text) (rest_of text)) ∙ ap (λ o. typed_by (word_of text) o (rest_of text)) (ap word_named (sym front) ∙ named) ∙ ap (word_typed word) (sym back)

-- its word was none of them
pub command_else : (text first rest : List ℕ) → first ≡ word_of text → rest ≡ rest_of text → word_named first ≡ None → buffer_command text ≡ switch_command first rest
command_else text first rest front back none =
    sym (buffer_word-named (word_of text) (rest_of text)) ∙ ap (λ o. typed_by (word_of text) o (rest_of text)) (ap word_named (sym front) ∙ none) ∙ ap (λ word. switch_command word (rest_of text)) (sym front) ∙ ap (switch_command first) (sym back)

-- where a byte is no digit, there is no number
pub no_number : (ds : List ℕ) (i : ℕ) → i < length ds → is_ascii_digit (get_or ds i 0) ≡ false → number_of ds ≡ None
no_number ds i inside fails =
    let h : list_all is_ascii_digit ds ≡ false = list_all_fails is_ascii_digit ds i inside fails in
    grind (arith, nat_tests)

pub number_at : (ds : List ℕ) → 0 < length ds → list_all is_ascii_digit ds ≡ true → number_of ds ≡ Some (min (digits_value 10 ds) (2 ^ 32 - 1))
number_at ds some digits = grind (arith, nat_tests)
