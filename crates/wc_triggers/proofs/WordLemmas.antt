-- The words of a trigger: one after another, and that they are UTF-8.
use Rattle.std.proofs.Common.{◌≡◌, ℕ, zero, suc, ◌-◌, ◌<◌, Bool, true, false, cond, List, [], ◌∷◌, ◌++◌, length, Option, Some, None, option_map, refl, ap, sym, subst, ◌∙◌, arith, append_assoc, append-nil}
use Rattle.std.specs.Prelude.{◌==◌, All, IfSome}
use Rattle.std.specs.Option.{option_and_then}
use Rattle.std.specs.Str.{IsUtf8}
use Rattle.std.proofs.lemmas.List.Elements.{All-nil, All-cons, All-head, All-tail}
use Rattle.std.proofs.lemmas.Str.{IsUtf8-nil}
use Rattle.wc_text.proofs.Utf8Lemmas.{utf8_parts}
use Rattle.wc_text.specs.Splits.{past, onward, word_of, rest_of}
use Rattle.wc_triggers.specs.Slashes.{unslashed}
use Rattle.wc_triggers.specs.Words.{ends_word, quoted_word, word_front, with_word, words_up_to, has_needed, where_needed, trigger_words, word_at}
use Rattle.wc_triggers.proofs.SlashLemmas.{unslashed_utf8}
use Rattle.wc_triggers.proofs.TextLemmas.{is_byte, before_text, onward_text, past_text}

abbrev pub Words : Type 0
Words = List (List ℕ)

-- words, and then others
abbrev pub words_after : Words → Option Words → Option Words
words_after words others = option_map (λ more. words ++ more) others

after_more : (words : Words) (word : List ℕ) (others : Option Words) → words_after (words ++ word ∷ []) others ≡ words_after words (with_word word others)
after_more words word None = refl
after_more words word (Some others) = ap Some (append_assoc words (word ∷ []) others)

pub after_none : (others : Option Words) → words_after [] others ≡ others
after_none None = refl
after_none (Some others) = refl

module _ (words : Words) (left : ℕ) (b : ℕ) (text : List ℕ) (all : Option Words) (so_far : words_after words (words_up_to (suc left) (b ∷ text)) ≡ all) where
  -- one word more
  pub next_word : (word following : List ℕ) → word_front (b ∷ text) ≡ Some (word, following) → words_after (words ++ word ∷ []) (words_up_to left following) ≡ all
  unfolding words_up_to
  next_word word following e =
      after_more words word (words_up_to left following)
      ∙ ap (λ o. words_after words (option_and_then (λ (front : List ℕ × List ℕ). with_word front.0 (words_up_to left front.1)) o)) (sym e)
      ∙ so_far

  pub wrong_word : word_front (b ∷ text) ≡ None → None ≡ all
  unfolding words_up_to
  wrong_word e = ap (λ o. words_after words (option_and_then (λ (front : List ℕ × List ℕ). with_word front.0 (words_up_to left front.1)) o)) (sym e) ∙ so_far

-- the same as the code has it
pub next_of : (words : Words) (left : ℕ) (rest : List ℕ) (all : Option Words) (word following : List ℕ) → 0 < left → 0 < length rest →
    words_after words (words_up_to left rest) ≡ all → Some (word, following) ≡ word_front rest →
    words_after (words ++ word ∷ []) (words_up_to (left - 1) following) ≡ all
next_of words zero rest all word following more some so_far e = absurd (omega (arith, more))
next_of words (suc n) [] all word following more some so_far e = absurd (omega (arith, some))
next_of words (suc n) (b ∷ text) all word following more some so_far e =
    let less : suc n - 1 ≡ n = omega arith in
    ap (λ k. words_after (words ++ word ∷ []) (words_up_to k following)) less ∙ next_word words n b text all so_far word following (sym e)

pub wrong_of : (words : Words) (left : ℕ) (rest : List ℕ) (all : Option Words) → 0 < left → 0 < length rest →
    words_after words (words_up_to left rest) ≡ all → None ≡ word_front rest → None ≡ all
wrong_of words zero rest all more some so_far e = absurd (omega (arith, more))
wrong_of words (suc n) [] all more some so_far e = absurd (omega (arith, some))
wrong_of words (suc n) (b ∷ text) all more some so_far e = wrong_word words n b text all so_far (sym e)

pub too_many : (words : Words) (left : ℕ) (rest : List ℕ) (all : Option Words) → left ≡ 0 → 0 < length rest →
    words_after words (words_up_to left rest) ≡ all → None ≡ all
unfolding words_up_to
too_many words zero [] all none some so_far = absurd (omega (arith, some))
too_many words zero (b ∷ text) all none some so_far = so_far
too_many words (suc left) rest all none some so_far = absurd (omega (arith, none))

pub all_words : (words : Words) (left : ℕ) (rest : List ℕ) (all : Option Words) → length rest ≡ 0 →
    words_after words (words_up_to left rest) ≡ all → Some words ≡ all
unfolding words_up_to
all_words words left (b ∷ text) all none so_far = absurd (omega (arith, none))
all_words words zero [] all none so_far = ap Some (sym (append-nil words)) ∙ so_far
all_words words (suc left) [] all none so_far = ap Some (sym (append-nil words)) ∙ so_far

-- ---- UTF-8

abbrev FrontUtf8 : Option (List ℕ × List ℕ) → Type 0
FrontUtf8 front = IfSome front (λ f. IsUtf8 f.0 × IsUtf8 f.1)

quoted_utf8 : (word : List ℕ) (rest : Option (List ℕ)) → IsUtf8 word → IfSome rest IsUtf8 → FrontUtf8 (quoted_word word rest)
quoted_utf8 word None here there = tt
quoted_utf8 word (Some rest) here there = by (ends_word rest) where
  by : (t : Bool) → FrontUtf8 (cond t (Some (word, past 32 rest)) None)
  by true = (here, past_text rest there)
  by false = tt

front_by : (t : Bool) (a b : Option (List ℕ × List ℕ)) → (t ≡ true → FrontUtf8 a) → FrontUtf8 b → FrontUtf8 (cond t a b)
front_by true a b first second = first refl
front_by false a b first second = second

front_utf8 : (text : List ℕ) → IsUtf8 text → FrontUtf8 (word_front text)
front_utf8 [] utf8 = (IsUtf8-nil, IsUtf8-nil)
front_utf8 (b ∷ text) utf8 =
    front_by (b == 34) (quoted_word (unslashed 34 true text).0 (unslashed 34 true text).1) (Some (word_of (b ∷ text), rest_of (b ∷ text)))
    (λ e. let read = unslashed_utf8 34 true text (omega arith) (utf8_parts [] b text (is_byte b 34 (omega arith) e) utf8).1 in
    quoted_utf8 (unslashed 34 true text).0 (unslashed 34 true text).1 read.0 read.1)
    (before_text 32 [] (b ∷ text) (omega arith) utf8, past_text (onward 32 (b ∷ text)) (onward_text 32 [] (b ∷ text) (omega arith) utf8))

abbrev WordsUtf8 : Option Words → Type 0
WordsUtf8 words = IfSome words (All IsUtf8)

with_utf8 : (word : List ℕ) (others : Option Words) → IsUtf8 word → WordsUtf8 others → WordsUtf8 (with_word word others)
with_utf8 word None here there = tt
with_utf8 word (Some others) here there = All-cons IsUtf8 word others here there

up_to_utf8 : (n : ℕ) (text : List ℕ) → IsUtf8 text → WordsUtf8 (words_up_to n text)
unfolding words_up_to
up_to_utf8 zero [] utf8 = All-nil IsUtf8
up_to_utf8 (suc n) [] utf8 = All-nil IsUtf8
up_to_utf8 zero (b ∷ text) utf8 = tt
up_to_utf8 (suc n) (b ∷ text) utf8 = by (word_front (b ∷ text)) (front_utf8 (b ∷ text) utf8) (up_to_utf8 n) where
  by : (front : Option (List ℕ × List ℕ)) → FrontUtf8 front → ((rest : List ℕ) → IsUtf8 rest → WordsUtf8 (words_up_to n rest)) →
      WordsUtf8 (option_and_then (λ (f : List ℕ × List ℕ). with_word f.0 (words_up_to n f.1)) front)
  by None parts more = tt
  by (Some front) parts more = with_utf8 front.0 (words_up_to n front.1) parts.0 (more front.1 parts.1)

needed_utf8 : (words : Option Words) → WordsUtf8 words → WordsUtf8 (option_and_then where_needed words)
needed_utf8 None utf8 = tt
needed_utf8 (Some words) utf8 = by (has_needed words) where
  by : (t : Bool) → WordsUtf8 (cond t (Some words) None)
  by true = utf8
  by false = tt

-- the words of UTF-8 are
pub trigger_words_utf8 : (text : List ℕ) (words : Words) → IsUtf8 text → Some words ≡ trigger_words text → All IsUtf8 words
trigger_words_utf8 text words utf8 e =
    subst WordsUtf8 (sym e) (needed_utf8 (words_up_to 8 (past 32 text)) (up_to_utf8 8 (past 32 text) (past_text text utf8)))

pub word_at_utf8 : (words : Words) (place : ℕ) → All IsUtf8 words → IsUtf8 (word_at words place)
word_at_utf8 [] place utf8 = IsUtf8-nil
word_at_utf8 (word ∷ words) zero utf8 = All-head IsUtf8 word words utf8
word_at_utf8 (word ∷ words) (suc place) utf8 = word_at_utf8 words place (All-tail IsUtf8 word words utf8)
