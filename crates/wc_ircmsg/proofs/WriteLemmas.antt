-- A line that is written spells the message that it is written of.
use Rattle.std.proofs.Common.{◌≡◌, ◌≢◌, ℕ, zero, suc, ◌≤◌, inl, inr, List, [], ◌∷◌, ◌++◌, length, refl, ap, sym, ◌∙◌, arith, eqb, Bool, true, false, cond, not, None, subst, append-nil}
use Rattle.std.proofs.lemmas.Bool.{false≢true, and_parts, and_from, or_parts}
use Rattle.std.proofs.lemmas.List.Folds.{list_all-append}
use Rattle.std.proofs.lemmas.Str.{IsUtf8-append, IsUtf8-nil}
use Rattle.std.specs.List.{list_all, list_any}
use Rattle.std.specs.Str.{IsUtf8}
use Rattle.wc_text.proofs.LossyLemmas.{lossy_of_utf8}
use Rattle.wc_text.proofs.Utf8Lemmas.{utf8_cons}
use Rattle.wc_ircmsg.specs.declared.message.Message.{Message}
use Rattle.wc_text.specs.Splits.{Lacks, BeginsWithout, WordAndRest}
use Rattle.wc_ircmsg.specs.Params.{Unmarked, FirstParam, SpellsParams}
use Rattle.wc_ircmsg.specs.Grammar.{SpellsLine, ReadsLine}
use Rattle.wc_ircmsg.specs.Utf8.{AreUtf8Texts}
use Rattle.wc_ircmsg.specs.Written.{needs_colon, are_words, ends_lines, is_one_line, IsWritable, last_text, params_text, line_of, without_prefix}
use Rattle.wc_text.proofs.WordLemmas.{byte_differs}
use Rattle.wc_ircmsg.proofs.CommandLemmas.{command_signs, command_filled, Lacks-signs, BeginsWithout-signs, signs_in_line, signs_text}

-- parameters as they are written, without the blank in front
abbrev after_blank : List (List ℕ) → List ℕ
after_blank [] = []
after_blank (param ∷ []) = last_text param
after_blank (param ∷ next ∷ params) = param ++ params_text (next ∷ params)

-- a parameter that needs no `:` is a word that does not begin with one
record IsWord (param : List ℕ) : Type 0 where
  first : ℕ
  others : List ℕ
  parts : param ≡ first ∷ others
  no_colon : first ≢ 58
  solid : Lacks 32 (first ∷ others)

Lacks-blank : (text : List ℕ) → list_any (λ c. eqb c 32) text ≡ false → Lacks 32 text
Lacks-blank [] none = tt
Lacks-blank (b ∷ text) none = let both = or_parts (eqb b 32) (list_any (λ c. eqb c 32) text) none in (byte_differs b 32 both.0, Lacks-blank text both.1)

word_from : (param : List ℕ) → needs_colon param ≡ false → IsWord param
word_from [] plain = absurd (false≢true (sym plain))
word_from (b ∷ param) plain =
    let both = or_parts (eqb b 58) (list_any (λ c. eqb c 32) (b ∷ param)) plain in
    record { first = b; others = param; parts = refl; no_colon = byte_differs b 58 both.0; solid = Lacks-blank (b ∷ param) both.1 }

-- it does not begin with a blank
word_bare : (param rest : List ℕ) → IsWord param → BeginsWithout 32 (param ++ rest)
word_bare param rest word = subst (λ p. BeginsWithout 32 (p ++ rest)) (sym word.parts) word.solid.0

last_bare : (param : List ℕ) → BeginsWithout 32 (last_text param)
last_bare param = by (needs_colon param) refl where
  by : (t : Bool) → needs_colon param ≡ t → BeginsWithout 32 (cond t (58 ∷ param) param)
  by true e = λ is. absurd (omega arith)
  by false e = subst (BeginsWithout 32) (append-nil param) (word_bare param [] (word_from param e))

not_true : (t : Bool) → not t ≡ true → t ≡ false
not_true true is = absurd (false≢true is)
not_true false is = refl

after_bare : (params : List (List ℕ)) → are_words params ≡ true → BeginsWithout 32 (after_blank params)
after_bare [] words = tt
after_bare (param ∷ []) words = last_bare param
after_bare (param ∷ next ∷ params) words =
    word_bare param (params_text (next ∷ params)) (word_from param (not_true (needs_colon param) (and_parts (not (needs_colon param)) (are_words (next ∷ params)) words).0))

-- the first of several
first_word : (more : ℕ) (param rest : List ℕ) → IsWord param → BeginsWithout 32 rest → FirstParam (suc more) (param ++ 32 ∷ rest) param rest
first_word more param rest word bare = subst (λ p. FirstParam (suc more) (p ++ 32 ∷ rest) p rest) (sym word.parts) (inr (
  word.no_colon,
  record {
    solid = word.solid;
    gap = 1;
    spelled = refl;
    parted = λ some. omega arith;
    bare = bare;
  },
))

-- the last one
last_word : (more : ℕ) (param : List ℕ) → IsWord param → FirstParam more param param []
last_word more param word = subst (λ p. FirstParam more p p []) (sym word.parts) (inr (word.no_colon, whole more)) where
  whole : (n : ℕ) → Unmarked n (word.first ∷ word.others) (word.first ∷ word.others) []
  whole zero = (refl, refl)
  whole (suc n) = record {
    solid = word.solid;
    gap = 0;
    spelled = sym (append-nil (word.first ∷ word.others));
    parted = λ some. absurd (some refl);
    bare = tt;
  }

last_first : (more : ℕ) (param : List ℕ) → FirstParam more (last_text param) param []
last_first more param = by (needs_colon param) refl where
  by : (t : Bool) → needs_colon param ≡ t → FirstParam more (cond t (58 ∷ param) param) param []
  by true e = inl (refl, refl, refl)
  by false e = last_word more param (word_from param e)

-- the first comes after a blank
blank_first : (param : List ℕ) (params : List (List ℕ)) → params_text (param ∷ params) ≡ 32 ∷ after_blank (param ∷ params)
blank_first param [] = refl
blank_first param (next ∷ params) = refl

-- parameters that are written spell themselves
written_params : (places : ℕ) (params : List (List ℕ)) → length params ≤ places → are_words params ≡ true → SpellsParams places (after_blank params) params
unfolding SpellsParams
written_params places [] few words = refl
written_params zero (param ∷ params) few words = absurd (omega arith)
written_params (suc more) (param ∷ []) few words = ([], last_first more param, refl)
written_params (suc zero) (param ∷ next ∷ params) few words = absurd (omega arith)
written_params (suc (suc more)) (param ∷ next ∷ params) few words =
    let both = and_parts (not (needs_colon param)) (are_words (next ∷ params)) words in (
      after_blank (next ∷ params),
      subst (λ t. FirstParam (suc more) (param ++ t) param (after_blank (next ∷ params))) (sym (blank_first next params))
          (first_word more param (after_blank (next ∷ params)) (word_from param (not_true (needs_colon param) both.0)) (after_bare (next ∷ params) both.1)),
      written_params (suc more) (next ∷ params) (omega arith) both.1,
    )

-- ---- a whole line
-- what comes after the command
called : (command : List ℕ) (params : List (List ℕ)) → Lacks 32 command → are_words params ≡ true → WordAndRest (command ++ params_text params) command (after_blank params)
called command [] solid words = record { solid = solid; gap = 0; spelled = refl; parted = λ some. absurd (some refl); bare = tt }
called command (param ∷ params) solid words = record {
  solid = solid;
  gap = 1;
  spelled = ap (λ t. command ++ t) (blank_first param params);
  parted = λ some. omega arith;
  bare = after_bare (param ∷ params) words;
}

pub SpellsLine-written : (message : Message) → IsWritable message → SpellsLine (line_of message) (without_prefix message)
SpellsLine-written message writable =
    let signs = command_signs message.command writable.command in
    let some = command_filled message.command writable.command in
    let line = line_of message in
    record {
      source = [];
      call = line;
      rest = after_blank message.params;
      front = record {
        margin = 0;
        body = line;
        spelled = refl;
        bare = BeginsWithout-signs 32 message.command (params_text message.params) refl some signs;
        tags = None;
        untagged = line;
        tagged = (BeginsWithout-signs 64 message.command (params_text message.params) refl some signs, refl);
        told_is = refl;
        prefix = None;
        prefixed = (BeginsWithout-signs 58 message.command (params_text message.params) refl some signs, refl);
        source_is = refl;
      };
      named = record { user_part = None; host_part = None; spelled = refl; nick_unmarked = (tt, tt); user_unmarked = tt; user_is = refl; host_is = refl };
      called = called message.command message.params (Lacks-signs 32 message.command refl signs) writable.words;
      readable = writable.command;
      params = written_params 15 message.params writable.few writable.words;
    }

-- ---- one line
lines_joined : (front rest : List ℕ) → is_one_line front ≡ true → is_one_line rest ≡ true → is_one_line (front ++ rest) ≡ true
lines_joined front rest one other = list_all-append (λ b. not (ends_lines b)) front rest ∙ and_from (is_one_line front) (is_one_line rest) one other

last_in_line : (param : List ℕ) → is_one_line param ≡ true → is_one_line (last_text param) ≡ true
last_in_line param one = by (needs_colon param) where
  by : (t : Bool) → is_one_line (cond t (58 ∷ param) param) ≡ true
  by true = one
  by false = one

params_in_line : (params : List (List ℕ)) → list_all is_one_line params ≡ true → is_one_line (params_text params) ≡ true
params_in_line [] all = refl
params_in_line (param ∷ []) all = last_in_line param (and_parts (is_one_line param) true all).0
params_in_line (param ∷ next ∷ params) all =
    let both = and_parts (is_one_line param) (list_all is_one_line (next ∷ params)) all in
    lines_joined param (params_text (next ∷ params)) both.0 (params_in_line (next ∷ params) both.1)

pub written_in_line : (message : Message) → IsWritable message → is_one_line (line_of message) ≡ true
written_in_line message writable =
    lines_joined message.command (params_text message.params) (signs_in_line message.command (command_signs message.command writable.command)) (params_in_line message.params writable.one_line)

-- ---- UTF-8
last_text_utf8 : (param : List ℕ) → IsUtf8 param → IsUtf8 (last_text param)
last_text_utf8 param utf8 = by (needs_colon param) where
  by : (t : Bool) → IsUtf8 (cond t (58 ∷ param) param)
  by true = utf8_cons 58 param (omega arith) utf8
  by false = utf8

params_text_utf8 : (params : List (List ℕ)) → AreUtf8Texts params → IsUtf8 (params_text params)
params_text_utf8 [] all = IsUtf8-nil
params_text_utf8 (param ∷ []) all = utf8_cons 32 (last_text param) (omega arith) (last_text_utf8 param all.0)
params_text_utf8 (param ∷ next ∷ params) all =
    utf8_cons 32 (param ++ params_text (next ∷ params)) (omega arith) (IsUtf8-append param (params_text (next ∷ params)) all.0 (params_text_utf8 (next ∷ params) all.1))

-- what is written of text is text, and is read as it is
pub ReadsLine-written : (message : Message) → IsWritable message → AreUtf8Texts message.params → ReadsLine (line_of message) (without_prefix message)
ReadsLine-written message writable all =
    let command = signs_text message.command (command_signs message.command writable.command) in
    let utf8 = IsUtf8-append message.command (params_text message.params) command (params_text_utf8 message.params all) in
    subst (λ t. SpellsLine t (without_prefix message)) (sym (lossy_of_utf8 (line_of message) utf8)) (SpellsLine-written message writable)
