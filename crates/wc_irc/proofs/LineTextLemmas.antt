-- What is cut out of one line of text is one line of text.
use Rattle.std.proofs.Common.{◌≡◌, ℕ, ◌<◌, Bool, true, false, cond, List, [], ◌∷◌, ◌++◌, refl, sym, subst, arith, append_assoc, append-nil}
use Rattle.std.specs.Prelude.{◌||◌, ◌==◌, not}
use Rattle.std.specs.Str.{IsUtf8}
use Rattle.std.proofs.lemmas.Bool.{and_parts}
use Rattle.std.proofs.lemmas.Bool.Decides.{nat_tests}
use Rattle.std.proofs.lemmas.Str.{IsUtf8-append, IsUtf8-nil}
use Rattle.wc_text.proofs.Utf8Lemmas.{utf8_parts, utf8_cons}
use Rattle.wc_text.specs.Splits.{before, onward, past, word_of, rest_of}
use Rattle.wc_ircmsg.specs.Written.{ends_lines, is_one_line}
use Rattle.wc_irc.specs.CommandSeen.{IsLine}
use Rattle.wc_irc_texts.specs.Texts.{in_one_line}
use Rattle.wc_irc_texts.proofs.PieceLemmas.{bare_word, bare_line, all_onward, all_past, one_line_made}

-- ---- UTF-8

is_byte : (b c : ℕ) → c < 128 → (b == c) ≡ true → b < 128
is_byte b c ascii e = grind (arith, nat_tests)

-- the front before the first c, and the text from it on
before_text : (c : ℕ) (front text : List ℕ) → c < 128 → IsUtf8 (front ++ text) → IsUtf8 (front ++ before c text)
before_text c front [] ascii utf8 = utf8
before_text c front (b ∷ text) ascii utf8 =
    by (b == c) refl (before_text c (front ++ b ∷ []) text ascii (subst IsUtf8 (sym (append_assoc front (b ∷ []) text)) utf8)) where
      by : (t : Bool) → (b == c) ≡ t → IsUtf8 ((front ++ b ∷ []) ++ before c text) → IsUtf8 (front ++ cond t [] (b ∷ before c text))
      by true e more = subst IsUtf8 (sym (append-nil front)) (utf8_parts front b text (is_byte b c ascii e) utf8).0
      by false e more = subst IsUtf8 (append_assoc front (b ∷ []) (before c text)) more

onward_text : (c : ℕ) (front text : List ℕ) → c < 128 → IsUtf8 (front ++ text) → IsUtf8 (onward c text)
onward_text c front [] ascii utf8 = IsUtf8-nil
onward_text c front (b ∷ text) ascii utf8 =
    by (b == c) refl (onward_text c (front ++ b ∷ []) text ascii (subst IsUtf8 (sym (append_assoc front (b ∷ []) text)) utf8)) where
      by : (t : Bool) → (b == c) ≡ t → IsUtf8 (onward c text) → IsUtf8 (cond t (b ∷ text) (onward c text))
      by true e more = let small = is_byte b c ascii e in utf8_cons b text small (utf8_parts front b text small utf8).1
      by false e more = more

past_text : (text : List ℕ) → IsUtf8 text → IsUtf8 (past 32 text)
past_text [] utf8 = utf8
past_text (b ∷ text) utf8 = by (b == 32) refl (past_text text) where
  by : (t : Bool) → (b == 32) ≡ t → (IsUtf8 text → IsUtf8 (past 32 text)) → IsUtf8 (cond t (past 32 text) (b ∷ text))
  by true e more = more (utf8_parts [] b text (is_byte b 32 (omega arith) e) utf8).1
  by false e more = utf8

or_small : (b : ℕ) (t u : Bool) → (t ≡ true → b < 128) → (u ≡ true → b < 128) → (t || u) ≡ true → b < 128
or_small b true u here there e = here refl
or_small b false u here there e = there e

ends_small : (b : ℕ) → ends_lines b ≡ true → b < 128
ends_small b e = or_small b ((b == 13) || (b == 10)) (b == 0) (λ f. or_small b (b == 13) (b == 10) (is_byte b 13 (omega arith)) (is_byte b 10 (omega arith)) f) (is_byte b 0 (omega arith)) e

kept_text : (front text : List ℕ) → IsUtf8 (front ++ text) → IsUtf8 (front ++ in_one_line text)
kept_text front [] utf8 = utf8
kept_text front (b ∷ text) utf8 =
    by (ends_lines b) refl (kept_text front text) (kept_text (front ++ b ∷ []) text (subst IsUtf8 (sym (append_assoc front (b ∷ []) text)) utf8)) where
      by : (t : Bool) → ends_lines b ≡ t → (IsUtf8 (front ++ text) → IsUtf8 (front ++ in_one_line text)) → IsUtf8 ((front ++ b ∷ []) ++ in_one_line text)
          → IsUtf8 (front ++ cond (not t) (b ∷ in_one_line text) (in_one_line text))
      by true e without more = let parts = utf8_parts front b text (ends_small b e) utf8 in without (IsUtf8-append front text parts.0 parts.1)
      by false e without more = subst IsUtf8 (append_assoc front (b ∷ []) (in_one_line text)) more

-- ---- one line of text

pub line_made : (text : List ℕ) → IsUtf8 text → IsLine (in_one_line text)
line_made text utf8 = record { one = one_line_made text; utf8 = kept_text [] text utf8 }

pub line_word : (text : List ℕ) → IsLine text → IsLine (word_of text)
line_word text line = record {
  one = bare_line (word_of text) (bare_word text line.one);
  utf8 = before_text 32 [] text (omega arith) line.utf8;
}

pub line_rest : (text : List ℕ) → IsLine text → IsLine (rest_of text)
line_rest text line =
    let p : ℕ → Bool = λ b. not (ends_lines b) in
    record {
      one = all_past p 32 (onward 32 text) (all_onward p 32 text line.one);
      utf8 = past_text (onward 32 text) (onward_text 32 [] text (omega arith) line.utf8);
    }

-- what comes after its first byte, where that is one of ASCII
pub line_tail : (b : ℕ) (text : List ℕ) → b < 128 → IsLine (b ∷ text) → IsLine text
line_tail b text ascii line = record {
  one = (and_parts (not (ends_lines b)) (is_one_line text) line.one).1;
  utf8 = (utf8_parts [] b text ascii line.utf8).1;
}
