-- What is cut out of UTF-8 at an ASCII byte is UTF-8.
use Rattle.std.proofs.Common.{◌≡◌, ℕ, ◌<◌, Bool, true, false, cond, List, [], ◌∷◌, ◌++◌, refl, sym, subst, arith, append_assoc, append-nil}
use Rattle.std.specs.Prelude.{◌==◌}
use Rattle.std.specs.Str.{IsUtf8}
use Rattle.std.proofs.lemmas.Bool.Decides.{nat_tests}
use Rattle.std.proofs.lemmas.Str.{IsUtf8-nil}
use Rattle.wc_text.proofs.Utf8Lemmas.{utf8_parts, utf8_cons}
use Rattle.wc_text.specs.Splits.{before, onward, past}

pub is_byte : (b c : ℕ) → c < 128 → (b == c) ≡ true → b < 128
is_byte b c ascii e = grind (arith, nat_tests)

-- the front before the first c
pub before_text : (c : ℕ) (front text : List ℕ) → c < 128 → IsUtf8 (front ++ text) → IsUtf8 (front ++ before c text)
before_text c front [] ascii utf8 = utf8
before_text c front (b ∷ text) ascii utf8 =
    by (b == c) refl (before_text c (front ++ b ∷ []) text ascii (subst IsUtf8 (sym (append_assoc front (b ∷ []) text)) utf8)) where
      by : (t : Bool) → (b == c) ≡ t → IsUtf8 ((front ++ b ∷ []) ++ before c text) → IsUtf8 (front ++ cond t [] (b ∷ before c text))
      by true e more = subst IsUtf8 (sym (append-nil front)) (utf8_parts front b text (is_byte b c ascii e) utf8).0
      by false e more = subst IsUtf8 (append_assoc front (b ∷ []) (before c text)) more

-- the text from it on
pub onward_text : (c : ℕ) (front text : List ℕ) → c < 128 → IsUtf8 (front ++ text) → IsUtf8 (onward c text)
onward_text c front [] ascii utf8 = IsUtf8-nil
onward_text c front (b ∷ text) ascii utf8 =
    by (b == c) refl (onward_text c (front ++ b ∷ []) text ascii (subst IsUtf8 (sym (append_assoc front (b ∷ []) text)) utf8)) where
      by : (t : Bool) → (b == c) ≡ t → IsUtf8 (onward c text) → IsUtf8 (cond t (b ∷ text) (onward c text))
      by true e more = let small = is_byte b c ascii e in utf8_cons b text small (utf8_parts front b text small utf8).1
      by false e more = more

-- the text without the blanks at its front
pub past_text : (text : List ℕ) → IsUtf8 text → IsUtf8 (past 32 text)
past_text [] utf8 = utf8
past_text (b ∷ text) utf8 = by (b == 32) refl (past_text text) where
  by : (t : Bool) → (b == 32) ≡ t → (IsUtf8 text → IsUtf8 (past 32 text)) → IsUtf8 (cond t (past 32 text) (b ∷ text))
  by true e more = more (utf8_parts [] b text (is_byte b 32 (omega arith) e) utf8).1
  by false e more = utf8
