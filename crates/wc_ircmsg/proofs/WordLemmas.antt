-- The word at the front of a text, and what follows it.
use Rattle.std.proofs.Common.{◌≡◌, ◌≢◌, ℕ, zero, suc, ◌<◌, List, [], ◌∷◌, ◌++◌, refl, ap, sym, ◌∙◌, arith, eqb, Bool, true, false, cond, Some, None, append-nil, subst}
use Rattle.std.proofs.lemmas.Bool.{false≢true}
use Rattle.std.proofs.lemmas.Bool.Decides.{nat_tests, Decides-eqb}
use Rattle.wc_text.specs.Splits.{before, onward, text_after, past, Lacks, BeginsWithout, blanks, WordAndRest, word_of, rest_of}
use Rattle.wc_ircmsg.specs.Sources.{text_with_mark, or_empty}
use Rattle.wc_text.proofs.SplitLemmas.{before-onward}
use Rattle.wc_text.proofs.WordLemmas.{other_byte}

-- a text without c has nothing after a c
pub text_after-none : (c : ℕ) (text : List ℕ) → Lacks c text → text_after c text ≡ None
text_after-none c [] lacks = refl
text_after-none c (b ∷ text) lacks = ap (λ t. cond t (Some text) (text_after c text)) (other_byte b c lacks.0) ∙ text_after-none c text lacks.1

-- a text is what is before the first mark, and what is from the mark on
pub cut_at_mark : (c : ℕ) (text : List ℕ) → text ≡ before c text ++ text_with_mark c (text_after c text)
cut_at_mark c [] = refl
cut_at_mark c (b ∷ text) = by (eqb b c) refl (cut_at_mark c text) where
  by : (t : Bool) → eqb b c ≡ t → text ≡ before c text ++ text_with_mark c (text_after c text) → b ∷ text ≡ cond t [] (b ∷ before c text) ++ text_with_mark c (cond t (Some text) (text_after c text))
  by true e more = ap (λ h. h ∷ text) ((Decides-eqb b c).0 e)
  by false e more = ap (λ t. b ∷ t) more

-- what is cut from a text without d has no d
pub Lacks-before-other : (c d : ℕ) (text : List ℕ) → Lacks d text → Lacks d (before c text)
Lacks-before-other c d [] lacks = tt
Lacks-before-other c d (b ∷ text) lacks = by (eqb b c) (Lacks-before-other c d text lacks.1) where
  by : (t : Bool) → Lacks d (before c text) → Lacks d (cond t [] (b ∷ before c text))
  by true more = tt
  by false more = (lacks.0, more)

pub Lacks-text_after : (c d : ℕ) (text : List ℕ) → Lacks d text → Lacks d (or_empty (text_after c text))
Lacks-text_after c d [] lacks = tt
Lacks-text_after c d (b ∷ text) lacks = by (eqb b c) (Lacks-text_after c d text lacks.1) where
  by : (t : Bool) → Lacks d (or_empty (text_after c text)) → Lacks d (or_empty (cond t (Some text) (text_after c text)))
  by true more = lacks.1
  by false more = more

pub before-whole : (c : ℕ) (text : List ℕ) → text_after c text ≡ None → before c text ≡ text
before-whole c [] none = refl
before-whole c (b ∷ text) none = by (eqb b c) none (before-whole c text) where
  by : (t : Bool) → cond t (Some text) (text_after c text) ≡ None → (text_after c text ≡ None → before c text ≡ text) → cond t [] (b ∷ before c text) ≡ b ∷ text
  by true here more = absurd (cc)
  by false here more = ap (λ t. b ∷ t) (more here)
