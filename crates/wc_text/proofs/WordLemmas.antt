-- The word at the front of a text, and what follows it.
use Rattle.std.proofs.Common.{◌≡◌, ◌≢◌, ℕ, zero, suc, ◌<◌, List, [], ◌∷◌, ◌++◌, refl, ap, sym, ◌∙◌, arith, eqb, Bool, true, false, cond, Some, append-nil, subst}
use Rattle.std.proofs.lemmas.Bool.{false≢true}
use Rattle.std.proofs.lemmas.Bool.Decides.{nat_tests, Decides-eqb}
use Rattle.wc_text.specs.Splits.{before, onward, text_after, past, Lacks, BeginsWithout, blanks, WordAndRest, word_of, rest_of}
use Rattle.wc_text.proofs.SplitLemmas.{before-onward}

-- tests of a byte
pub other_byte : (b c : ℕ) → b ≢ c → eqb b c ≡ false
other_byte b c ne = grind (arith, nat_tests)

pub same_byte : (c : ℕ) → eqb c c ≡ true
same_byte c = grind (arith, nat_tests)

pub byte_differs : (b c : ℕ) → eqb b c ≡ false → b ≢ c
byte_differs b c e same = false≢true (sym e ∙ (Decides-eqb b c).1 same)

-- a text without c before a c
pub before-at : (c : ℕ) (front rest : List ℕ) → Lacks c front → before c (front ++ c ∷ rest) ≡ front
before-at c [] rest lacks = ap (λ t. cond t [] (c ∷ before c rest)) (same_byte c)
before-at c (b ∷ front) rest lacks =
    ap (λ t. cond t [] (b ∷ before c (front ++ c ∷ rest))) (other_byte b c lacks.0) ∙ ap (λ t. b ∷ t) (before-at c front rest lacks.1)

pub onward-at : (c : ℕ) (front rest : List ℕ) → Lacks c front → onward c (front ++ c ∷ rest) ≡ c ∷ rest
onward-at c [] rest lacks = ap (λ t. cond t (c ∷ rest) (onward c rest)) (same_byte c)
onward-at c (b ∷ front) rest lacks =
    ap (λ t. cond t (b ∷ (front ++ c ∷ rest)) (onward c (front ++ c ∷ rest))) (other_byte b c lacks.0) ∙ onward-at c front rest lacks.1

pub text_after-at : (c : ℕ) (front rest : List ℕ) → Lacks c front → text_after c (front ++ c ∷ rest) ≡ Some rest
text_after-at c [] rest lacks = ap (λ t. cond t (Some rest) (text_after c rest)) (same_byte c)
text_after-at c (b ∷ front) rest lacks =
    ap (λ t. cond t (Some (front ++ c ∷ rest)) (text_after c (front ++ c ∷ rest))) (other_byte b c lacks.0) ∙ text_after-at c front rest lacks.1

-- a text without c
pub before-none : (c : ℕ) (text : List ℕ) → Lacks c text → before c text ≡ text
before-none c [] lacks = refl
before-none c (b ∷ text) lacks = ap (λ t. cond t [] (b ∷ before c text)) (other_byte b c lacks.0) ∙ ap (λ t. b ∷ t) (before-none c text lacks.1)

pub onward-none : (c : ℕ) (text : List ℕ) → Lacks c text → onward c text ≡ []
onward-none c [] lacks = refl
onward-none c (b ∷ text) lacks = ap (λ t. cond t (b ∷ text) (onward c text)) (other_byte b c lacks.0) ∙ onward-none c text lacks.1

-- the front has no c
pub Lacks-before : (c : ℕ) (text : List ℕ) → Lacks c (before c text)
Lacks-before c [] = tt
Lacks-before c (b ∷ text) = by (eqb b c) refl (Lacks-before c text) where
  by : (t : Bool) → eqb b c ≡ t → Lacks c (before c text) → Lacks c (cond t [] (b ∷ before c text))
  by true e rest = tt
  by false e rest = (byte_differs b c e, rest)

-- what comes after the first c
pub cut_after : (c : ℕ) (text rest : List ℕ) → text_after c text ≡ Some rest → text ≡ before c text ++ c ∷ rest
cut_after c [] rest some = absurd (cc)
cut_after c (b ∷ text) rest some = by (eqb b c) refl some (cut_after c text rest) where
  by : (t : Bool) → eqb b c ≡ t → cond t (Some text) (text_after c text) ≡ Some rest → (text_after c text ≡ Some rest → text ≡ before c text ++ c ∷ rest) → b ∷ text ≡ cond t [] (b ∷ before c text) ++ c ∷ rest
  by true e here more = let same = (Decides-eqb b c).0 e in cc
  by false e here more = ap (λ t. b ∷ t) (more here)

-- blanks at the front
pub past-blanks : (n : ℕ) (rest : List ℕ) → past 32 (blanks n ++ rest) ≡ past 32 rest
past-blanks zero rest = refl
past-blanks (suc n) rest = past-blanks n rest

pub past-bare : (c : ℕ) (rest : List ℕ) → BeginsWithout c rest → past c rest ≡ rest
past-bare c [] bare = refl
past-bare c (b ∷ rest) bare = ap (λ t. cond t (past c rest) (b ∷ rest)) (other_byte b c bare)

pub BeginsWithout-past : (c : ℕ) (text : List ℕ) → BeginsWithout c (past c text)
BeginsWithout-past c [] = tt
BeginsWithout-past c (b ∷ text) = by (eqb b c) refl (BeginsWithout-past c text) where
  by : (t : Bool) → eqb b c ≡ t → BeginsWithout c (past c text) → BeginsWithout c (cond t (past c text) (b ∷ text))
  by true e rest = rest
  by false e rest = byte_differs b c e

-- how many blanks are at the front
pub margin : (text : List ℕ) → (n : ℕ) × (text ≡ blanks n ++ past 32 text)
margin [] = (0, refl)
margin (b ∷ text) = by (eqb b 32) refl (margin text) where
  by : (t : Bool) → eqb b 32 ≡ t → (n : ℕ) × (text ≡ blanks n ++ past 32 text) → (n : ℕ) × (b ∷ text ≡ blanks n ++ cond t (past 32 text) (b ∷ text))
  by true e (n, is) = let same = (Decides-eqb b 32).0 e in (suc n, ap (λ h. h ∷ text) same ∙ ap (λ t. 32 ∷ t) is)
  by false e more = (0, refl)

-- the parts of a text are those that are computed
pub WordAndRest-same : (text word rest : List ℕ) → WordAndRest text word rest → (word ≡ word_of text) × (rest ≡ rest_of text)
WordAndRest-same text word rest parts = by parts.gap rest parts.spelled parts.parted parts.bare where
  by : (gap : ℕ) (rest : List ℕ) → text ≡ word ++ (blanks gap ++ rest) → (rest ≢ [] → 0 < gap) → BeginsWithout 32 rest → (word ≡ word_of text) × (rest ≡ rest_of text)
  by zero [] spelled parted bare =
      let whole : text ≡ word = spelled ∙ append-nil word in
      (sym (ap (before 32) whole ∙ before-none 32 word parts.solid), sym (ap rest_of whole ∙ ap (past 32) (onward-none 32 word parts.solid)))
  by zero (b ∷ rest) spelled parted bare = let none : 0 < 0 = parted (λ e. cc) in absurd (omega arith)
  by (suc gap) rest spelled parted bare = (
    sym (ap (before 32) spelled ∙ before-at 32 word (blanks gap ++ rest) parts.solid),
    sym (ap rest_of spelled ∙ ap (past 32) (onward-at 32 word (blanks gap ++ rest) parts.solid) ∙ past-blanks gap rest ∙ past-bare 32 rest bare),
  )

-- what goes on from a blank
pub onward-past : (c : ℕ) (text : List ℕ) → onward c text ≡ past c (onward c text) → past c (onward c text) ≡ []
onward-past c [] same = refl
onward-past c (b ∷ text) same = by (eqb b c) refl same (onward-past c text) where
  by : (t : Bool) → eqb b c ≡ t → cond t (b ∷ text) (onward c text) ≡ past c (cond t (b ∷ text) (onward c text)) → (onward c text ≡ past c (onward c text) → past c (onward c text) ≡ []) → past c (cond t (b ∷ text) (onward c text)) ≡ []
  by true e here more = absurd (bare (subst (BeginsWithout c) (sym here) (BeginsWithout-past c (b ∷ text)))) where
    bare : b ≢ c → ⊥
    bare ne = ne ((Decides-eqb b c).0 e)
  by false e here more = more here

-- each text has these parts
pub WordAndRest-made : (text : List ℕ) → WordAndRest text (word_of text) (rest_of text)
WordAndRest-made text = record {
  solid = Lacks-before 32 text;
  gap = gap.0;
  spelled = sym (before-onward 32 text) ∙ ap (λ t. word_of text ++ t) gap.1;
  parted = parted gap.0 gap.1;
  bare = BeginsWithout-past 32 (onward 32 text);
} where
  gap : (n : ℕ) × (onward 32 text ≡ blanks n ++ rest_of text)
  gap = margin (onward 32 text)

  parted : (n : ℕ) → onward 32 text ≡ blanks n ++ rest_of text → rest_of text ≢ [] → 0 < n
  parted zero same some = absurd (some (onward-past 32 text same))
  parted (suc n) same some = omega arith
