-- What is between two bytes 01.
use Rattle.std.proofs.Common.{◌≡◌, ◌≢◌, ℕ, ◌⊎◌, inl, inr, List, [], ◌∷◌, ◌++◌, length, refl, ap, sym, ◌∙◌, arith, eqb, true, false, Option, Some, None, subst}
use Rattle.wc_text.specs.Splits.{before, text_after, Lacks}
use Rattle.wc_ircmsg.specs.Sources.{or_empty}
use Rattle.wc_ircmsg.specs.Ctcp.{IsCtcp}
use Rattle.wc_text.proofs.WordLemmas.{before-at, text_after-at, before-none, Lacks-before, cut_after}
use Rattle.wc_ircmsg.proofs.WordLemmas.{text_after-none, before-whole}

-- lists that end alike
same_ends : (a b : List ℕ) (x y : ℕ) → a ++ x ∷ [] ≡ b ++ y ∷ [] → (a ≡ b) × (x ≡ y)
same_ends [] [] x y e = (refl, cc)
same_ends [] (h ∷ []) x y e = absurd (cc)
same_ends [] (h ∷ k ∷ b) x y e = absurd (cc)
same_ends (h ∷ []) [] x y e = absurd (cc)
same_ends (h ∷ k ∷ a) [] x y e = absurd (cc)
same_ends (h ∷ a) (k ∷ b) x y e =
    let tails : a ++ x ∷ [] ≡ b ++ y ∷ [] = cc in
    let heads : h ≡ k = cc in
    let more = same_ends a b x y tails in
    ((λ i. heads i ∷ more.0 i), more.1)

-- a quoted text is quoted in one way
pub quoted_same : (text text_after inner other : List ℕ) (first last : ℕ) → text ≡ first ∷ text_after → text_after ≡ inner ++ last ∷ [] → text ≡ 1 ∷ (other ++ 1 ∷ []) → (first ≡ 1) × (last ≡ 1) × (inner ≡ other)
quoted_same text text_after inner other first last front back quoted =
    let head : first ≡ 1 = cc in
    let tail : inner ++ last ∷ [] ≡ other ++ 1 ∷ [] = cc in
    let ends = same_ends inner other last 1 tail in
    (head, ends.1, ends.0)

-- the word and the arguments are those that are computed
pub IsCtcp-same : (text inner word arguments : List ℕ) → text ≡ 1 ∷ (inner ++ 1 ∷ []) → IsCtcp text word arguments → (before 32 inner ≡ word) × (or_empty (text_after 32 inner) ≡ arguments)
IsCtcp-same text inner word arguments quoted ctcp =
    let same : inner ≡ ctcp.inner = (quoted_same text (inner ++ 1 ∷ []) inner ctcp.inner 1 1 quoted refl ctcp.spelled).2 in
    by ctcp.called same
  where
    by : ((ctcp.inner ≡ word) × (arguments ≡ [])) ⊎ (ctcp.inner ≡ word ++ 32 ∷ arguments) → inner ≡ ctcp.inner → (before 32 inner ≡ word) × (or_empty (text_after 32 inner) ≡ arguments)
    by (inl alone) same =
        let is : inner ≡ word = same ∙ alone.0 in
        (ap (before 32) is ∙ before-none 32 word ctcp.solid, ap (λ t. or_empty (text_after 32 t)) is ∙ ap or_empty (text_after-none 32 word ctcp.solid) ∙ sym alone.1)
    by (inr parted) same =
        let is : inner ≡ word ++ 32 ∷ arguments = same ∙ parted in
        (ap (before 32) is ∙ before-at 32 word arguments ctcp.solid, ap (λ t. or_empty (text_after 32 t)) is ∙ ap or_empty (text_after-at 32 word arguments ctcp.solid))

pub IsCtcp-made : (text inner word arguments : List ℕ) → text ≡ 1 ∷ (inner ++ 1 ∷ []) → word ≡ before 32 inner → arguments ≡ or_empty (text_after 32 inner) → eqb (length word) 0 ≡ false → IsCtcp text word arguments
IsCtcp-made text inner word arguments quoted front back some = record {
  inner = inner;
  spelled = quoted;
  filled = filled word some;
  solid = subst (Lacks 32) (sym front) (Lacks-before 32 inner);
  called = by (text_after 32 inner) refl;
} where
  filled : (t : List ℕ) → eqb (length t) 0 ≡ false → t ≢ []
  filled [] e = λ none. cc
  filled (b ∷ t) e = λ none. cc

  by : (o : Option (List ℕ)) → text_after 32 inner ≡ o → ((inner ≡ word) × (arguments ≡ [])) ⊎ (inner ≡ word ++ 32 ∷ arguments)
  by None e = inl (sym (front ∙ before-whole 32 inner e), back ∙ ap or_empty e)
  by (Some rest) e = inr (cut_after 32 inner rest e ∙ (λ i. sym front i ++ 32 ∷ sym (back ∙ ap or_empty e) i))

-- without a word there is no message
pub no_word : (text inner front word arguments : List ℕ) → text ≡ 1 ∷ (inner ++ 1 ∷ []) → front ≡ before 32 inner → eqb (length front) 0 ≡ true → IsCtcp text word arguments → ⊥
no_word text inner [] word arguments quoted cut none ctcp = ctcp.filled (sym (IsCtcp-same text inner word arguments quoted ctcp).0 ∙ sym cut)
no_word text inner (b ∷ front) word arguments quoted cut none ctcp = longer none where
  longer : eqb (length (b ∷ front)) 0 ≡ true → ⊥
  longer e = grind arith
