-- The halves of a pattern that is UTF-8 are.
use Rattle.std.proofs.Common.{◌≡◌, ℕ, ◌<◌, Bool, true, false, ◌&&◌, List, [], ◌∷◌, ◌++◌, ◌⊎◌, IsUtf8, cond, bytes_eq, refl, ap, sym, subst, ◌∙◌, arith, eqb}
use mathlib.Core.Logic.{inl, inr}
use Rattle.std.specs.Prelude.{codes}
use Rattle.std.proofs.lemmas.Str.{IsUtf8-nil}
use Rattle.std.proofs.lemmas.Bool.{and_parts, eqb-true, false≢true}
use Rattle.wc_text.proofs.Utf8Lemmas.{utf8_parts}
use Rattle.wc_filters.specs.Patterns.{is_tab, before_tab, from_tab, parted, halves_of, search_by, search_of}
use Rattle.wc_filters.specs.declared.search.Search.{Search}
use Rattle.wc_filters.proofs.TabLemmas.{before-from}

abbrev AreUtf8 : List ℕ × List ℕ → Type 0
AreUtf8 halves = IsUtf8 halves.0 × IsUtf8 halves.1

-- what begins with the two bytes `\t`
record Tab (text : List ℕ) : Type 0 where
  pub message : List ℕ
  pub is : text ≡ 92 ∷ 116 ∷ message

two_bytes : (a b : ℕ) (message : List ℕ) → a ≡ 92 → b ≡ 116 → Tab (a ∷ b ∷ message)
two_bytes a b message first second = record { message = message; is = cc }

tab_is : (text : List ℕ) → is_tab text ≡ true → Tab text
tab_is [] e = absurd (false≢true e)
tab_is (a ∷ []) e = absurd (false≢true (and_parts (eqb a 92) false e).1)
tab_is (a ∷ b ∷ message) e =
    let both = and_parts (eqb a 92) (eqb b 116) e in
    two_bytes a b message (eqb-true a 92 both.0) (eqb-true b 116 both.1)

from_by : (test : Bool) (text rest : List ℕ) → (test ≡ true → Tab text) → (rest ≡ []) ⊎ Tab rest →
    (cond test text rest ≡ []) ⊎ Tab (cond test text rest)
from_by true text rest t r = inr (t refl)
from_by false text rest t r = r

from_is : (text : List ℕ) → (from_tab text ≡ []) ⊎ Tab (from_tab text)
from_is [] = inl refl
from_is (b ∷ text) = from_by (is_tab (b ∷ text)) (b ∷ text) (from_tab text) (tab_is (b ∷ text)) (from_is text)

module _ (text : List ℕ) (utf8 : IsUtf8 text) where
  parted_by : (tab : List ℕ) → from_tab text ≡ tab → (tab ≡ []) ⊎ Tab tab → AreUtf8 (parted tab text)
  parted_by tab e (inl none) = subst (λ t. AreUtf8 (parted t text)) (sym none) (IsUtf8-nil, utf8)
  parted_by tab e (inr found) =
      let whole : text ≡ before_tab text ++ 92 ∷ 116 ∷ found.message =
      sym (before-from text) ∙ ap (λ l. before_tab text ++ l) (e ∙ found.is) in
      let one = utf8_parts (before_tab text) 92 (116 ∷ found.message) (omega arith) (subst IsUtf8 whole utf8) in
      let two = utf8_parts [] 116 found.message (omega arith) one.1 in
      subst (λ t. AreUtf8 (parted t text)) (sym found.is) (one.0, two.1)

  either : (test : Bool) (a b : List ℕ × List ℕ) → AreUtf8 a → AreUtf8 b → AreUtf8 (cond test a b)
  either true a b first second = first
  either false a b first second = second

  halves_utf8 : AreUtf8 (halves_of text)
  halves_utf8 = either (bytes_eq text (codes "*")) ([], []) (parted (from_tab text) text) (IsUtf8-nil, IsUtf8-nil)
      (parted_by (from_tab text) refl (from_is text))

abbrev HasUtf8 : Search → Type 0
HasUtf8 s = IsUtf8 s.prefix × IsUtf8 s.message

negated_by : (test : Bool) (a b : Search) → (test ≡ true → HasUtf8 a) → HasUtf8 b → HasUtf8 (cond test a b)
negated_by true a b first second = first refl
negated_by false a b first second = second

past_bang : (b : ℕ) (text : List ℕ) → IsUtf8 (b ∷ text) → eqb b 33 ≡ true → IsUtf8 text
past_bang b text utf8 e =
    let is : b ≡ 33 = eqb-true b 33 e in
    (utf8_parts [] 33 text (omega arith) (subst (λ x. IsUtf8 (x ∷ text)) is utf8)).1

pub search_utf8 : (text : List ℕ) → IsUtf8 text → IsUtf8 (search_of text).prefix × IsUtf8 (search_of text).message
unfolding search_of
search_utf8 [] utf8 = halves_utf8 [] utf8
search_utf8 (b ∷ text) utf8 =
    negated_by (eqb b 33) (search_by true (halves_of text)) (search_by false (halves_of (b ∷ text)))
    (λ e. halves_utf8 text (past_bang b text utf8 e)) (halves_utf8 (b ∷ text) utf8)
