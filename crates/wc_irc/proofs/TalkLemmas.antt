-- Requests between clients, as they are read and as they are computed.
use Rattle.std.proofs.Common.{◌≡◌, ◌≢◌, ℕ, suc, arith, Bool, true, false, cond, eqb, eqb-true, List, [], ◌∷◌, ◌++◌, length, Option, Some, None, refl, sym, ap, ◌∙◌, subst}
use Rattle.std.proofs.lemmas.Bool.Decides.{nat_tests}
use Rattle.std.specs.Prelude.{◌==◌, option_map, option_and_then}
use Rattle.wc_text.specs.Splits.{before, text_after}
use Rattle.wc_text.specs.Words.{is_filled}
use Rattle.wc_ircmsg.specs.Ctcp.{IsCtcp}
use Rattle.wc_ircmsg.specs.Sources.{or_empty}
use Rattle.wc_ircmsg.proofs.CtcpLemmas.{IsCtcp-same, IsCtcp-made}
use Rattle.wc_irc.specs.SpeechActs.{before_last, quoted, word_and_rest, request_of}

last_made : (inner : List ℕ) → before_last (inner ++ 1 ∷ []) ≡ Some inner
last_made [] = refl
last_made (b ∷ []) = refl
last_made (b ∷ c ∷ inner) = ap (option_map (λ (l : List ℕ). b ∷ l)) (last_made (c ∷ inner))

last_is : (text inner : List ℕ) → before_last text ≡ Some inner → text ≡ inner ++ 1 ∷ []
last_is [] inner some = absurd (cc)
last_is (b ∷ []) inner some = by (b == 1) refl some where
  by : (t : Bool) → (b == 1) ≡ t → cond t (Some []) None ≡ Some inner → b ∷ [] ≡ inner ++ 1 ∷ []
  by true e some = let bare : [] ≡ inner = cc in subst (λ (l : List ℕ). b ∷ [] ≡ l ++ 1 ∷ []) bare (ap (λ n. n ∷ []) (eqb-true b 1 e))
  by false e some = absurd (cc)
last_is (b ∷ c ∷ text) inner some = by (before_last (c ∷ text)) refl some (last_is (c ∷ text)) where
  by : (o : Option (List ℕ)) → before_last (c ∷ text) ≡ o → option_map (λ (l : List ℕ). b ∷ l) o ≡ Some inner
      → ((l : List ℕ) → before_last (c ∷ text) ≡ Some l → c ∷ text ≡ l ++ 1 ∷ []) → b ∷ c ∷ text ≡ inner ++ 1 ∷ []
  by None e some ih = absurd (cc)
  by (Some l) e some ih = let front : b ∷ l ≡ inner = cc in ap (λ (k : List ℕ). b ∷ k) (ih l e) ∙ ap (λ (k : List ℕ). k ++ 1 ∷ []) front

pub quoted_is : (text inner : List ℕ) → quoted text ≡ Some inner → text ≡ 1 ∷ (inner ++ 1 ∷ [])
quoted_is [] inner some = absurd (cc)
quoted_is (b ∷ text) inner some = by (b == 1) refl some where
  by : (t : Bool) → (b == 1) ≡ t → cond t (before_last text) None ≡ Some inner → b ∷ text ≡ 1 ∷ (inner ++ 1 ∷ [])
  by true e some = ap (λ n. n ∷ text) (eqb-true b 1 e) ∙ ap (λ (k : List ℕ). 1 ∷ k) (last_is text inner some)
  by false e some = absurd (cc)

filled_is : (word : List ℕ) → word ≢ [] → is_filled word ≡ true
filled_is [] none = absurd (none refl)
filled_is (b ∷ word) none = refl

suc_apart : (n : ℕ) → eqb (suc n) 0 ≡ false
suc_apart n = grind (arith, nat_tests)

long_is : (word : List ℕ) → is_filled word ≡ true → eqb (length word) 0 ≡ false
long_is [] filled = absurd (cc)
long_is (b ∷ word) filled = suc_apart (length word)

pub request_made : (text word rest : List ℕ) → IsCtcp text word rest → Some (word, rest) ≡ request_of text
unfolding request_of
request_made text word rest ctcp =
    let parts = IsCtcp-same text ctcp.inner word rest ctcp.spelled ctcp in
    let filled : is_filled (before 32 ctcp.inner) ≡ true = ap is_filled parts.0 ∙ filled_is word ctcp.filled in
    let whole : word_and_rest ctcp.inner ≡ Some (word, rest) = rw filled (λ i. Some (parts.0 i, parts.1 i)) in
    sym (ap (λ t. option_and_then word_and_rest (quoted t)) ctcp.spelled ∙ ap (option_and_then word_and_rest) (last_made ctcp.inner) ∙ whole)

pub request_none : (text : List ℕ) → ((word rest : List ℕ) → IsCtcp text word rest → ⊥) → None ≡ request_of text
unfolding request_of
request_none text only = by (quoted text) refl where
  word : (inner : List ℕ) (t : Bool) → text ≡ 1 ∷ (inner ++ 1 ∷ []) → is_filled (before 32 inner) ≡ t → None ≡ word_and_rest inner
  word inner true spelled e = absurd (only (before 32 inner) (or_empty (text_after 32 inner)) (IsCtcp-made text inner (before 32 inner) (or_empty (text_after 32 inner)) spelled refl refl (long_is (before 32 inner) e)))
  word inner false spelled e = rw e refl

  by : (o : Option (List ℕ)) → quoted text ≡ o → None ≡ option_and_then word_and_rest o
  by None e = refl
  by (Some inner) e = word inner (is_filled (before 32 inner)) (quoted_is text inner e) refl
