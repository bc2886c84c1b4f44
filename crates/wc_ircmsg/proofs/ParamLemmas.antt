-- The parameters of a text.
use Rattle.std.proofs.Common.{◌≡◌, ℕ, zero, suc, ◌-◌, ◌<◌, ◌⊎◌, inl, inr, List, [], ◌∷◌, ◌++◌, length, append_assoc, append-nil, refl, ap, sym, ◌∙◌, arith, eqb, Bool, true, false, cond, subst}
use Rattle.std.proofs.lemmas.Bool.Decides.{nat_tests, Decides-eqb}
use Rattle.std.proofs.lemmas.Bool.{false≢true}
use Rattle.wc_text.specs.Splits.{WordAndRest, word_of, rest_of}
use Rattle.wc_ircmsg.specs.Params.{Unmarked, FirstParam, SpellsParams, first_of, after_first, params_of}
use Rattle.wc_text.proofs.WordLemmas.{other_byte, byte_differs, WordAndRest-same, WordAndRest-made}

-- a parameter that no `:` marks is the one that is computed
Unmarked-same : (more : ℕ) (text param rest : List ℕ) → Unmarked more text param rest → (param ≡ cond (eqb more 0) text (word_of text)) × (rest ≡ cond (eqb more 0) [] (rest_of text))
Unmarked-same zero text param rest unmarked = unmarked
Unmarked-same (suc more) text param rest parts =
    let some : eqb (suc more) 0 ≡ false = grind (arith, nat_tests) in
    let same = WordAndRest-same text param rest parts in
    (same.0 ∙ sym (ap (λ t. cond t text (word_of text)) some), same.1 ∙ sym (ap (λ t. cond t [] (rest_of text)) some))

Unmarked-made : (more : ℕ) (text : List ℕ) → Unmarked more text (cond (eqb more 0) text (word_of text)) (cond (eqb more 0) [] (rest_of text))
Unmarked-made zero text = (refl, refl)
Unmarked-made (suc more) text =
    let some : eqb (suc more) 0 ≡ false = grind (arith, nat_tests) in
    subst (λ t. WordAndRest text (cond t text (word_of text)) (cond t [] (rest_of text))) (sym some) (WordAndRest-made text)

-- the first parameter is the one that is computed
pub FirstParam-same : (more : ℕ) (text param rest : List ℕ) → FirstParam more text param rest → (param ≡ first_of more text) × (rest ≡ after_first more text)
FirstParam-same more [] param rest first = absurd first
FirstParam-same more (b ∷ text) param rest (inl trailing) =
    let marked : eqb b 58 ≡ true = (Decides-eqb b 58).1 trailing.0 in (
      trailing.1 ∙ sym (ap (λ t. cond t text (cond (eqb more 0) (b ∷ text) (word_of (b ∷ text)))) marked),
      trailing.2 ∙ sym (ap (λ t. cond t [] (cond (eqb more 0) [] (rest_of (b ∷ text)))) marked),
    )
FirstParam-same more (b ∷ text) param rest (inr other) =
    let plain : eqb b 58 ≡ false = other_byte b 58 other.0 in
    let same = Unmarked-same more (b ∷ text) param rest other.1 in (
      same.0 ∙ sym (ap (λ t. cond t text (cond (eqb more 0) (b ∷ text) (word_of (b ∷ text)))) plain),
      same.1 ∙ sym (ap (λ t. cond t [] (cond (eqb more 0) [] (rest_of (b ∷ text)))) plain),
    )

pub FirstParam-made : (more b : ℕ) (text : List ℕ) → FirstParam more (b ∷ text) (first_of more (b ∷ text)) (after_first more (b ∷ text))
FirstParam-made more b text = by (eqb b 58) refl where
  by : (t : Bool) → eqb b 58 ≡ t → FirstParam more (b ∷ text) (cond t text (cond (eqb more 0) (b ∷ text) (word_of (b ∷ text)))) (cond t [] (cond (eqb more 0) [] (rest_of (b ∷ text))))
  by true e = inl ((Decides-eqb b 58).0 e, refl, refl)
  by false e = inr (byte_differs b 58 e, Unmarked-made more (b ∷ text))

-- what is spelled is what is computed
pub SpellsParams-same : (places : ℕ) (text : List ℕ) (params : List (List ℕ)) → SpellsParams places text params → params ≡ params_of places text
unfolding SpellsParams params_of
SpellsParams-same zero text [] spells = refl
SpellsParams-same (suc more) text [] spells = ap (λ t. params_of (suc more) t) (sym spells)
SpellsParams-same zero text (param ∷ params) spells = absurd spells
SpellsParams-same (suc more) [] (param ∷ params) (rest, first, others) = absurd first
SpellsParams-same (suc more) (b ∷ text) (param ∷ params) (rest, first, others) =
    let same = FirstParam-same more (b ∷ text) param rest first in
    ap (λ p. p ∷ params) same.0 ∙ ap (λ ps. first_of more (b ∷ text) ∷ ps) (SpellsParams-same more rest params others ∙ ap (params_of more) same.1)

-- where no more may come, nothing is left
last_of_all : (text : List ℕ) → after_first 0 text ≡ []
last_of_all [] = refl
last_of_all (b ∷ text) = by (eqb b 58) where
  by : (t : Bool) → cond t [] (cond (eqb 0 0) [] (rest_of (b ∷ text))) ≡ []
  by true = refl
  by false = refl

pub SpellsParams-made : (more : ℕ) (text : List ℕ) → SpellsParams (suc more) text (params_of (suc more) text)
unfolding SpellsParams params_of
SpellsParams-made more [] = refl
SpellsParams-made zero (b ∷ text) = (after_first 0 (b ∷ text), FirstParam-made 0 b text, last_of_all (b ∷ text))
SpellsParams-made (suc more) (b ∷ text) =
    (after_first (suc more) (b ∷ text), FirstParam-made (suc more) b text, SpellsParams-made more (after_first (suc more) (b ∷ text)))

-- the parameters so far, and one more
pub params_more : (front new all : List (List ℕ)) (text param rest text_after : List ℕ) (places : ℕ) → 0 < places → eqb (length rest) 0 ≡ false → front ++ params_of places rest ≡ all
    → text ≡ param → param ≡ first_of (places - 1) rest → text_after ≡ after_first (places - 1) rest → new ≡ front ++ text ∷ [] → new ++ params_of (places - 1) text_after ≡ all
unfolding params_of
params_more front new all text param [] text_after places some filled so_far copied first left pushed = absurd (false≢true (sym filled))
params_more front new all text param (b ∷ rest) text_after zero some filled so_far copied first left pushed = absurd (omega arith)
params_more front new all text param (b ∷ rest) text_after (suc more) some filled so_far copied first left pushed =
    let less : suc more - 1 ≡ more = omega arith in
    let is : text ≡ first_of more (b ∷ rest) = copied ∙ first ∙ ap (λ n. first_of n (b ∷ rest)) less in
    let rest_is : params_of (suc more - 1) text_after ≡ params_of more (after_first more (b ∷ rest)) = (λ i. params_of (less i) (left i)) ∙ ap (λ n. params_of more (after_first n (b ∷ rest))) less in
    (λ i. pushed i ++ rest_is i)
    ∙ append_assoc front (text ∷ []) (params_of more (after_first more (b ∷ rest)))
    ∙ ap (λ t. front ++ t ∷ params_of more (after_first more (b ∷ rest))) is
    ∙ so_far

-- all of them
pub params_end : (front all : List (List ℕ)) (rest : List ℕ) (places : ℕ) → (places ≡ 0) ⊎ (eqb (length rest) 0 ≡ true) → front ++ params_of places rest ≡ all → front ≡ all
unfolding params_of
params_end front all rest zero done so_far = sym (append-nil front) ∙ so_far
params_end front all [] (suc more) done so_far = sym (append-nil front) ∙ so_far
params_end front all (b ∷ rest) (suc more) (inl none) so_far = absurd (omega arith)
params_end front all (b ∷ rest) (suc more) (inr none) so_far = absurd (longer none) where
  longer : eqb (length (b ∷ rest)) 0 ≡ true → ⊥
  longer e = grind arith
