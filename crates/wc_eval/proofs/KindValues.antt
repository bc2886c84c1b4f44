-- The values of forms by their kind.
use Rattle.std.proofs.Common.{◌≡◌, ℕ, zero, suc, ◌<◌, Bool, true, false, List, [], ◌∷◌, length, get_or, All}
use Rattle.std.proofs.Common.{Option, Some, None, option_map, Result, Ok, Err, OnOk, IfOk, refl, ap, sym, subst, ◌∙◌, arith, IsUtf8}
use Rattle.std.specs.Result.{IsErrAnd}
use Rattle.std.proofs.lemmas.Option.{none-some, same_Some}
use Rattle.std.proofs.lemmas.List.Elements.{All-nil, All-cons}
use Rattle.std.proofs.lemmas.Str.{IsUtf8-nil}
use Rattle.wc_eval.specs.declared.values.Stop.{Stop}
use Rattle.wc_eval.specs.declared.values.Stop.TheVariants.{Over, NoMemory}
use Rattle.wc_eval.specs.declared.kind.Kind.{Kind}
use Rattle.wc_eval.specs.declared.kind.Kind.TheVariants as kind
use Rattle.wc_eval.specs.Verdicts.{VerdictsView, Oracle, Stay}
use Rattle.wc_eval.specs.Texts.{digit_of}
use Rattle.wc_eval.specs.Pieces.{Piece, split_at, pieces_of, blocks_of, text_of, or_all}
use Rattle.wc_eval.specs.Walks.{texts_of}
use Rattle.wc_eval.specs.Branches.{branch, branches_of}
use Rattle.wc_eval.specs.Kinds.{commas_of}
use Rattle.wc_eval.specs.Arguments.{arguments_of, arguments_by}
use Rattle.wc_eval.specs.Values.{Makes}
use Rattle.wc_eval.specs.Names.{Facts}
use Rattle.wc_eval.specs.Progress.{Progress, Answer, Evaluator, then_do, answer_of, if_fits, Gives}
use Rattle.wc_eval.specs.Conditions.{Test}
use Rattle.wc_eval.specs.LongValues.{GivesLong, Fits}
use Rattle.wc_eval.specs.Meaning.{values_by, call_value, after_call, call_by, if_by, if_value, kind_value}
use Rattle.wc_eval.proofs.StepLemmas.{agrees_earlier}
use Rattle.wc_eval.proofs.MeaningLemmas.{long_fits_not, fits_same}
use Rattle.wc_eval.proofs.PieceLemmas.{pieces_text}
use Rattle.wc_eval.proofs.PartLemmas.{blocks_written}
use Rattle.wc_eval.proofs.Utf8Lemmas.{texts_utf8}

-- an element of a list
pub all_read : (xs : List (List ℕ)) (i : ℕ) (x : List ℕ) → All IsUtf8 xs → i < length xs → x ≡ get_or xs i x →
    IsUtf8 x
all_read xs i x utf8 within is = subst IsUtf8 (sym is) (utf8 i x within)

-- what is made of a value is made only where there is one
pub made_of : {E : Type 0} (value : Result (List ℕ) E) (result : Result (List ℕ) Stop) (P : Type 0) →
    ((wanted : List ℕ) → IfOk value (λ text. text ≡ wanted) → Makes wanted result) → OnOk value P →
    OnOk result P
made_of (Ok text) (Ok made) P makes holds = holds
made_of (Err error) (Ok made) P makes holds =
    let e : 0 ≡ 1 = ap length (sym (makes [] tt) ∙ makes (0 ∷ []) tt) in absurd (omega (arith, e))
made_of (Ok text) (Err stop) P makes holds = tt
made_of (Err error) (Err stop) P makes holds = tt

-- ---- values that may be too long

module _ (v : VerdictsView) (a b : Progress) where
  pub long_from : (f : Oracle → Progress → Answer (List ℕ)) (result : Result (List ℕ) Stop) →
      Gives f v a b result → GivesLong f v a b result
  long_from f (Ok value) gives = gives
  long_from f (Err Over) gives = λ oracle agrees. ap if_fits (gives oracle agrees)
  long_from f (Err NoMemory) gives = tt

  pub long_same : (f g : Oracle → Progress → Answer (List ℕ)) →
      ((oracle : Oracle) (progress : Progress) → f oracle progress ≡ g oracle progress) →
      (result : Result (List ℕ) Stop) → GivesLong f v a b result → GivesLong g v a b result
  long_same f g same (Ok value) gives = λ oracle agrees. sym (same oracle a) ∙ gives oracle agrees
  long_same f g same (Err Over) gives = λ oracle agrees.
      ap if_fits (sym (same oracle a)) ∙ gives oracle agrees
  long_same f g same (Err NoMemory) gives = tt

  pub long_error : (f : Oracle → Progress → Answer (List ℕ)) (stop : Stop) (result : Result (List ℕ) Stop) →
      IsErrAnd result (λ e. e ≡ stop) → GivesLong f v a b (Err stop) → GivesLong f v a b result
  long_error f stop (Ok value) is gives = absurd is
  long_error f stop (Err e) is gives = subst (λ s. GivesLong f v a b (Err s)) (sym is) gives

  -- the value is looked at
  pub fits_from : (f : Oracle → Progress → Answer (List ℕ)) (value : List ℕ) (c : Progress)
      (result : Result (List ℕ) Stop) → GivesLong f v a b (Ok value) → Fits value b c result →
      Gives (λ oracle progress. if_fits (f oracle progress)) v a c result
  fits_from f value c (Ok made) gives fits = λ oracle agrees. ap if_fits (gives oracle agrees) ∙ fits
  fits_from f value c (Err Over) gives fits = λ oracle agrees. ap if_fits (gives oracle agrees) ∙ fits.1
  fits_from f value c (Err NoMemory) gives fits = tt

  pub fits_stops : (f : Oracle → Progress → Answer (List ℕ)) (stop : Stop) → GivesLong f v a b (Err stop) →
      Gives (λ oracle progress. if_fits (f oracle progress)) v a b (Err stop)
  fits_stops f Over gives = gives
  fits_stops f NoMemory gives = tt

-- a value that fits is the one that was looked at
pub fits_utf8 : (value : List ℕ) (a b : Progress) (result : Result (List ℕ) Stop) → Fits value a b result →
    IsUtf8 value → IfOk result IsUtf8
fits_utf8 value a b (Ok made) fits utf8 = subst IsUtf8 (fits_same value a b made fits) utf8
fits_utf8 value a b (Err stop) fits utf8 = tt

pub makes_utf8 : (value : List ℕ) (result : Result (List ℕ) Stop) → Makes value result → IsUtf8 value →
    IfOk result IsUtf8
makes_utf8 value (Ok made) is utf8 = subst IsUtf8 (sym is) utf8
makes_utf8 value (Err stop) is utf8 = tt

-- ---- kinds

-- a form whose arguments are evaluated first
pub kind_calls : (scope : Facts) (oracle : Oracle) (evaluate : Evaluator) (k : Kind) (text : List ℕ)
    (p : Progress) → (k ≡ kind.Raw → ⊥) → (k ≡ kind.Eval → ⊥) → (k ≡ kind.If → ⊥) →
    call_by scope evaluate k (arguments_of (commas_of k) text) p ≡ kind_value scope oracle evaluate k text p
kind_calls scope oracle evaluate kind.Raw text p r e i = absurd (r refl)
kind_calls scope oracle evaluate kind.Eval text p r e i = absurd (e refl)
kind_calls scope oracle evaluate kind.If text p r e i = absurd (i refl)
kind_calls scope oracle evaluate kind.Calc text p r e i = refl
kind_calls scope oracle evaluate kind.Length text p r e i = refl
kind_calls scope oracle evaluate kind.Lower text p r e i = refl
kind_calls scope oracle evaluate kind.Upper text p r e i = refl
kind_calls scope oracle evaluate kind.Rev text p r e i = refl
kind_calls scope oracle evaluate kind.Group text p r e i = refl
kind_calls scope oracle evaluate kind.Cut text p r e i = refl
kind_calls scope oracle evaluate kind.Repeat text p r e i = refl
kind_calls scope oracle evaluate kind.Hide text p r e i = refl
kind_calls scope oracle evaluate kind.Split text p r e i = refl
kind_calls scope oracle evaluate kind.Define text p r e i = refl
kind_calls scope oracle evaluate kind.Name text p r e i = refl

-- ---- branches

module _ (evaluate : Oracle → Evaluator) (holds : Oracle → Test) (text : List ℕ) where
  abbrev chosen : Oracle → Progress → Answer (List ℕ)
  chosen oracle = if_value (evaluate oracle) (holds oracle) text

  module _ (e : None ≡ option_map texts_of (split_at 63 (blocks_of text))) where
    alone : (oracle : Oracle) (p : Progress) →
        then_do (holds oracle text p) (λ h after. answer_of (digit_of h) after) ≡ chosen oracle p
    alone oracle p = by (split_at 63 (blocks_of text)) e
      where
        by : (o : Option (List Piece × List Piece)) → None ≡ option_map texts_of o →
            then_do (holds oracle text p) (λ h after. answer_of (digit_of h) after)
            ≡ if_by (evaluate oracle) (holds oracle) text o p
        by None e = refl
        by (Some parts) e = absurd (none-some _ e)

    pub if_digit : (v : VerdictsView) (a b : Progress) (h : Bool) →
        Gives (λ oracle. holds oracle text) v a b (Ok h) → Gives chosen v a b (Ok (digit_of h))
    if_digit v a b h gives oracle agrees = sym (alone oracle a)
        ∙ ap (λ o. then_do o (λ h after. answer_of (digit_of h) after)) (gives oracle agrees)

    pub if_stops : (v : VerdictsView) (a b : Progress) (stop : Stop) →
        Gives (λ oracle. holds oracle text) v a b (Err stop) → Gives chosen v a b (Err stop)
    if_stops v a b Over gives = λ oracle agrees. sym (alone oracle a)
        ∙ ap (λ o. then_do o (λ h after. answer_of (digit_of h) after)) (gives oracle agrees)
    if_stops v a b NoMemory gives = tt

  module _ (condition branches : List ℕ)
      (e : ◌≡◌ {A = Option (List ℕ × List ℕ)} (Some (condition, branches))
      (option_map texts_of (split_at 63 (blocks_of text)))) where
    abbrev taken : Oracle → Bool → Progress → Answer (List ℕ)
    taken oracle h after = evaluate oracle (branch h (branches_of branches)) after

    parted : (oracle : Oracle) (p : Progress) →
        then_do (holds oracle condition p) (taken oracle) ≡ chosen oracle p
    parted oracle p = by (split_at 63 (blocks_of text)) e
      where
        by : (o : Option (List Piece × List Piece)) →
            ◌≡◌ {A = Option (List ℕ × List ℕ)} (Some (condition, branches)) (option_map texts_of o) →
            then_do (holds oracle condition p) (taken oracle)
            ≡ if_by (evaluate oracle) (holds oracle) text o p
        by None e = absurd (none-some _ (sym e))
        by (Some parts) e = ap (λ (t : List ℕ × List ℕ). then_do (holds oracle t.0 p)
            (λ h after. evaluate oracle (branch h (branches_of t.1)) after)) (same_Some _ _ e)

    pub if_taken : (one two : VerdictsView) (a b c : Progress) (h : Bool) (way : List ℕ)
        (result : Result (List ℕ) Stop) → Gives (λ oracle. holds oracle condition) one a b (Ok h) →
        Stay one two → way ≡ branch h (branches_of branches) →
        Gives (λ oracle. evaluate oracle way) two b c result → Gives chosen two a c result
    if_taken one two a b c h way (Ok value) first stay is gives = λ oracle agrees.
        sym (parted oracle a)
        ∙ ap (λ o. then_do o (taken oracle)) (first oracle (agrees_earlier oracle one two stay agrees))
        ∙ ap (λ l. evaluate oracle l b) (sym is) ∙ gives oracle agrees
    if_taken one two a b c h way (Err Over) first stay is gives = λ oracle agrees.
        sym (parted oracle a)
        ∙ ap (λ o. then_do o (taken oracle)) (first oracle (agrees_earlier oracle one two stay agrees))
        ∙ ap (λ l. evaluate oracle l b) (sym is) ∙ gives oracle agrees
    if_taken one two a b c h way (Err NoMemory) first stay is gives = tt

    pub if_halts : (v : VerdictsView) (a b : Progress) (stop : Stop) →
        Gives (λ oracle. holds oracle condition) v a b (Err stop) → Gives chosen v a b (Err stop)
    if_halts v a b Over gives = λ oracle agrees. sym (parted oracle a)
        ∙ ap (λ o. then_do o (taken oracle)) (gives oracle agrees)
    if_halts v a b NoMemory gives = tt

-- ---- calls

module _ (scope : Facts) (evaluate : Oracle → Evaluator) (k : Kind) (n : ℕ) (text : List ℕ)
    (v : VerdictsView) (a b : Progress) where
  abbrev called : Oracle → Progress → Answer (List ℕ)
  called oracle = call_by scope (evaluate oracle) k (arguments_of n text)

  pub call_lacks : ◌≡◌ {A = Option (List (List ℕ))} None (arguments_of n text) →
      GivesLong called v a a (Ok [])
  call_lacks e oracle agrees = ap (λ o. call_by scope (evaluate oracle) k o a) (sym e)

  module _ (texts : List (List ℕ)) (e : Some texts ≡ arguments_of n text) where
    abbrev valued : Oracle → List (List ℕ) → Progress → Answer (List ℕ)
    valued oracle values after = answer_of (call_value scope after k values) (after_call k values after)

    there : (oracle : Oracle) (p : Progress) →
        then_do (values_by (evaluate oracle) texts p) (valued oracle) ≡ called oracle p
    there oracle p = ap (λ o. call_by scope (evaluate oracle) k o p) e

    pub call_stops : (stop : Stop) → Gives (λ oracle. values_by (evaluate oracle) texts) v a b (Err stop) →
        GivesLong called v a b (Err stop)
    call_stops Over gives = λ oracle agrees. ap if_fits (sym (there oracle a)
        ∙ ap (λ o. then_do o (valued oracle)) (gives oracle agrees))
    call_stops NoMemory gives = tt

    pub call_makes : (values : List (List ℕ)) (c : Progress) (result : Result (List ℕ) Stop) →
        Gives (λ oracle. values_by (evaluate oracle) texts) v a b (Ok values) →
        Makes (call_value scope b k values) result → OnOk result (c ≡ after_call k values b) →
        GivesLong called v a c result
    call_makes values c (Ok made) gives is kept = λ oracle agrees. sym (there oracle a)
        ∙ ap (λ o. then_do o (valued oracle)) (gives oracle agrees)
        ∙ ap (λ l. answer_of l (after_call k values b)) (sym is)
        ∙ ap (λ p. answer_of made p) (sym kept)
    call_makes values c (Err Over) gives long kept = λ oracle agrees. ap if_fits (sym (there oracle a)
        ∙ ap (λ o. then_do o (valued oracle)) (gives oracle agrees))
        ∙ long_fits_not (call_value scope b k values) (after_call k values b) long
    call_makes values c (Err NoMemory) gives long kept = tt

-- ---- UTF-8

pub branch_utf8 : (text way : List ℕ) (h : Bool) → way ≡ branch h (branches_of text) → IsUtf8 text → IsUtf8 way
branch_utf8 text way h e utf8 = subst IsUtf8 (sym e) (by h (split_at 58 (blocks_of text)) refl)
  where
    all_utf8 : IsUtf8 (text_of (blocks_of text))
    all_utf8 = subst IsUtf8 (sym (blocks_written text)) utf8

    by : (h : Bool) (o : Option (List Piece × List Piece)) → split_at 58 (blocks_of text) ≡ o →
        IsUtf8 (branch h (or_all (blocks_of text) o))
    by true None is = all_utf8
    by false None is = IsUtf8-nil
    by true (Some parts) is = (texts_utf8 58 (blocks_of text) (text_of parts.0) (text_of parts.1)
        (omega arith) (sym (ap (option_map texts_of) is)) all_utf8).0
    by false (Some parts) is = (texts_utf8 58 (blocks_of text) (text_of parts.0) (text_of parts.1)
        (omega arith) (sym (ap (option_map texts_of) is)) all_utf8).1

pub if_utf8 : (text condition branches : List ℕ) →
    ◌≡◌ {A = Option (List ℕ × List ℕ)} (Some (condition, branches))
    (option_map texts_of (split_at 63 (blocks_of text))) → IsUtf8 text →
    IsUtf8 condition × IsUtf8 branches
if_utf8 text condition branches e utf8 = texts_utf8 63 (blocks_of text) condition branches (omega arith) e
    (subst IsUtf8 (sym (blocks_written text)) utf8)

module _ (n : ℕ) (later : (text : List ℕ) (texts : List (List ℕ)) → Some texts ≡ arguments_of n text →
    IsUtf8 text → All IsUtf8 texts) (texts : List (List ℕ)) where
  others_utf8 : (front rest : List ℕ) (o : Option (List (List ℕ))) → arguments_of n rest ≡ o →
      IsUtf8 front → IsUtf8 rest → Some texts ≡ option_map (λ more. front ∷ more) o → All IsUtf8 texts
  others_utf8 front rest None is one two e = absurd (none-some _ (sym e))
  others_utf8 front rest (Some more) is one two e = subst (All IsUtf8) (sym (same_Some _ _ e))
      (All-cons IsUtf8 front more one (later rest more (sym is) two))

  split_arguments : (text : List ℕ) (o : Option (List Piece × List Piece)) → split_at 44 (pieces_of text) ≡ o →
      Some texts ≡ arguments_by (arguments_of n) o → IsUtf8 text → All IsUtf8 texts
  split_arguments text None is e utf8 = absurd (none-some _ (sym e))
  split_arguments text (Some parts) is e utf8 =
      let both = texts_utf8 44 (pieces_of text) (text_of parts.0) (text_of parts.1) (omega arith)
      (sym (ap (option_map texts_of) is)) (subst IsUtf8 (sym (pieces_text false text)) utf8) in
      others_utf8 (text_of parts.0) (text_of parts.1) (arguments_of n (text_of parts.1)) refl both.0 both.1 e

pub arguments_utf8 : (n : ℕ) (text : List ℕ) (texts : List (List ℕ)) → Some texts ≡ arguments_of n text →
    IsUtf8 text → All IsUtf8 texts
arguments_utf8 zero text texts e utf8 = subst (All IsUtf8) (sym (same_Some _ _ e))
    (All-cons IsUtf8 text [] utf8 (All-nil IsUtf8))
arguments_utf8 (suc n) text texts e utf8 =
    split_arguments n (arguments_utf8 n) texts text (split_at 44 (pieces_of text)) refl e utf8
