-- How steps of an evaluation follow one another.
use Rattle.std.proofs.Common.{◌≡◌, ℕ, List, Option, Some, None, IfSome}
use Rattle.std.proofs.Common.{Result, Ok, Err, refl, ap, sym, subst, ◌∙◌, arith}
use Rattle.std.specs.Result.{IsErrAnd}
use Rattle.wc_eval.specs.declared.verdict.Verdict.{Verdict}
use Rattle.wc_eval.specs.declared.values.Stop.{Stop}
use Rattle.wc_eval.specs.declared.values.Stop.TheVariants.{Over, NoMemory}
use Rattle.wc_eval.specs.Verdicts.{VerdictsView, Oracle, Agrees, Stay, verdict_on, is_fine}
use Rattle.wc_eval.specs.Progress.{Progress, Answer, then_do, Gives}

-- ---- verdicts that stay

-- an oracle that agrees with later verdicts agrees with earlier ones
pub agrees_earlier : (oracle : Oracle) (a b : VerdictsView) → Stay a b → Agrees oracle b → Agrees oracle a
agrees_earlier oracle a b stay agrees text = by (verdict_on text a) refl (stay.rows text)
  where
    by : (o : Option Verdict) → verdict_on text a ≡ o → IfSome o (λ v. verdict_on text b ≡ Some v) →
        IfSome o (λ v. oracle text ≡ is_fine v)
    by None e later = tt
    by (Some v) e later = subst (λ o. IfSome o (λ v. oracle text ≡ is_fine v)) later (agrees text)

pub stay_same : (a : VerdictsView) → Stay a a
stay_same a = record {
  rows = λ text. by text (verdict_on text a) refl;
  others = omega arith;
}
  where
    by : (text : List ℕ) (o : Option Verdict) → verdict_on text a ≡ o →
        IfSome o (λ v. verdict_on text a ≡ Some v)
    by text None e = tt
    by text (Some v) e = e

pub stay_both : (a b c : VerdictsView) → Stay a b → Stay b c → Stay a c
stay_both a b c one two = record {
  rows = λ text. by text (verdict_on text a) (one.rows text);
  others = omega (arith, one.others, two.others);
}
  where
    by : (text : List ℕ) (o : Option Verdict) → IfSome o (λ v. verdict_on text b ≡ Some v) →
        IfSome o (λ v. verdict_on text c ≡ Some v)
    by text None e = tt
    by text (Some v) e = subst (λ o. IfSome o (λ v. verdict_on text c ≡ Some v)) e (two.rows text)

-- ---- steps

-- what is left of a step
abbrev pub Comes : {A : Type 0} → (Oracle → Progress → Answer A) → (Oracle → Progress → Answer A) →
    VerdictsView → Progress → Progress → Type 0
Comes whole rest verdicts old now = (oracle : Oracle) → Agrees oracle verdicts →
    whole oracle old ≡ rest oracle now

module _ {A : Type 0} (v : VerdictsView) (a b : Progress) where
  -- the same step
  pub gives_same : (f g : Oracle → Progress → Answer A) →
      ((oracle : Oracle) (progress : Progress) → f oracle progress ≡ g oracle progress) →
      (result : Result A Stop) → Gives f v a b result → Gives g v a b result
  gives_same f g same (Ok value) gives = λ oracle agrees. sym (same oracle a) ∙ gives oracle agrees
  gives_same f g same (Err Over) gives = λ oracle agrees. sym (same oracle a) ∙ gives oracle agrees
  gives_same f g same (Err NoMemory) gives = tt

  -- an error that is handed on
  pub gives_error : (f : Oracle → Progress → Answer A) (stop : Stop) (result : Result A Stop) →
      IsErrAnd result (λ e. e ≡ stop) → Gives f v a b (Err stop) → Gives f v a b result
  gives_error f stop (Ok value) is gives = absurd is
  gives_error f stop (Err e) is gives = subst (λ s. Gives f v a b (Err s)) (sym is) gives

  -- a limit is passed, if that is why
  pub gives_over : (f : Oracle → Progress → Answer A) (stop : Stop) →
      (stop ≡ Over → (oracle : Oracle) → Agrees oracle v → f oracle a ≡ None) → Gives f v a b (Err stop)
  gives_over f Over passed = passed refl
  gives_over f NoMemory passed = tt

module _ {A B : Type 0} (f : Oracle → Progress → Answer A) (g : Oracle → A → Progress → Answer B)
    (one two : VerdictsView) (a b c : Progress) where
  -- one step and then another
  pub gives_then : (value : A) (result : Result B Stop) → Gives f one a b (Ok value) → Stay one two →
      Gives (λ oracle. g oracle value) two b c result →
      Gives (λ oracle progress. then_do (f oracle progress) (g oracle)) two a c result
  gives_then value (Ok found) first stay next = λ oracle agrees.
      ap (λ o. then_do o (g oracle)) (first oracle (agrees_earlier oracle one two stay agrees))
      ∙ next oracle agrees
  gives_then value (Err Over) first stay next = λ oracle agrees.
      ap (λ o. then_do o (g oracle)) (first oracle (agrees_earlier oracle one two stay agrees))
      ∙ next oracle agrees
  gives_then value (Err NoMemory) first stay next = tt

  -- the first step stops
  pub gives_stop : (stop : Stop) → Gives f two a c (Err stop) →
      Gives (λ oracle progress. then_do (f oracle progress) (g oracle)) two a c (Err stop)
  gives_stop Over first = λ oracle agrees. ap (λ o. then_do o (g oracle)) (first oracle agrees)
  gives_stop NoMemory first = tt
