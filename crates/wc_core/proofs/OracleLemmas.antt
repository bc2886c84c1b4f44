-- Verdicts stay, and so an oracle that agrees with later ones agrees with earlier ones.
use Rattle.std.proofs.Common.{◌≡◌, ℕ, List, Option, Some, None, IfSome, refl, sym, subst, arith}
use Rattle.wc_eval.specs.declared.verdict.Verdict.{Verdict}
use Rattle.wc_eval.specs.Verdicts.{VerdictsView, Oracle, Agrees, Stay, verdict_on, is_fine}

stays : (o : Option Verdict) → IfSome o (λ v. o ≡ Some v)
stays None = tt
stays (Some v) = refl

pub Stay-refl : (a : VerdictsView) → Stay a a
Stay-refl a = record { rows = λ text. stays (verdict_on text a); others = omega arith }

-- what was given stays, and what stays then does
stays-on : (o p q : Option Verdict) → IfSome o (λ v. p ≡ Some v) → IfSome p (λ v. q ≡ Some v) → IfSome o (λ v. q ≡ Some v)
stays-on None p q f g = tt
stays-on (Some v) p q f g = (let P : Option Verdict → Type 0 = λ o. IfSome o (λ w. q ≡ Some w) in subst P f g)

pub Stay-trans : (a b c : VerdictsView) → Stay a b → Stay b c → Stay a c
Stay-trans a b c f g = record {
  rows = λ text. stays-on (verdict_on text a) (verdict_on text b) (verdict_on text c) (f.rows text) (g.rows text);
  others = (let p = f.others in let q = g.others in omega arith);
}

pub verdicts-same : (a b : VerdictsView) → b ≡ a → Stay a b
verdicts-same a b e = subst (Stay a) (sym e) (Stay-refl a)

-- an oracle that says what a later verdict says
agrees-on : (oracle : Oracle) (text : List ℕ) (o p : Option Verdict) → IfSome o (λ v. p ≡ Some v) → IfSome p (λ v. oracle text ≡ is_fine v) → IfSome o (λ v. oracle text ≡ is_fine v)
agrees-on oracle text None p f g = tt
agrees-on oracle text (Some v) p f g = (let P : Option Verdict → Type 0 = λ o. IfSome o (λ w. oracle text ≡ is_fine w) in subst P f g)

pub Agrees-before : (oracle : Oracle) (a b : VerdictsView) → Stay a b → Agrees oracle b → Agrees oracle a
Agrees-before oracle a b stay agrees = λ text. agrees-on oracle text (verdict_on text a) (verdict_on text b) (stay.rows text) (agrees text)
