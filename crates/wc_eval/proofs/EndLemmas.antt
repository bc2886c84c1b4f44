-- The count of a condition's parentheses, and what is answered in the end.
use Rattle.std.proofs.Common.{◌≡◌, ℕ, Bool, true, false, List, [], Result, Ok, Err}
use Rattle.std.proofs.Common.{refl, ap, sym, ◌∙◌}
use Rattle.std.specs.Prelude.{nat_le}
use Rattle.wc_eval.specs.declared.values.Stop.{Stop}
use Rattle.wc_eval.specs.declared.values.Stop.TheVariants.{Over}
use Rattle.wc_eval.specs.Verdicts.{VerdictsView, Oracle, Agrees}
use Rattle.wc_eval.specs.Pieces.{most_open}
use Rattle.wc_eval.specs.Names.{Facts}
use Rattle.wc_eval.specs.Progress.{Progress, Answer, Evaluator, fresh, value_or, Gives}
use Rattle.wc_eval.specs.Conditions.{condition_by, holds_at}
use Rattle.wc_eval.specs.Meaning.{evaluator, text_value, condition_holds}
use Rattle.wc_eval.proofs.StepLemmas.{gives_same}

-- ---- the count of parentheses

module _ (evaluate : Oracle → Evaluator) (text : List ℕ) (v : VerdictsView) (a b : Progress) where
  pub condition_over : nat_le (most_open text) 32 ≡ false →
      Gives (λ oracle. condition_by oracle (evaluate oracle) text) v a a (Ok false)
  unfolding condition_by
  condition_over e oracle agrees = rw e refl

  pub condition_few : nat_le (most_open text) 32 ≡ true → (result : Result Bool Stop) →
      Gives (λ oracle. holds_at oracle (evaluate oracle) 32 text) v a b result →
      Gives (λ oracle. condition_by oracle (evaluate oracle) text) v a b result
  unfolding condition_by
  condition_few e result gives = gives_same v a b (λ oracle. holds_at oracle (evaluate oracle) 32 text)
      (λ oracle. condition_by oracle (evaluate oracle) text) (λ oracle progress. rw e refl) result gives

-- ---- from the start

module _ (scope inner : Facts) (s : inner ≡ scope) (levels : ℕ) (l : levels ≡ 32) (text slice : List ℕ)
    (t : slice ≡ text) (v : VerdictsView) (start later : Progress) (e : start ≡ fresh) where
  moved : {A : Type 0} (step : Facts → ℕ → List ℕ → Progress → Answer A) →
      step scope 32 text fresh ≡ step inner levels slice start
  moved step = ap (λ f. step f 32 text fresh) (sym s) ∙ ap (λ n. step inner n text fresh) (sym l)
      ∙ ap (λ x. step inner levels x fresh) (sym t) ∙ ap (step inner levels slice) (sym e)

  pub text_ends : (value : List ℕ) →
      Gives (λ oracle. evaluator inner oracle levels slice) v start later (Ok value) →
      (oracle : Oracle) → Agrees oracle v → value ≡ text_value scope oracle text
  unfolding text_value
  text_ends value gives oracle agrees = sym (ap (value_or [])
      (moved (λ f n x p. evaluator f oracle n x p) ∙ gives oracle agrees))

  pub text_stops : Gives (λ oracle. evaluator inner oracle levels slice) v start later (Err Over) →
      (oracle : Oracle) → Agrees oracle v → [] ≡ text_value scope oracle text
  unfolding text_value
  text_stops gives oracle agrees = sym (ap (value_or [])
      (moved (λ f n x p. evaluator f oracle n x p) ∙ gives oracle agrees))

  pub condition_ends : (holds : Bool) →
      Gives (λ oracle. condition_by oracle (evaluator inner oracle levels) slice) v start later (Ok holds) →
      (oracle : Oracle) → Agrees oracle v → holds ≡ condition_holds scope oracle text
  unfolding condition_holds
  condition_ends holds gives oracle agrees = sym (ap (value_or false)
      (moved (λ f n x p. condition_by oracle (evaluator f oracle n) x p) ∙ gives oracle agrees))

  pub condition_stops :
      Gives (λ oracle. condition_by oracle (evaluator inner oracle levels) slice) v start later (Err Over) →
      (oracle : Oracle) → Agrees oracle v → false ≡ condition_holds scope oracle text
  unfolding condition_holds
  condition_stops gives oracle agrees = sym (ap (value_or false)
      (moved (λ f n x p. condition_by oracle (evaluator f oracle n) x p) ∙ gives oracle agrees))
