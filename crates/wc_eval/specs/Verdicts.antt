-- The verdicts on patterns, in the order in which they were given.
use Rattle.std.specs.Prelude.{◌≡◌, ◌≢◌, ℕ, ◌+◌, ◌-◌, ◌^◌, ◌≤◌, min, Bool}
use Rattle.std.specs.Prelude.{true, false, List, [], ◌∷◌}
use Rattle.std.specs.Prelude.{Option, None, Some, IfSome, bytes_eq, if◌then◌else◌}
use Rattle.regex.specs.Failures.{IsPattern}
use Rattle.wc_eval.specs.declared.verdict.Verdict.{Verdict}
use Rattle.wc_eval.specs.declared.verdict.Verdict.TheVariants.{Fine, Syntax, Other}
use Rattle.wc_eval.specs.Matching.{folding_config}

-- What is known of patterns: the verdict on each that was judged, and how many times one was
-- refused for another cause than the grammar's.
pub record VerdictsView : Type 0 where
  pub rows : List (List ℕ × Verdict)
  pub others : ℕ

abbrev pub is_fine : Verdict → Bool
is_fine Fine = true
is_fine Syntax = false
is_fine Other = false

-- the verdict on the text, if there is one
abbrev pub verdict_in : List ℕ → List (List ℕ × Verdict) → Option Verdict
verdict_in text [] = None
verdict_in text (v ∷ vs) = if bytes_eq text v.0 then Some v.1 else verdict_in text vs

abbrev pub verdict_on : List ℕ → VerdictsView → Option Verdict
verdict_on text verdicts = verdict_in text verdicts.rows

abbrev pub is_fine_by : Option Verdict → Bool
is_fine_by None = false
is_fine_by (Some verdict) = is_fine verdict

-- whether the text was judged to be a pattern
abbrev pub is_known_fine : List ℕ → VerdictsView → Bool
is_known_fine text verdicts = is_fine_by (verdict_on text verdicts)

abbrev pub one_if_other : Verdict → ℕ
one_if_other Fine = 0
one_if_other Syntax = 0
one_if_other Other = 1

-- how many verdicts are of the kind `Other`
abbrev pub others_in : List (List ℕ × Verdict) → ℕ
others_in [] = 0
others_in (v ∷ vs) = one_if_other v.1 + others_in vs

-- no text was judged twice
abbrev pub AreOnce : List (List ℕ × Verdict) → Type 0
AreOnce [] = Unit {0}
AreOnce (v ∷ vs) = (verdict_in v.0 vs ≡ None) × AreOnce vs

-- ---- where verdicts come from

-- a count rose by one, or it was as high as it can be
abbrev pub Rose : ℕ → ℕ → Type 0
Rose before now = min (before + 1) (2 ^ 64 - 1) ≤ now

-- A verdict that is given while the count of other refusals goes from one number to another:
-- `Syntax` only where the grammar reads no pattern, and `Other` only where the count rose.
abbrev pub IsCaused : ℕ → ℕ → List ℕ → Verdict → Type 0
IsCaused before now pattern Fine = Unit {0}
IsCaused before now pattern Syntax = IsPattern folding_config pattern → ⊥
IsCaused before now pattern Other = Rose before now

-- Each verdict that was given stays, and the count never falls.
pub record Stay (old new : VerdictsView) : Type 0 where
  pub rows : (text : List ℕ) → IfSome (verdict_on text old) (λ v. verdict_on text new ≡ Some v)
  pub others : old.others ≤ new.others

-- No text but this one got a verdict, or another one.
abbrev pub OnlyOn : List ℕ → VerdictsView → VerdictsView → Type 0
OnlyOn pattern old new = (text : List ℕ) → text ≢ pattern →
    verdict_on text new ≡ verdict_on text old

-- A text is judged: a verdict that is there answers, and nothing changes; else one more is given.
pub record Judges (pattern : List ℕ) (old new : VerdictsView) (verdict : Verdict) : Type 0 where
  pub answer : verdict_on pattern new ≡ Some verdict
  pub known : IfSome (verdict_on pattern old) (λ _. new ≡ old)
  pub caused : verdict_on pattern old ≡ None → IsCaused old.others new.others pattern verdict
  pub stay : Stay old new

-- ---- total verdicts

-- whether each text is a pattern
abbrev pub Oracle : Type 0
Oracle = List ℕ → Bool

-- the oracle says of each text that was judged what the verdict says
abbrev pub Agrees : Oracle → VerdictsView → Type 0
Agrees oracle verdicts = (text : List ℕ) →
    IfSome (verdict_on text verdicts) (λ v. oracle text ≡ is_fine v)
