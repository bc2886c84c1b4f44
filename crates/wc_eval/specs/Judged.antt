-- What is kept of a text that was judged as a pattern.
use Rattle.std.specs.Prelude.{◌≡◌, ℕ, List, [], ◌∷◌, map}
use Rattle.std.specs.Str.{IsUtf8}
use Rattle.std.specs.declared.alloc.Global.{Global}
use Rattle.std.specs.declared.vec.Vec.{Vec}
use Rattle.regex.specs.Failures.{IsPattern}
use Rattle.wc_eval.specs.Matching.{folding_config}
use Rattle.wc_eval.specs.declared.verdict.Verdict.{Verdict}
use Rattle.wc_eval.specs.declared.verdict.Verdict.TheVariants.{Fine, Syntax, Other}
use Rattle.wc_eval.specs.declared.verdict.Judgement.{Judgement}
use Rattle.wc_eval.specs.declared.verdict.Judgement.TheVariants as judged

-- a pattern that is built is that of its text, and the grammar reads no pattern in a text that is
-- refused as `Syntax`
abbrev pub IsJudgementOf : List ℕ → Judgement → Type 0
IsJudgementOf text (judged.Built pattern) = (pattern ≡ text) × IsPattern folding_config text
IsJudgementOf text judged.Syntax = IsPattern folding_config text → ⊥
IsJudgementOf text judged.Other = Unit {0}

abbrev pub verdict_of : Judgement → Verdict
verdict_of (judged.Built pattern) = Fine
verdict_of judged.Syntax = Syntax
verdict_of judged.Other = Other

-- what holds of a text on which this is the verdict
abbrev pub IsRight : List ℕ → Verdict → Type 0
IsRight text Fine = IsUtf8 text × IsPattern folding_config text
IsRight text Syntax = IsPattern folding_config text → ⊥
IsRight text Other = Unit {0}

-- the verdicts as they are kept, each under the bytes of its text
abbrev pub Kept : Type 0
Kept = List (Vec ℕ Global × Verdict)

abbrev pub AreRight : Kept → Type 0
AreRight [] = Unit {0}
AreRight (e ∷ es) = IsRight e.0.items e.1 × AreRight es

abbrev pub rows_of : Kept → List (List ℕ × Verdict)
rows_of kept = map (λ e. (e.0.items, e.1)) kept

-- the patterns that are kept built, each under its own text
abbrev pub Built : Type 0
Built = List (Vec ℕ Global × List ℕ)

abbrev pub AreOwn : Built → Type 0
AreOwn [] = Unit {0}
AreOwn (e ∷ es) = (e.1 ≡ e.0.items) × AreOwn es
