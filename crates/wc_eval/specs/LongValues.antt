-- Steps whose value may still be too long, or pass another limit.
use Rattle.std.specs.Prelude.{◌≡◌, ℕ, List, Result, Ok, Err, Some, None}
use Rattle.wc_eval.specs.declared.values.Stop.{Stop}
use Rattle.wc_eval.specs.declared.values.Stop.TheVariants.{Over, NoMemory}
use Rattle.wc_eval.specs.Verdicts.{Oracle, Agrees, VerdictsView}
use Rattle.wc_eval.specs.Progress.{Progress, Answer, answer_of, if_fits}

-- As `Gives`, where a value that does not fit stops the step too.
abbrev pub GivesLong : (Oracle → Progress → Answer (List ℕ)) → VerdictsView → Progress → Progress →
    Result (List ℕ) Stop → Type 0
GivesLong step verdicts old new (Ok value) = (oracle : Oracle) → Agrees oracle verdicts →
    step oracle old ≡ Some (value, new)
GivesLong step verdicts old new (Err Over) = (oracle : Oracle) → Agrees oracle verdicts →
    if_fits (step oracle old) ≡ None
GivesLong step verdicts old new (Err NoMemory) = Unit {0}

-- A value that is looked at is counted, or it does not fit.
abbrev pub Fits : List ℕ → Progress → Progress → Result (List ℕ) Stop → Type 0
Fits value old new (Ok made) = if_fits (answer_of value old) ≡ Some (made, new)
Fits value old new (Err stop) = (stop ≡ Over) × (if_fits (answer_of value old) ≡ None)
