-- What an evaluation keeps while it goes on, and how its steps follow one another.
use Rattle.std.specs.Prelude.{◌≡◌, ◌≤◌, ℕ, ◌+◌, nat_lt, nat_le, List, [], ◌∷◌, length, bytes_eq}
use Rattle.std.specs.Prelude.{if◌then◌else◌, Bool, ◌&&◌}
use Rattle.std.specs.Prelude.{Option, Some, None, Result, Ok, Err}
use Rattle.wc_eval.specs.declared.values.Stop.{Stop}
use Rattle.wc_eval.specs.declared.values.Stop.TheVariants.{Over, NoMemory}
use Rattle.wc_eval.specs.Values.{longest}
use Rattle.wc_eval.specs.Verdicts.{Oracle, Agrees, VerdictsView}

-- The names that were defined, each with its value, how many forms were evaluated, and sums of bytes:
-- of the names that were defined, of the values that they got, and of the values of forms. A name that
-- is defined again counts again.
pub record Progress : Type 0 where
  pub names : List (List ℕ × List ℕ)
  pub forms : ℕ
  pub named : ℕ
  pub defined : ℕ
  pub made : ℕ

abbrev pub fresh : Progress
fresh = record { names = []; forms = 0; named = 0; defined = 0; made = 0 }

-- a value and what is kept after it, or nothing where a limit is passed
abbrev pub Answer : Type 0 → Type 0
Answer A = Option (A × Progress)

-- one step and then the next
abbrev pub then_do : {A B : Type 0} → Answer A → (A → Progress → Answer B) → Answer B
then_do None next = None
then_do (Some found) next = next found.0 found.1

abbrev pub answer_of : {A : Type 0} → A → Progress → Answer A
answer_of value progress = Some (value, progress)

abbrev pub value_or : {A : Type 0} → A → Answer A → A
value_or otherwise None = otherwise
value_or otherwise (Some found) = found.0

-- how a text is evaluated
abbrev pub Evaluator : Type 0
Evaluator = List ℕ → Progress → Answer (List ℕ)

-- the most forms of an evaluation
abbrev pub most_forms : ℕ
most_forms = 65536

-- no value is longer than the limit
abbrev pub if_short : Answer (List ℕ) → Answer (List ℕ)
if_short None = None
if_short (Some found) = if nat_le (length found.0) longest then Some found else None

-- the most bytes of all names that are defined, and of all their values
abbrev pub most_defined : ℕ
most_defined = 1048576

-- the most bytes of the values of all forms
abbrev pub most_made : ℕ
most_made = 16777216

-- whether the names fit that were defined, and their values
abbrev pub names_fit : Progress → Bool
names_fit progress = nat_le progress.named most_defined && nat_le progress.defined most_defined

-- whether a form may have a value of so many bytes after this
abbrev pub value_fits : ℕ → Progress → Bool
value_fits bytes progress = nat_le bytes longest
    && (names_fit progress && nat_le (progress.made + bytes) most_made)

-- the sums are within their limits
pub record SumsFit (progress : Progress) : Type 0 where
  pub named : progress.named ≤ most_defined
  pub defined : progress.defined ≤ most_defined
  pub made : progress.made ≤ most_made

-- the value of a form counts
abbrev pub with_made : ℕ → Progress → Progress
with_made bytes progress = record progress { made = progress.made + bytes }

-- a form has a value only within the limits
abbrev pub if_fits : Answer (List ℕ) → Answer (List ℕ)
if_fits None = None
if_fits (Some found) = if value_fits (length found.0) found.1
    then Some (found.0, with_made (length found.0) found.1) else None

-- one form more
abbrev pub counted : Progress → Progress
counted progress = record progress { forms = progress.forms + 1 }

-- a form, if that many may be
abbrev pub with_count : Evaluator → Evaluator
with_count form text progress = if nat_lt progress.forms most_forms
    then form text (counted progress) else None

-- ---- names

-- a name that is set: one that is there gets the value, and a new one goes last
abbrev pub with_name : List ℕ → List ℕ → List (List ℕ × List ℕ) → List (List ℕ × List ℕ)
with_name name value [] = (name, value) ∷ []
with_name name value (e ∷ es) = if bytes_eq name e.0 then (e.0, value) ∷ es
    else e ∷ with_name name value es

abbrev pub define : List ℕ → List ℕ → Progress → Progress
define name value progress = record progress {
  names = with_name name value progress.names;
  named = progress.named + length name;
  defined = progress.defined + length value;
}

-- ---- what the code answers

-- A step whose verdicts come of each oracle that agrees with those that are there after it: its
-- value, and what is kept then; or that a limit is passed. Want of memory says nothing.
abbrev pub Gives : {A : Type 0} → (Oracle → Progress → Answer A) → VerdictsView → Progress →
    Progress → Result A Stop → Type 0
Gives step verdicts old new (Ok value) = (oracle : Oracle) → Agrees oracle verdicts →
    step oracle old ≡ Some (value, new)
Gives step verdicts old new (Err Over) = (oracle : Oracle) → Agrees oracle verdicts →
    step oracle old ≡ None
Gives step verdicts old new (Err NoMemory) = Unit {0}
