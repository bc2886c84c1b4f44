-- The triggers in the order of creation, and how they change.
use Rattle.std.specs.Prelude.{◌≡◌, ◌≤◌, ℕ, ◌+◌, ◌^◌, Bool, not, List, [], ◌∷◌, ◌++◌}
use Rattle.std.specs.Prelude.{filter, length, map, All, Option, Some, None, option_map, find}
use Rattle.std.specs.Prelude.{Result, Ok, Err, if◌then◌else◌, nat_lt, ◌==◌}
use Rattle.std.specs.List.{list_any}
use Rattle.std.specs.Str.{bytes_eq}
use Rattle.wc_eval.specs.Verdicts.{VerdictsView}
use Rattle.wc_triggers.specs.Triggers.{IsFine}
use Rattle.wc_triggers.specs.declared.trigger.TriggerParts.{TriggerParts}
use Rattle.wc_triggers.specs.declared.numbered.NumberedTrigger.{NumberedTrigger}
use Rattle.wc_triggers.specs.declared.refused.AddRefused.{AddRefused}
use Rattle.wc_triggers.specs.declared.refused.AddRefused.TheVariants as refused
use Rattle.wc_triggers.specs.declared.refused.NoSuch.{NoSuch}

-- The triggers with their numbers, and how many numbers were drawn.
pub record TriggersView : Type 0 where
  pub rows : List NumberedTrigger
  pub drawn : ℕ

abbrev pub is_named : List ℕ → NumberedTrigger → Bool
is_named name row = bytes_eq row.trigger.name name

abbrev pub has_name : List ℕ → List NumberedTrigger → Bool
has_name name rows = list_any (λ row. is_named name row) rows

abbrev pub without : List ℕ → List NumberedTrigger → List NumberedTrigger
without name rows = filter (λ row. not (is_named name row)) rows

abbrev pub with_flag : List ℕ → Bool → NumberedTrigger → NumberedTrigger
with_flag name on row = if is_named name row
    then record row { trigger = record row.trigger { enabled = on } } else row

abbrev pub with_flags : List ℕ → Bool → List NumberedTrigger → List NumberedTrigger
with_flags name on rows = map (with_flag name on) rows

-- the number of the trigger of this name, if there is one
abbrev pub number_of : List ℕ → List NumberedTrigger → Option ℕ
number_of name rows = option_map (λ row. row.number) (find (λ row. is_named name row) rows)

-- the trigger of this number, if there is one
abbrev pub trigger_of : ℕ → List NumberedTrigger → Option TriggerParts
trigger_of number rows = option_map (λ row. row.trigger) (find (λ row. row.number == number) rows)

abbrev pub new_row : ℕ → TriggerParts → NumberedTrigger
new_row number trigger = record { number = number; trigger = trigger }

-- the triggers after one more, which has the next number
abbrev pub with_trigger : TriggerParts → TriggersView → TriggersView
with_trigger trigger triggers = record {
  rows = triggers.rows ++ new_row (triggers.drawn + 1) trigger ∷ [];
  drawn = triggers.drawn + 1;
}

abbrev pub with_rows : List NumberedTrigger → TriggersView → TriggersView
with_rows rows triggers = record { rows = rows; drawn = triggers.drawn }

-- why a trigger of this name is not added, in this order, if it is not
abbrev pub refusal_of : TriggersView → List ℕ → Option AddRefused
refusal_of triggers name =
    if has_name name triggers.rows then Some refused.NameTaken
    else if nat_lt (length triggers.rows) 256 then
    (if nat_lt triggers.drawn (2 ^ 52) then None else Some refused.Spent)
    else Some refused.TooMany

-- Only want of memory comes of itself.
abbrev pub IsAnswer : Option AddRefused → Result ℕ AddRefused → Type 0
IsAnswer refusal (Ok number) = refusal ≡ None
IsAnswer refusal (Err refused.NoMemory) = Unit {0}
IsAnswer refusal (Err other) = refusal ≡ Some other

-- the number that was answered, if one was
abbrev pub answered : Result ℕ NoSuch → Option ℕ
answered (Ok number) = Some number
answered (Err none) = None

-- no number is above this one
abbrev pub UpTo : ℕ → List NumberedTrigger → Type 0
UpTo most rows = All (λ row. row.number ≤ most) rows

-- each pattern of the triggers was judged to be one
abbrev pub AreFine : VerdictsView → List NumberedTrigger → Type 0
AreFine verdicts rows = All (λ row. IsFine verdicts row.trigger) rows
