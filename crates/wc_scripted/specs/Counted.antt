-- What a keeper and a sink in memory know of their calls.
use Rattle.std.specs.Prelude.{ℕ, ◌≡◌, ◌+◌, ◌-◌, ◌^◌, min, Bool, true, false, List, Result, Ok, Err}
use Rattle.wc_outside.specs.declared.keeper.KeepFault.{KeepFault}
use Rattle.wc_outside.specs.declared.keeper.KeepFault.TheVariants.{Failed, NoMemory}
use Rattle.wc_scripted.specs.Plays.{is_failing}
use Rattle.wc_scripted.specs.Rises.{RoseOnce}

pub record Counted : Type 0 where
  -- how many calls were made, and the numbers of those that are to fail
  pub calls : ℕ
  pub failing : List ℕ
  -- how often memory was refused
  pub refused : ℕ

-- no call was made yet
abbrev pub none_made : List ℕ → Counted
none_made failing = record { calls = 0; failing = failing; refused = 0 }

-- the number of the next call
abbrev pub next_call : Counted → ℕ
next_call counted = min (counted.calls + 1) (2 ^ 64 - 1)

-- whether the next call is to fail
abbrev pub call_fails : Counted → Bool
call_fails counted = is_failing (next_call counted) counted.failing

-- one call more was made, in which memory was refused once at most
pub record CountsCall (old new : Counted) : Type 0 where
  pub calls : new.calls ≡ next_call old
  pub failing : new.failing ≡ old.failing
  pub refused : RoseOnce old.refused new.refused

-- a read fails exactly where this holds; that it finds no memory is no failure
abbrev pub ReadFailsWhere : {A : Type 0} → Bool → Result A KeepFault → Type 0
ReadFailsWhere fails (Ok value) = fails ≡ false
ReadFailsWhere fails (Err Failed) = fails ≡ true
ReadFailsWhere fails (Err NoMemory) = fails ≡ false
