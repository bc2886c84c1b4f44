-- Counts that rise by one at most, and stop at the greatest number.
use Rattle.std.specs.Prelude.{ℕ, ◌+◌, ◌-◌, ◌^◌, ◌≡◌, ◌⊎◌, min, Bool, IsTrue}
use Rattle.wc_outside.specs.Faults.{Rose}

-- the count is as it was, or one more
abbrev pub RoseOnce : ℕ → ℕ → Type 0
RoseOnce old new = (new ≡ old) ⊎ (new ≡ min (old + 1) (2 ^ 64 - 1))

-- what told before tells still, where the count of what was refused did not rise
abbrev pub TellsOn : Bool → Bool → ℕ → ℕ → Type 0
TellsOn old new refused later = IsTrue old → IsTrue new ⊎ Rose refused later
