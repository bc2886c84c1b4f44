-- What the bits of an entry tell of the places for passes.
use Rattle.std.specs.Prelude.{ℕ, ◌*◌, ◌%◌, ◌^◌, Bool, ◌==◌, if◌then◌else◌, bit_and, bit_or}
use Rattle.std.specs.Prelude.{bit_xor}
use Rattle.std.specs.Int.{bit_at, bit_not}
use Rattle.std.proofs.Common.{w32}
use Rattle.wc_hooks.specs.declared.past.Past.{Past}

abbrev pub bit_on : ℕ → ℕ → Bool
bit_on word place = bit_at word place == 1

-- whether an entry that is enabled now, or is not, was enabled as the pass of this place opened
unfoldable pub was_at : Past → ℕ → Bool → Bool
was_at past place enabled = if bit_on past.changed place then bit_on past.was place else enabled

-- for the pass of this place nothing changed yet
unfoldable pub opened_at : ℕ → Past → Past
opened_at place past = record {
  changed = bit_and past.changed
      (bit_not w32 (1 * 2 ^ place % 2 ^ 32));
  was = past.was;
}

-- an entry that was enabled until now, or was not, changes: each place for which nothing had
-- changed notes what it was
unfoldable pub noted : Bool → Past → Past
noted enabled past = record {
  changed = 4294967295;
  was = if enabled
      then bit_or (bit_and past.was past.changed) (bit_xor past.changed 4294967295)
      else bit_and past.was past.changed;
}
