-- The next handle after some are passed over.
use Rattle.std.proofs.Common.{◌≡◌, ℕ, ◌+◌, ◌≤◌, ◌<◌, ◌^◌, Bool, true, false, cond, leb, refl, arith}
use Rattle.std.specs.Prelude.{max}
use Rattle.std.proofs.lemmas.Bool.Decides.{nat_tests}
use Rattle.wc_world.specs.Handles.{next_from}

-- a handle is given out that could be
pub next_rises : (handle next : ℕ) → next ≤ next_from handle next
unfolding next_from
next_rises handle next = by (leb handle (2 ^ 62)) where
  by : (b : Bool) → next ≤ cond b (max next handle) next
  by true = omega arith
  by false = omega arith

pub next_bounded : (handle next : ℕ) → next ≤ 2 ^ 62 + 1 → next_from handle next ≤ 2 ^ 62 + 1
unfolding next_from
next_bounded handle next below = by (leb handle (2 ^ 62)) refl where
  by : (b : Bool) → leb handle (2 ^ 62) ≡ b → cond b (max next handle) next ≤ 2 ^ 62 + 1
  by true is = grind (arith, nat_tests)
  by false is = below

-- the next handle is at least this one
pub next_reaches : (handle next : ℕ) → handle ≤ 2 ^ 62 → handle ≤ next_from handle next
unfolding next_from
next_reaches handle next fits = by (leb handle (2 ^ 62)) refl where
  by : (b : Bool) → leb handle (2 ^ 62) ≡ b → handle ≤ cond b (max next handle) next
  by true is = omega arith
  by false is = absurd (grind (arith, nat_tests))

pub next_stays : (next : ℕ) → next_from 0 next ≡ next
unfolding next_from
next_stays next = omega arith
