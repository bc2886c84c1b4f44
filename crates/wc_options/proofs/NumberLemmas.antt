use Rattle.std.proofs.Common.{ℕ, ◌≡◌, ◌<◌, ◌≤◌, ◌+◌, ◌-◌, ◌*◌, List, [], ◌∷◌, Some, None, arith}
use Rattle.std.proofs.lemmas.Bool.Decides.{nat_tests}
use Rattle.wc_options.specs.Number.{decimal_from, within}

-- digits after a number that is too large already make none that fits
pub too_large : (lowest highest n : ℕ) (bytes : List ℕ) → highest < n → within lowest highest (decimal_from n bytes) ≡ None
too_large lowest highest n [] h = grind (arith, nat_tests)
too_large lowest highest n (byte ∷ bytes) h = grind (arith, nat_tests, too_large lowest highest (n * 10 + (byte - 48)) bytes)

pub ruleset number_steps = (too_large, nat_tests)
