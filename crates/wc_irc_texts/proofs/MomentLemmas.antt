-- The leap years before a year, counted by division.
use Rattle.std.proofs.Common.{◌≡◌, ℕ, zero, suc, ◌+◌, ◌-◌, ◌*◌, ◌/◌, ◌%◌, ◌≤◌, Bool, true, false, cond, refl, ap, sym, ◌∙◌, subst, arith}
use Rattle.std.specs.Prelude.{not, ◌&&◌, ◌||◌, ◌==◌}
use Rattle.std.proofs.lemmas.Bool.Decides.{nat_tests}
use Rattle.wc_irc_texts.specs.Moments.{year_days, days_of_years}

-- the leap years up to one year more
step : (y : ℕ) (a b c : Bool) → (suc y % 4 == 0) ≡ a → (suc y % 100 == 0) ≡ b → (suc y % 400 == 0) ≡ c
    → cond (a && (not b || c)) 366 365 + (y / 4 + y / 400) + suc y / 100 ≡ 365 + (suc y / 4 + suc y / 400) + y / 100
step y true true true four hundred both = grind (arith, nat_tests)
step y true true false four hundred both = grind (arith, nat_tests)
step y true false true four hundred both = grind (arith, nat_tests)
step y true false false four hundred both = grind (arith, nat_tests)
step y false true true four hundred both = grind (arith, nat_tests)
step y false true false four hundred both = grind (arith, nat_tests)
step y false false true four hundred both = grind (arith, nat_tests)
step y false false false four hundred both = grind (arith, nat_tests)

counted : (n : ℕ) → days_of_years n + 477 + (1969 + n) / 100 ≡ 365 * n + (1969 + n) / 4 + (1969 + n) / 400
counted zero = refl
counted (suc n) =
    let y = 1969 + n in
    let next : 1969 + suc n ≡ suc y = omega arith in
    let here : 1970 + n ≡ suc y = omega arith in
    let year : year_days (1970 + n) ≡ year_days (suc y) = ap year_days here in
    let more : year_days (suc y) + (y / 4 + y / 400) + suc y / 100 ≡ 365 + (suc y / 4 + suc y / 400) + y / 100 = step y (suc y % 4 == 0) (suc y % 100 == 0) (suc y % 400 == 0) refl refl refl in
    subst (λ z. days_of_years n + year_days (1970 + n) + 477 + z / 100 ≡ 365 * suc n + z / 4 + z / 400) (sym next) (omega (arith, counted n, year, more))

pub days_before_year : (year : ℕ) → 1970 ≤ year → days_of_years (year - 1970) + 477 + (year - 1) / 100 ≡ 365 * (year - 1970) + (year - 1) / 4 + (year - 1) / 400
days_before_year year first =
    let here : 1969 + (year - 1970) ≡ year - 1 = omega arith in
    ap (λ n. days_of_years (year - 1970) + 477 + n / 100) (sym here) ∙ counted (year - 1970)
    ∙ ap (λ n. 365 * (year - 1970) + n / 4 + n / 400) here

pub ruleset leaps = (days_before_year)
