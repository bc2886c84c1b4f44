-- The steps at a line, and of one line more.
use Rattle.std.proofs.Common.{◌≡◌, ◌≢◌, ℕ, ◌+◌, ◌%◌, false, eqb, [], ◌∷◌, ◌++◌, refl, sym, subst, add-one, arith}
use Rattle.std.proofs.lemmas.Bool.Decides.{nat_tests}
use Rattle.wc_scripted.specs.declared.scripted.Scripted.TheVariants.{Wake, Gives}
use Rattle.wc_demo.specs.Lines.{sent_line}
use Rattle.wc_demo.specs.Script.{server, moment_of, steps_at, steps_to}

pub at_tenth : (place : ℕ) → place % 10 ≡ 0 → steps_at place ≡ Gives server (sent_line place) ∷ Wake (moment_of place) ∷ []
at_tenth place e = rw e

pub at_other : (place : ℕ) → place % 10 ≢ 0 → steps_at place ≡ Gives server (sent_line place) ∷ []
at_other place e = let no : eqb (place % 10) 0 ≡ false = grind (arith, nat_tests) in rw no refl

pub steps_more : (place : ℕ) → steps_to (place + 1) ≡ steps_to place ++ steps_at (place + 1)
steps_more place = subst (λ (n : ℕ). steps_to n ≡ steps_to place ++ steps_at n) (sym (add-one place)) refl

-- what `push_line` needs
pub ruleset step_facts = (at_tenth, at_other)
