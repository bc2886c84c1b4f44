use Rattle.std.proofs.Common.{arith}
use Rattle.wc_eval.proofs.SignLemmas.{no_sign}
use Rattle.wc_eval.proofs.comparison.Comparison.cut.Goals as goal

pub returns-in_default-clause-found : goal.returns-in_default-clause-found
returns-in_default-clause-found c =
    no_sign c.args.text.now c.in_ok-first.first.now c.in_ok-first.rest.now c.in_ok-first.ensures.cases.0
    (λ e. omega (arith, e)) (λ e. omega (arith, e)) (λ e. omega (arith, e)) (λ e. omega (arith, e))
