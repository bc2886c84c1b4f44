use Rattle.std.proofs.Common.{◌∙◌, ap, refl, sym, Some, None}
use Rattle.wc_eval.specs.Verdicts.{verdict_on}
use Rattle.wc_eval.specs.declared.verdict.Verdict.TheVariants.{Syntax}
use Rattle.wc_eval.proofs.VerdictLemmas.{got_verdict, found_right}
use Rattle.wc_eval.proofs.verdicts.Verdicts.verdict.Goals as goal

pub returns-in-Some-clause-value : goal.returns-in-Some-clause-value
returns-in-Some-clause-value c =
    got_verdict c.args.pattern.now _ _ _ _ c.in-Some.ensures.value c.as_slice.ensures refl
    ∙ ap (verdict_on c.args.pattern.now) c.self.view_is

pub returns-in-None-clause-value : goal.returns-in-None-clause-value
returns-in-None-clause-value c =
    got_verdict c.args.pattern.now _ _ None None c.in-None.ensures.value c.as_slice.ensures refl
    ∙ ap (verdict_on c.args.pattern.now) c.self.view_is

pub returns-in-Some-clause-syntax : goal.returns-in-Some-clause-syntax
returns-in-Some-clause-syntax c syntax =
    found_right c.args.pattern.now _ Syntax c.self.invariant.0
    (sym (got_verdict c.args.pattern.now _ _ _ _ c.in-Some.ensures.value c.as_slice.ensures refl) ∙ syntax)
