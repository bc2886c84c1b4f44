use Rattle.std.proofs.Common.{Err, subst, ap, ◌∙◌}
use Rattle.wc_eval.specs.Progress.{Gives}
use Rattle.wc_eval.specs.Names.{facts_of}
use Rattle.wc_eval.specs.Meaning.{evaluator}
use Rattle.wc_eval.proofs.EndLemmas.{text_ends, text_stops}
use Rattle.wc_eval.proofs.evaluation.eval.Goals as goal

pub returns-in-Ok-clause-value : goal.returns-in-Ok-clause-value
returns-in-Ok-clause-value c =
    text_ends (facts_of c.args.scope) (facts_of c.new-context.result.scope)
    (ap facts_of c.new-context.ensures.scope) c.new-context.result.levels c.new-context.ensures.levels
    c.args.text.now c.as_slice.result.now c.as_slice.ensures c.text.new.verdicts c.new-kept.result
    c.text.new.kept c.new-kept.ensures
    c.in-Ok.value c.in-Ok.ensures.gives

pub returns-in-Err-Over-clause-value : goal.returns-in-Err-Over-clause-value
returns-in-Err-Over-clause-value c = λ oracle agrees. c.new.ensures ∙
    text_stops (facts_of c.args.scope) (facts_of c.new-context.result.scope)
    (ap facts_of c.new-context.ensures.scope) c.new-context.result.levels c.new-context.ensures.levels
    c.args.text.now c.as_slice.result.now c.as_slice.ensures c.text.new.verdicts c.new-kept.result
    c.text.new.kept c.new-kept.ensures
    (subst (λ stop. Gives (λ oracle. evaluator (facts_of c.new-context.result.scope) oracle
    c.new-context.result.levels c.as_slice.result.now) c.text.new.verdicts
    c.new-kept.result c.text.new.kept (Err stop)) c.in-Err-Over.field-0-is
    c.in-Err-Over.ensures.gives) oracle agrees
