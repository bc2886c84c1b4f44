use Rattle.std.proofs.Common.{Err, subst, ap}
use Rattle.wc_eval.specs.Progress.{Gives}
use Rattle.wc_eval.specs.Names.{facts_of}
use Rattle.wc_eval.specs.Conditions.{condition_by}
use Rattle.wc_eval.specs.Meaning.{evaluator}
use Rattle.wc_eval.proofs.EndLemmas.{condition_ends, condition_stops}
use Rattle.wc_eval.proofs.evaluation.condition.Goals as goal

pub returns-in-Ok-clause-holds : goal.returns-in-Ok-clause-holds
returns-in-Ok-clause-holds c =
    condition_ends (facts_of c.args.scope) (facts_of c.new-context.result.scope)
    (ap facts_of c.new-context.ensures.scope) c.new-context.result.levels c.new-context.ensures.levels
    c.args.text.now c.as_slice.result.now c.as_slice.ensures c.condition.new.verdicts c.new-kept.result
    c.condition.new.kept c.new-kept.ensures
    c.in-Ok.holds c.in-Ok.ensures.gives

pub returns-in-Err-Over-clause-holds : goal.returns-in-Err-Over-clause-holds
returns-in-Err-Over-clause-holds c =
    condition_stops (facts_of c.args.scope) (facts_of c.new-context.result.scope)
    (ap facts_of c.new-context.ensures.scope) c.new-context.result.levels c.new-context.ensures.levels
    c.args.text.now c.as_slice.result.now c.as_slice.ensures c.condition.new.verdicts c.new-kept.result
    c.condition.new.kept c.new-kept.ensures
    (subst (λ stop. Gives (λ oracle. condition_by oracle (evaluator (facts_of c.new-context.result.scope) oracle
    c.new-context.result.levels) c.as_slice.result.now) c.condition.new.verdicts
    c.new-kept.result c.condition.new.kept (Err stop)) c.in-Err-Over.field-0-is
    c.in-Err-Over.ensures.gives)
