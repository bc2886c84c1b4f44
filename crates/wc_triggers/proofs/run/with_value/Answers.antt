use Rattle.wc_eval.proofs.GroupLemmas.{one_more, none_left}
use Rattle.wc_eval.proofs.ReplacedLemmas.{nothing}
use Rattle.wc_triggers.specs.Reactions.{var_after}
use Rattle.wc_triggers.proofs.run.with_value.Goals as goal

pub vars-preserved : goal.vars-preserved
vars-preserved c =
    one_more (var_after c.args.name.now c.args.value.now) _ _ _ _ _ _ _ c.in-Some.ensures.cases.0 c.vars.invariant c.in_ok-var_after.ensures c.in_ok-push.ensures.ok

pub returns : goal.returns
returns c =
    none_left (var_after c.args.name.now c.args.value.now) _ _ _ (nothing c.vars.rest.now c.in_default.ensures.cases) c.vars.invariant
