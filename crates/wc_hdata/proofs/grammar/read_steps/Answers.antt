use Rattle.std.specs.Option.{option_copied}
use Rattle.wc_hdata.specs.Answers.{steps_after}
use Rattle.wc_hdata.proofs.StepLemmas.{steps_more, steps_unread, steps_astray}
use Rattle.wc_hdata.proofs.grammar.read_steps.Goals as goal

pub returns-in_default-read_step : goal.returns-in_default-read_step
returns-in_default-read_step c =
    steps_unread c.loop-rest.steps c.loop-rest.here (steps_after c.args.element (option_copied c.args.text)) c.in-Some.pieces.now c.split_once.result.0.now
    (rw c.in-Some.is at c.loop-rest.invariant) c.split_once.ensures.front c.in_default-read_step.ensures

pub returns-in_default-leads : goal.returns-in_default-leads
returns-in_default-leads c =
    steps_astray c.loop-rest.steps c.loop-rest.here c.in-Some-read_step.step (steps_after c.args.element (option_copied c.args.text)) c.in-Some.pieces.now c.split_once.result.0.now
    (rw c.in-Some.is at c.loop-rest.invariant) c.split_once.ensures.front c.in-Some-read_step.ensures c.in_default-leads.ensures.leads

pub loop-rest-preserved : goal.loop-rest-preserved
loop-rest-preserved c =
    steps_more c.loop-rest.steps c.push.new.self c.loop-rest.here c.in-Some-leads.next c.in-Some-read_step.step (steps_after c.args.element (option_copied c.args.text)) c.in-Some.pieces.now c.split_once.result.0.now (option_copied c.split_once.result.1)
    (rw c.in-Some.is at c.loop-rest.invariant) c.split_once.ensures.front c.split_once.ensures.back c.in-Some-read_step.ensures c.in-Some-leads.ensures.leads c.in_ok-push.ensures.ok
