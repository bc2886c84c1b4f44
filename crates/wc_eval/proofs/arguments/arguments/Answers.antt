use Rattle.std.proofs.Common.{◌-◌, ◌+◌, arith}
use Rattle.wc_eval.proofs.ArgumentLemmas.{argument_lacks, argument_more}
use Rattle.wc_eval.specs.Arguments.{arguments_of}
use Rattle.wc_eval.proofs.arguments.arguments.Goals as goal

pub returns-in_default : goal.returns-in_default
returns-in_default c =
    argument_lacks c.loop-turn.texts.items (c.args.commas - c.loop-turn._turn) c.loop-turn.rest.now
    (arguments_of c.args.commas c.args.text.now) (omega arith) c.loop-turn.invariant
    c.in_default.ensures.found

pub loop-turn-preserved : goal.loop-turn-preserved
loop-turn-preserved c =
    argument_more c.loop-turn.texts.items (c.args.commas - c.loop-turn._turn) c.loop-turn.rest.now
    (arguments_of c.args.commas c.args.text.now) (omega arith) c.loop-turn.invariant
    c.in-Some.argument c.push.new.self.items (c.args.commas - (c.loop-turn._turn + 1))
    c.in-Some.after.now c.in-Ok.ensures.items (omega arith) c.in-Some.ensures.found
