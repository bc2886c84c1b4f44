use Rattle.wc_framing.proofs.UnframedLemmas.{Fed-next, Fed-shrinks}
use Rattle.wc_framing.proofs.framing.next_message.Goals as goal

pub returns-clause-comes : goal.returns-clause-comes
returns-clause-comes c = λ bytes text fed. Fed-next bytes text c.args.link.now c.next.new.self c.next.result c.next.ensures.head c.next.ensures.frames fed

pub returns-clause-shrinks : goal.returns-clause-shrinks
returns-clause-shrinks c = Fed-shrinks c.args.link.now c.next.new.self c.next.result c.next.ensures.over c.next.ensures.head c.next.ensures.frames
