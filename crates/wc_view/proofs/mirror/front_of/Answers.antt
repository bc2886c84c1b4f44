use Rattle.wc_view.proofs.TakeLemmas.{front_formed}
use Rattle.wc_view.proofs.mirror.front_of.Goals as goal

pub returns-clause-formed : goal.returns-clause-formed
returns-clause-formed c = front_formed c.read_message.result c.args.bytes.now c.read_message.ensures.found
