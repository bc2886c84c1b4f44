use Rattle.wc_core.proofs.ActLemmas.{passes}
use Rattle.wc_core.proofs.core_state.Core.make_change.Goals as goal

pub returns-clause-does : goal.returns-clause-does
returns-clause-does c = passes c.args.self.now c.change-refused.new.self c.args.change c.change-refused.result c.change-refused.ensures.made c.change-refused.ensures.refused
