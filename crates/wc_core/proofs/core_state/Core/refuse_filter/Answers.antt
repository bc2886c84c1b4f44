use Rattle.wc_core.proofs.CoreLemmas.{starves-as}
use Rattle.wc_core.proofs.core_state.Core.refuse_filter.Goals as goal

pub returns-in-NoMemory-clause-starves : goal.returns-in-NoMemory-clause-starves
returns-in-NoMemory-clause-starves c = λ memory step. λ told. starves-as c.args.self.now c.starve.new.self c.starve.ensures.counts c.starve.ensures.rises told _
