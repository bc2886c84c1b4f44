use Rattle.wc_core.proofs.CoreLemmas.{starves-as}
use Rattle.wc_core.proofs.FilterLemmas.{filters-found}
use Rattle.wc_core.proofs.core_state.Core.take_filters.Goals as goal

pub returns-in-Ok : goal.returns-in-Ok
returns-in-Ok c = filters-found c.args.self.now c.refilter.new.self c.args.plan c.in-Ok.flips c.in-Ok.ensures c.refilter.ensures

pub returns-in-Err : goal.returns-in-Err
returns-in-Err c = λ told. starves-as c.args.self.now c.starve.new.self c.starve.ensures.counts c.starve.ensures.rises told _
