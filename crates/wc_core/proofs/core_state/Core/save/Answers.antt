use Rattle.wc_core.proofs.CoreLemmas.{starves-as}
use Rattle.wc_core.proofs.OptionLemmas.{save-done}
use Rattle.wc_core.proofs.core_state.Core.save.Goals as goal

pub returns-in-Ok : goal.returns-in-Ok
returns-in-Ok c = rw (← c.self.view_is) (save-done _ c.in-Ok.text c.in-Ok.ensures.written)

pub returns-in-Err : goal.returns-in-Err
returns-in-Err c = λ told. starves-as c.args.self.now c.starve.new.self c.starve.ensures.counts c.starve.ensures.rises told _
