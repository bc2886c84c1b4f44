use Rattle.std.proofs.Common.{[], unwrap_or}
use Rattle.std.specs.Option.{option_copied}
use Rattle.wc_rules.specs.Plans.{filters_switched}
use Rattle.wc_core.proofs.CoreLemmas.{starves-as}
use Rattle.wc_core.proofs.FilterLemmas.{plans-done}
use Rattle.wc_core.proofs.core_state.Core.switch_filters.Goals as goal

pub returns-in-Ok : goal.returns-in-Ok
returns-in-Ok c =
    let name = option_copied c.args.name in
    rw (← c.self.view_is) (plans-done _ c.take_planned.new.self (unwrap_or name []) c.called_by-called.result.now c.in-Ok.plan (filters_switched name c.args.switch c.self.inside.rules.filters) c.called_by-called.ensures c.in-Ok.ensures.plan (rw (← c.self.view_is) at c.take_planned.ensures))

pub returns-in-Err : goal.returns-in-Err
returns-in-Err c = λ told. starves-as c.args.self.now c.starve.new.self c.starve.ensures.counts c.starve.ensures.rises told _
