use Rattle.wc_core.proofs.CoreLemmas.{starves-as}
use Rattle.std.proofs.Common.{ap, sym, ◌∙◌}
use Rattle.wc_core.specs.CoreView.{CoreView}
use Rattle.wc_core.specs.ServerTyped.{server_names}
use Rattle.wc_core.proofs.AskedLemmas.{all-as, all-held}
use Rattle.wc_core.proofs.core_state.Core.connect_all.Goals as goal
use Rattle.wc_core.proofs.RunLemmas.{Runs-stays}

pub returns-then-not-self-clause-does : goal.returns-then-not-self-clause-does
returns-then-not-self-clause-does c = rw (← c.self.view_is) (all-held _ c.if-not-self.true (Runs-stays _))

pub returns-in-Ok-clause-does : goal.returns-in-Ok-clause-does
returns-in-Ok-clause-does c =
    let on = ap (λ (core : CoreView). core.connects) (sym c.self.view_is) ∙ c.if-not-self.false in
    let names = c.as_slice.ensures ∙ c.in-Ok.ensures ∙ ap (λ (core : CoreView). server_names core.options) c.self.view_is in
    all-as c.args.self.now c.connect_each.new.self c.as_slice.result.now on names c.connect_each.ensures

pub returns-in-Err-clause-does : goal.returns-in-Err-clause-does
returns-in-Err-clause-does c = λ told. starves-as c.args.self.now c.starve.new.self c.starve.ensures.counts c.starve.ensures.rises told _
