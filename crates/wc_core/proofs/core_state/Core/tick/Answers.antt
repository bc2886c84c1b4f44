use Rattle.std.proofs.Common.{ap, subst}
use Rattle.wc_core.specs.CoreView.{CoreView}
use Rattle.wc_core.specs.Step.{push_step}
use Rattle.wc_core.specs.Contained.{Runs}
use Rattle.wc_core.proofs.PushLemmas.{tick-done, tick-contained, tick-counts, tick-board}
use Rattle.wc_core.proofs.core_state.Core.tick.Goals as goal

pub returns-clause-does : goal.returns-clause-does
returns-clause-does c = rw (← c.self.view_is) (tick-done _ c.push.new.self c.args.moment c.push.ensures.does)

pub returns-clause-idle : goal.returns-clause-idle
returns-clause-idle c = rw (← c.self.view_is) (λ none. c.push.ensures.idle none)

pub returns-clause-contained : goal.returns-clause-contained
returns-clause-contained c = rw (← c.self.view_is) (tick-contained _ c.push.new.self c.args.moment c.push.ensures.does (ap (λ (core : CoreView). core.cuts) c.push.ensures.stays))

pub returns-clause-counted : goal.returns-clause-counted
returns-clause-counted c = rw (← c.self.view_is) (tick-counts _ c.push.new.self c.args.moment c.push.ensures.does)

pub returns-clause-drops : goal.returns-clause-drops
returns-clause-drops c =
    let P : CoreView → Type 0 = λ core. Runs (record core { moment = c.args.moment }) c.push.new.self push_step in
    tick-board c.args.self.now c.push.new.self c.args.moment (subst P c.self.view_is c.push.ensures.does)
