use Rattle.wc_core.proofs.CoreLemmas.{starves-as}
use Rattle.wc_core.proofs.RunLemmas.{Runs-stays}
use Rattle.std.proofs.Common.{ℕ, List, true, false, ap, sym, subst, ◌∙◌}
use Rattle.wc_core.specs.CoreView.{CoreView}
use Rattle.wc_core.specs.ServerTyped.{connect_step, connects_itself}
use Rattle.wc_core.proofs.AskedLemmas.{owns-as}
use Rattle.wc_core.proofs.core_state.Core.connect_own.Goals as goal
use Rattle.wc_core.specs.Contained.{Runs}

pub returns-in-Ok-true : goal.returns-in-Ok-true
returns-in-Ok-true c =
    let own = sym c.in-Ok-true.field-0-test ∙ c.in-Ok-true.ensures ∙ ap (λ (name : List ℕ). connects_itself c.self.inside.options name) c.as_slice.ensures ∙ ap (λ (core : CoreView). connects_itself core.options c.args.name.now) c.self.view_is in
    let P : List ℕ → Type 0 = λ name. Runs c.args.self.now c.connect.new.self (λ state. connect_step state name) in
    owns-as c.args.self.now c.connect.new.self c.args.name.now true own (subst P c.as_slice-in-Ok-true.ensures c.connect.ensures)

pub returns-in-Ok-false : goal.returns-in-Ok-false
returns-in-Ok-false c =
    let own = sym c.in-Ok-false.field-0-test ∙ c.in-Ok-false.ensures ∙ ap (λ (name : List ℕ). connects_itself c.self.inside.options name) c.as_slice.ensures ∙ ap (λ (core : CoreView). connects_itself core.options c.args.name.now) c.self.view_is in
    owns-as c.args.self.now c.args.self.now c.args.name.now false own (Runs-stays c.args.self.now)

pub returns-in-Err : goal.returns-in-Err
returns-in-Err c = λ told. starves-as c.args.self.now c.starve.new.self c.starve.ensures.counts c.starve.ensures.rises told _
