use Rattle.wc_core.proofs.CoreLemmas.{starves-as}
use Rattle.std.proofs.Common.{ap, sym, subst, ◌∙◌}
use Rattle.wc_model.specs.declared.change.Change.{Change}
use Rattle.wc_core.specs.Contained.{Runs}
use Rattle.wc_core.specs.CoreView.{CoreView}
use Rattle.wc_core.specs.Evaluated.{printed_value}
use Rattle.wc_core.specs.Step.{ask_step}
use Rattle.wc_core.specs.Texts.{WhatUtf8}
use Rattle.wc_core.proofs.ResolvedTexts.{printed_text}
use Rattle.wc_core.proofs.core_state.Core.print_evaluated.Goals as goal

pub ask_change-requires : goal.ask_change-requires
ask_change-requires c =
    let P : Change → Type 0 = λ change. WhatUtf8 change.what in
    subst P (sym c.in-Ok.ensures) (printed_text c.self.inside.moment c.args.value.now c.requires)

pub returns-in-Err : goal.returns-in-Err
returns-in-Err c = λ told. starves-as c.args.self.now c.starve.new.self c.starve.ensures.counts c.starve.ensures.rises told _

pub returns-in-Ok : goal.returns-in-Ok
returns-in-Ok c =
    let P : Change → Type 0 = λ change. Runs c.args.self.now c.ask_change.new.self (λ state. ask_step state change) in
    subst P (c.in-Ok.ensures ∙ ap (λ (core : CoreView). printed_value core.moment c.args.value.now) c.self.view_is) c.ask_change.ensures.does
