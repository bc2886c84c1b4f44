use Rattle.std.proofs.Common.{ℕ, List, ap, subst, ◌∙◌}
use Rattle.wc_core.specs.Resolved.{option_text}
use Rattle.wc_core.specs.Contained.{Runs}
use Rattle.wc_core.specs.ServerSteps.{say_step}
use Rattle.wc_core.proofs.CoreLemmas.{starves-as}
use Rattle.wc_core.proofs.core_state.Core.say_setting.Goals as goal

pub returns-in-Ok : goal.returns-in-Ok
returns-in-Ok c =
    let P : List ℕ → Type 0 = λ text. Runs c.args.self.now c.say.new.self (λ state. say_step state text) in
    subst P (c.in-Ok.ensures ∙ ap (λ name. option_text name c.args.refused.now) c.as_slice.ensures) c.say.ensures.does

pub returns-in-Err : goal.returns-in-Err
returns-in-Err c = λ told. starves-as c.args.self.now c.starve.new.self c.starve.ensures.counts c.starve.ensures.rises told _
