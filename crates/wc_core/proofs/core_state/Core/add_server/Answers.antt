use Rattle.wc_core.proofs.CoreLemmas.{starves-as}
use Rattle.std.proofs.Common.{List, subst, ◌∙◌}
use Rattle.wc_text.specs.declared.names.Pair.{Pair}
use Rattle.wc_core.specs.ServerTyped.{settings_step}
use Rattle.wc_core.proofs.TypedTexts.{settings_text}
use Rattle.wc_core.proofs.core_state.Core.add_server.Goals as goal
use Rattle.wc_core.specs.Contained.{Runs}

pub set_each-requires : goal.set_each-requires
set_each-requires c = settings_text c.args.name.now c.args.address.now c.args.tls _ (c.as_slice.ensures ∙ c.in-Ok.ensures) c.requires

pub returns-in-Ok : goal.returns-in-Ok
returns-in-Ok c =
    let P : List Pair → Type 0 = λ settings. Runs c.args.self.now c.set_each.new.self (λ state. settings_step state settings) in
    subst P (c.as_slice.ensures ∙ c.in-Ok.ensures) c.set_each.ensures

pub returns-in-Err : goal.returns-in-Err
returns-in-Err c = λ told. starves-as c.args.self.now c.starve.new.self c.starve.ensures.counts c.starve.ensures.rises told _
