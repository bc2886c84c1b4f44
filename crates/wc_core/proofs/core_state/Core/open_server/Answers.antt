use Rattle.wc_core.proofs.CoreLemmas.{starves-as}
use Rattle.std.proofs.Common.{subst}
use Rattle.wc_buffers.specs.declared.row.BufferSpec.{BufferSpec}
use Rattle.wc_core.specs.ServerTyped.{open_new_step}
use Rattle.wc_core.proofs.core_state.Core.open_server.Goals as goal
use Rattle.wc_core.specs.Contained.{Runs}

pub returns-in-Ok-clause-does : goal.returns-in-Ok-clause-does
returns-in-Ok-clause-does c =
    let P : BufferSpec → Type 0 = λ spec. Runs c.args.self.now c.open_new.new.self (λ state. open_new_step state spec) in
    subst P c.in-Ok.ensures c.open_new.ensures.does

pub returns-in-Err-clause-does : goal.returns-in-Err-clause-does
returns-in-Err-clause-does c = λ told. starves-as c.args.self.now c.starve.new.self c.starve.ensures.counts c.starve.ensures.rises told _
