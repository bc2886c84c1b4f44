use Rattle.std.proofs.Common.{Bool, cond, is_some, ap, ◌∙◌}
use Rattle.wc_text.specs.declared.names.Handle.{Handle}
use Rattle.wc_world.proofs.There.{there_by_row}
use Rattle.wc_core.proofs.evaluated.buffer_or_core.Goals as goal

pub returns-in-Some : goal.returns-in-Some
returns-in-Some c =
    let by : Bool → Handle = λ t. cond t c.args.buffer (record { 0 = 1 }) in
    ap by (ap is_some c.in-Some.ensures ∙ there_by_row c.args.buffer c.args.buffers.now)

pub returns-in-None : goal.returns-in-None
returns-in-None c =
    let by : Bool → Handle = λ t. cond t c.args.buffer (record { 0 = 1 }) in
    ap by (ap is_some c.in-None.ensures ∙ there_by_row c.args.buffer c.args.buffers.now)
