use Rattle.std.proofs.Common.{◌∙◌, sym, subst}
use Rattle.wc_buffers.specs.Calls.{with_buffer}
use Rattle.wc_buffers.specs.Kept.{HasUtf8Row}
use Rattle.wc_world.proofs.First.{core_text}
use Rattle.wc_world.proofs.world.core_buffers.Goals as goal

pub add-requires-clause-text : goal.add-requires-clause-text
add-requires-clause-text c = subst HasUtf8Row (sym c.in-Ok.ensures) core_text

pub returns-in-Ok-add : goal.returns-in-Ok-add
returns-in-Ok-add c = c.in-Ok-add.ensures.after ∙ (λ i. with_buffer (c.in-Ok.ensures i) (c.new-2.ensures i) (c.in_ok-buffers.ensures i))
