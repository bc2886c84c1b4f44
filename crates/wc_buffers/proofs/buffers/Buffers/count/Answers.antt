use Rattle.std.proofs.Common.{◌∙◌, ap, length}
use Rattle.wc_buffers.specs.Groups.{rows}
use Rattle.wc_buffers.proofs.Shown.{rows-shown}
use Rattle.wc_buffers.proofs.buffers.Buffers.count.Goals as goal

pub returns : goal.returns
returns c = c.count.ensures.count ∙ rows-shown c.self.inside.table c.self.inside.entries c.self.inside.names c.self.invariant ∙ ap (λ gs. length (rows gs)) c.self.view_is
