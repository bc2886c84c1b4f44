use Rattle.std.proofs.Common.{◌∙◌, ap}
use Rattle.wc_buffers.specs.Calls.{are_together}
use Rattle.wc_buffers.proofs.Shown.{together-shown}
use Rattle.wc_buffers.proofs.buffers.Buffers.are_together.Goals as goal

pub returns : goal.returns
returns c = c.are_together.ensures ∙ together-shown c.self.inside.table c.self.inside.entries c.self.inside.names c.self.invariant c.args.h c.args.into ∙ ap (are_together c.args.h c.args.into) c.self.view_is
