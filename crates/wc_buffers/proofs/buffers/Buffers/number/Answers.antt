use Rattle.std.proofs.Common.{◌∙◌, ap}
use Rattle.wc_buffers.specs.Calls.{number}
use Rattle.wc_buffers.proofs.Shown.{number-shown}
use Rattle.wc_buffers.proofs.buffers.Buffers.number.Goals as goal

pub returns : goal.returns
returns c = c.number.ensures ∙ number-shown c.self.inside.table c.self.inside.entries c.self.inside.names c.self.invariant c.args.h ∙ ap (number c.args.h) c.self.view_is
