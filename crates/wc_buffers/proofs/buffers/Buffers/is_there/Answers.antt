use Rattle.std.proofs.Common.{◌∙◌, ap}
use Rattle.wc_buffers.specs.Calls.{is_there}
use Rattle.wc_buffers.proofs.Shown.{there-shown}
use Rattle.wc_buffers.proofs.buffers.Buffers.is_there.Goals as goal

pub returns : goal.returns
returns c = c.contains_key.ensures ∙ there-shown c.self.inside.table c.self.inside.entries c.self.inside.names c.self.invariant c.args.h.0 ∙ ap (is_there c.args.h) c.self.view_is
