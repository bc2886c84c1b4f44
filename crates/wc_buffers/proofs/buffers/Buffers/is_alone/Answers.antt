use Rattle.std.proofs.Common.{◌∙◌, ap}
use Rattle.wc_buffers.specs.Calls.{is_alone}
use Rattle.wc_buffers.proofs.Shown.{alone-shown}
use Rattle.wc_buffers.proofs.buffers.Buffers.is_alone.Goals as goal

pub returns : goal.returns
returns c = c.is_alone.ensures ∙ alone-shown c.self.inside.table c.self.inside.entries c.self.inside.names c.self.invariant c.args.h ∙ ap (is_alone c.args.h) c.self.view_is
