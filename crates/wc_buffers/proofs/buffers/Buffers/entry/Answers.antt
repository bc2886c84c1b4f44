use Rattle.std.proofs.Common.{◌∙◌, ap}
use Rattle.wc_buffers.specs.Calls.{entry_of}
use Rattle.wc_buffers.proofs.Shown.{entry-shown}
use Rattle.wc_buffers.proofs.buffers.Buffers.entry.Goals as goal

pub returns : goal.returns
returns c = c.get.ensures.value ∙ entry-shown c.self.inside.table c.self.inside.entries c.self.inside.names c.self.invariant c.args.h.0 ∙ ap (entry_of c.args.h) c.self.view_is
