use Rattle.std.proofs.Common.{◌∙◌, ap, sym, Some, None}
use Rattle.wc_buffers.specs.Calls.{handle_of_name}
use Rattle.wc_buffers.proofs.Named.{named-shown}
use Rattle.wc_buffers.proofs.buffers.Buffers.find.Goals as goal

pub returns-in-Some : goal.returns-in-Some
returns-in-Some c =
    named-shown c.self.inside.table c.self.inside.entries c.self.inside.names c.self.invariant c.args.full_name.now (Some c.in-Some.h.now) (sym c.in-Some.ensures.value)
    ∙ ap (handle_of_name c.args.full_name.now) c.self.view_is

pub returns-in-None : goal.returns-in-None
returns-in-None c =
    named-shown c.self.inside.table c.self.inside.entries c.self.inside.names c.self.invariant c.args.full_name.now None (sym c.in-None.ensures.value)
    ∙ ap (handle_of_name c.args.full_name.now) c.self.view_is
