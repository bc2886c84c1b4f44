use Rattle.std.proofs.Common.{◌∙◌, ap, sym}
use Rattle.std.specs.List.{list_any}
use Rattle.wc_buffers.specs.Calls.{other_named}
use Rattle.wc_buffers.specs.Groups.{rows}
use Rattle.wc_buffers.proofs.Named.{taken_by, not_taken}
use Rattle.wc_buffers.proofs.buffers.Buffers.is_taken.Goals as goal

pub returns-in-Some : goal.returns-in-Some
returns-in-Some c =
    taken_by c.self.inside.table c.self.inside.entries c.self.inside.names c.self.invariant c.args.name.now c.args.h c.in-Some.other.now (sym c.in-Some.ensures.value)
    ∙ ap (λ gs. list_any (other_named c.args.name.now c.args.h) (rows gs)) c.self.view_is

pub returns-in-None : goal.returns-in-None
returns-in-None c =
    not_taken c.self.inside.table c.self.inside.entries c.self.inside.names c.self.invariant c.args.name.now c.args.h (sym c.in-None.ensures.value)
    ∙ ap (λ gs. list_any (other_named c.args.name.now c.args.h) (rows gs)) c.self.view_is
