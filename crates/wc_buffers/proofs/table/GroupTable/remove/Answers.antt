use Rattle.std.proofs.Common.{ap, arith, length}
use Rattle.wc_buffers.specs.Groups.{rows}
use Rattle.wc_buffers.proofs.TableLemmas.{rows-taken}
use Rattle.wc_buffers.proofs.table.GroupTable.remove.Goals as goal

pub overflow_sub-self : goal.overflow_sub-self
overflow_sub-self c =
    let counted = c.self.invariant.counted in
    omega (arith, rows-taken c.args.h.0 c.self.inside.groups.items c.self.invariant.stored.groups_are (rw c.self.view_is c.requires))

pub invariant_of-self : goal.invariant_of-self
invariant_of-self c = record {
  stored = c.remove.ensures.stored;
  counted = (let counted = c.self.invariant.counted in omega (arith, ap (λ l. length (rows l)) c.remove.ensures.removed, rows-taken c.args.h.0 c.self.inside.groups.items c.self.invariant.stored.groups_are (rw c.self.view_is c.requires)));
}
