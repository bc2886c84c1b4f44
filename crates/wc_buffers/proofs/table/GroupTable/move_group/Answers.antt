use Rattle.std.proofs.Common.{◌∙◌, ap, sym, length}
use Rattle.wc_buffers.specs.Groups.{rows}
use Rattle.wc_buffers.proofs.TableLemmas.{rows-moved_group}
use Rattle.wc_buffers.proofs.table.GroupTable.move_group.Goals as goal

pub invariant_of-self : goal.invariant_of-self
invariant_of-self c = record {
  stored = c.move_group.ensures.stored;
  counted = c.self.invariant.counted ∙ sym (ap (λ l. length (rows l)) c.move_group.ensures.moved ∙ rows-moved_group c.args.h.0 c.args.before c.self.inside.groups.items c.self.invariant.stored.groups_are (rw c.self.view_is c.requires.there));
}
