use Rattle.std.proofs.Common.{◌∙◌, ap, sym, length}
use Rattle.wc_buffers.specs.Groups.{rows}
use Rattle.wc_buffers.proofs.TableLemmas.{rows-parted}
use Rattle.wc_buffers.proofs.table.GroupTable.unmerge.Goals as goal

pub invariant_of-self : goal.invariant_of-self
invariant_of-self c = record {
  stored = c.unmerge.ensures.stored;
  counted = c.self.invariant.counted ∙ sym (ap (λ l. length (rows l)) c.unmerge.ensures.unmerged ∙ rows-parted c.args.h c.self.inside.groups.items c.self.invariant.stored.groups_are (rw c.self.view_is c.requires.there) (rw c.self.view_is c.requires.merged));
}
