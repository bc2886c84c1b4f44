use Rattle.std.proofs.Common.{◌∷◌, [], ap, sym, subst, arith, length, length-append}
use Rattle.wc_buffers.specs.Table.{AllEmpty}
use Rattle.wc_buffers.proofs.TableLemmas.{AllEmpty-push}
use Rattle.wc_buffers.proofs.table.GroupTable.new.Goals as goal

pub loop-preserved : goal.loop-preserved
loop-preserved c =
    let made = c.loop.invariant.made in
    let room = c.loop.invariant.room in
    record {
      emptied = subst AllEmpty (sym c.push_reserved.ensures.items) (AllEmpty-push c.loop.spare.items c.in_ok-group.group c.loop.invariant.emptied c.in_ok-group.ensures);
      made = omega (arith, ap length c.push_reserved.ensures.items, length-append c.loop.spare.items (c.in_ok-group.group ∷ []));
      room = omega (arith, c.push_reserved.ensures.capacity);
    }
