use Rattle.std.proofs.Common.{arith}
use Rattle.wc_hooks.proofs.Calls.{kept_ended}
use Rattle.wc_hooks.proofs.table.HookTable.end_run.Goals as goal

pub invariant_of-self : goal.invariant_of-self
invariant_of-self c =
    let a = c.self.inside in
    let same = c.unmark.ensures.capacity in
    let room = c.self.invariant.room in
    record { kept = kept_ended a.slots a.cursors.items a.marks.items a.hooked a.relays a.others a.has_gone c.self.invariant.kept c.args.id c.unmark.new.marks.items c.unmark.ensures.marks; room = omega (arith, same, room) }
