use Rattle.std.proofs.Common.{refl, Some}
use Rattle.wc_board.specs.declared.connection.Connection.{Connection}
use Rattle.wc_board.proofs.HookedChanges.{one_retired}
use Rattle.wc_board.proofs.RequestLemmas.{leave-gone}
use Rattle.wc_board.proofs.clients.Clients.retire.Goals as goal

pub invariant_of-self : goal.invariant_of-self
invariant_of-self c =
    let a = c.self.inside in
    let place = rw c.deref.ensures.value at c.in-Some.ensures in
    let y : Connection = record { session = c.index_mut.result.now.session; leaving = Some c.args.cause } in
    one_retired a.hooks c.unhook.new.self a.entries.items a.drawn a.connections.items c.in-Some.place c.index-2.result.now y c.self.invariant place.inside c.index-2.ensures c.unhook.ensures.after refl

pub returns-clause-shut : goal.returns-clause-shut
returns-clause-shut c = leave-gone c.args.link c.self.inside.connections.items c.in-Some.place c.index_mut.result.now c.args.cause (rw c.deref.ensures.value at c.in-Some.ensures) c.index_mut.ensures.value
