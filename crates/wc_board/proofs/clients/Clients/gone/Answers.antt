use Rattle.std.proofs.Common.{ap, refl}
use Rattle.wc_session.specs.declared.client.Client.{Client}
use Rattle.wc_board.specs.declared.connection.Connection.{Connection}
use Rattle.wc_board.proofs.HookedChanges.{one_kept}
use Rattle.wc_board.proofs.clients.Clients.gone.Goals as goal

pub invariant_of-self : goal.invariant_of-self
invariant_of-self c =
    let a = c.self.inside in
    let y : Connection = record { session = c.gone.new.self; leaving = c.index_mut.result.now.leaving } in
    one_kept a.hooks a.entries.items a.drawn a.connections.items c.in-Some.place c.index_mut.result.now y c.self.invariant c.index_mut.ensures.value refl (ap (λ (client : Client). client.link) c.gone.ensures.client)
