use Rattle.std.proofs.Common.{refl}
use Rattle.wc_session.specs.RequestContext.{context_seen}
use Rattle.wc_board.specs.declared.connection.Connection.{Connection}
use Rattle.wc_board.proofs.HookedChanges.{one_kept}
use Rattle.wc_board.proofs.ReplyLinks.{answered_link}
use Rattle.wc_board.proofs.clients.Clients.answer.Goals as goal

pub invariant_of-self : goal.invariant_of-self
invariant_of-self c =
    let a = c.self.inside in
    let y : Connection = record { session = c.request.new.self; leaving = c.index_mut.result.now.leaving } in
    one_kept a.hooks a.entries.items a.drawn a.connections.items c.in-Some.place c.index_mut.result.now y c.self.invariant c.index_mut.ensures.value refl
    (answered_link c.args.world.now (context_seen c.args.context) c.args.request c.index_mut.result.now.session c.request.new.self c.request.result c.request.ensures.answered c.request.ensures.refused)
