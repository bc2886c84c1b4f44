use Rattle.wc_buffers.specs.Kept.{AreBuffers}
use Rattle.wc_session.proofs.DumpReplies.{dump_told, walkable}
use Rattle.wc_session.proofs.SendingLemmas.{sends_as}
use Rattle.wc_session.proofs.ServedLemmas.{answer_not_refused, on_served}
use Rattle.wc_session.proofs.session.Session.request.Goals as goal

pub returns-clause-refused : goal.returns-clause-refused
returns-clause-refused c = answer_not_refused _ _ _ _ _ _ (c.in-Ok.ensures.ok).outcome

pub returns-clause-dumps : goal.returns-clause-dumps
returns-clause-dumps c =
    let are : AreBuffers c.args.world.now.groups = rw c.buffers.ensures at c.groups.ensures.held in
    rw (← c.self.view_is) (on_served c.in-Ok.outcome _ (λ logged short objects asked. sends_as _ _ _ _
    (dump_told c.args.world.now _ c.self.inside.client c.args.request objects (walkable c.args.world.now are short) logged asked) (c.in-Ok.ensures.ok).sends))
