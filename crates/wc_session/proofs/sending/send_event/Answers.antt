use Rattle.std.proofs.Common.{arith}
use Rattle.wc_events.specs.BufferObjects.{event_objects, id_of}
use Rattle.wc_events.specs.EventBytes.{IsTooLong}
use Rattle.wc_session.proofs.EventLemmas.{event_put, event_too_long}
use Rattle.wc_session.proofs.sending.send_event.Goals as goal

pub returns-in-Ok-clause-ok : goal.returns-in-Ok-clause-ok
returns-in-Ok-clause-ok c = event_put _ _ c.args.world.now c.args.notice.now c.in-Ok.ensures.ok

pub returns-in-Err-TooLong-clause-ok : goal.returns-in-Err-TooLong-clause-ok
returns-in-Err-TooLong-clause-ok c =
    let said = rw c.in-Err-TooLong.field-0-is at c.in-Err-TooLong.ensures in
    let long : IsTooLong (id_of c.args.notice.now.kind) (event_objects c.args.world.now c.args.notice.now) = grind arith in
    event_too_long _ _ c.args.world.now c.args.notice.now said.err long
