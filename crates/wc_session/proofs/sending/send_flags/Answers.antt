use Rattle.std.proofs.Common.{arith}
use Rattle.wc_model.specs.World.{lines_at}
use Rattle.wc_model.specs.declared.notice.EventKind.TheVariants as kinds
use Rattle.wc_events.specs.BufferObjects.{flagged_objects, id_of}
use Rattle.wc_events.specs.EventBytes.{IsTooLong}
use Rattle.wc_session.proofs.EventLemmas.{flags_put, flags_too_long}
use Rattle.wc_session.proofs.sending.send_flags.Goals as goal

pub returns-in-Ok-clause-ok : goal.returns-in-Ok-clause-ok
returns-in-Ok-clause-ok c = flags_put _ _ c.args.world.now c.args.buffer c.args.flips.now c.in-Ok.ensures.ok

pub returns-in-Err-TooLong-clause-ok : goal.returns-in-Err-TooLong-clause-ok
returns-in-Err-TooLong-clause-ok c =
    let said = rw c.in-Err-TooLong.field-0-is at c.in-Err-TooLong.ensures in
    let long : IsTooLong (id_of kinds.LineDataChanged) (flagged_objects c.args.buffer c.args.flips.now (lines_at c.args.world.now c.args.buffer.0)) = grind arith in
    flags_too_long _ _ c.args.world.now c.args.buffer c.args.flips.now said.err long
