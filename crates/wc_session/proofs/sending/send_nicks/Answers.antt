use Rattle.std.proofs.Common.{◌<◌, ◌^◌, ◌-◌, length, arith}
use Rattle.wc_objects.specs.Spelling.{message_bytes}
use Rattle.wc_events.specs.Nicks.{nicks_objects}
use Rattle.wc_session.proofs.SendingLemmas.{sends_one, sends_too_long}
use Rattle.wc_session.proofs.sending.send_nicks.Goals as goal

pub returns-in-Ok-clause-ok : goal.returns-in-Ok-clause-ok
returns-in-Ok-clause-ok c = λ formed. sends_one _ _ c.args.id.now (nicks_objects c.args.nicks) c.in-Ok.ensures.ok c.in-Ok.ensures.fits c.requires formed

pub returns-in-Err-TooLong-clause-ok : goal.returns-in-Err-TooLong-clause-ok
returns-in-Err-TooLong-clause-ok c = λ formed.
    let said = rw c.in-Err-TooLong.field-0-is at c.in-Err-TooLong.ensures in
    let long : 2 ^ 31 - 1 < length (message_bytes c.args.id.now (nicks_objects c.args.nicks)) = grind arith in
    sends_too_long _ _ c.args.id.now (nicks_objects c.args.nicks) said.err long
