use Rattle.std.proofs.Common.{Some, None}
use Rattle.wc_turns.specs.declared.sockets.WsThen.TheVariants.{GoOn, Closed}
use Rattle.wc_text.specs.declared.names.Cause.TheVariants.{Ended}
use Rattle.wc_turns.specs.Sockets.{cause_of}
use Rattle.wc_turns.proofs.FramesLemmas.{ServesSocket-none, ServesSocket-text, cause-socket, ends-refused}
use Rattle.wc_turns.proofs.sockets.serve_next.Goals as goal

pub returns-in-Ok-Payload-clause-serves : goal.returns-in-Ok-Payload-clause-serves
returns-in-Ok-Payload-clause-serves c =
    let e = c.serve_text.ensures in
    ServesSocket-text c.args.link.0 c.serve_text.result c.args.socket.now c.next_message.new.link c.args.core.now c.serve_text.new.core c.args.tail.now c.serve_text.new.tail c.args.ran.now c.serve_text.new.ran _ e.then
    (λ bytes read f. (rw c.in-Ok-Payload.field-0-is at c.in-Ok-Payload.ensures).comes bytes read f) e.tail e.takes e.causes e.idle

pub returns-in-Ok-Payload-clause-shrinks : goal.returns-in-Ok-Payload-clause-shrinks
returns-in-Ok-Payload-clause-shrinks c = λ q. (rw c.in-Ok-Payload.field-0-is at c.in-Ok-Payload.ensures).shrinks

pub returns-in-Ok-Control-clause-serves : goal.returns-in-Ok-Control-clause-serves
returns-in-Ok-Control-clause-serves c = ServesSocket-none c.args.link.0 None c.args.socket.now c.next_message.new.link c.args.core.now c.args.tail.now c.args.ran.now c.requires.going (λ bytes read f. (rw c.in-Ok-Control.field-0-is at c.in-Ok-Control.ensures).comes bytes read f) tt

pub returns-in-Ok-NotYet-clause-serves : goal.returns-in-Ok-NotYet-clause-serves
returns-in-Ok-NotYet-clause-serves c = ServesSocket-none c.args.link.0 (Some GoOn) c.args.socket.now c.next_message.new.link c.args.core.now c.args.tail.now c.args.ran.now c.requires.going (λ bytes read f. (rw c.in-Ok-NotYet.field-0-is at c.in-Ok-NotYet.ensures).comes bytes read f) tt

pub returns-in-Ok-Ended-clause-serves : goal.returns-in-Ok-Ended-clause-serves
returns-in-Ok-Ended-clause-serves c = ServesSocket-none c.args.link.0 (Some (Closed Ended)) c.args.socket.now c.next_message.new.link c.args.core.now c.args.tail.now c.args.ran.now c.requires.going (λ bytes read f. (rw c.in-Ok-Ended.field-0-is at c.in-Ok-Ended.ensures).comes bytes read f) tt

pub returns-in-Err-clause-serves : goal.returns-in-Err-clause-serves
returns-in-Err-clause-serves c = rw c.cause_of.ensures (ServesSocket-none c.args.link.0 (Some (Closed (cause_of c.in-Err.why))) c.args.socket.now c.next_message.new.link c.args.core.now c.args.tail.now c.args.ran.now c.requires.going (λ bytes read f. ends-refused c.in-Err.why bytes read c.next_message.new.link (c.in-Err.ensures.comes bytes read f)) (cause-socket c.in-Err.why))
