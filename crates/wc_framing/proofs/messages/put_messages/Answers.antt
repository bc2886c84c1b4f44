use Rattle.std.proofs.Common.{◌+◌, length, Some, None, refl, subst}
use Rattle.wc_framing.specs.Messages.{HasNoMessage, FirstMessage}
use Rattle.wc_framing.proofs.MessagesLemmas.{sliced, Puts-more, Frames-of}
use Rattle.wc_framing.proofs.messages.put_messages.Goals as goal

pub loop-message-preserved : goal.loop-message-preserved
loop-message-preserved c = Puts-more c.args.bytes.now c.in-Some.message.now c.loop-message.count (c.loop-message.count + length c.in-Some.message.now) c.args.link.now c.loop-message.link c.put.new.self c.loop-message.invariant (subst (λ bs. FirstMessage bs (Some c.in-Some.message.now)) (sliced c.args.bytes.now c.loop-message.count) c.in-Some.ensures) refl c.in_default-put.ensures.ok

pub returns-clause-frames : goal.returns-clause-frames
returns-clause-frames c = Frames-of c.args.bytes.now c.loop-message.count c.args.link.now c.loop-message.link c.loop-message.link None c.loop-message.invariant refl (subst HasNoMessage (sliced c.args.bytes.now c.loop-message.count) c.in_default.ensures)
