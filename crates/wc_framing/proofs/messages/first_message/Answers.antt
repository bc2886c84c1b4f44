use Rattle.std.proofs.Common.{arith}
use Rattle.wc_framing.proofs.MessagesLemmas.{first_whole}
use Rattle.wc_framing.proofs.messages.first_message.Goals as goal

pub returns : goal.returns
returns c = first_whole c.args.bytes.now c.in_ok-length.length c.in_ok-length.ensures.1 (omega (arith, c.if-length-lt-LEAST.false)) (omega (arith, c.if-bytes-length.false))
