use Rattle.std.proofs.Common.{◌-◌, length}
use Rattle.wc_framing.proofs.MessagesLemmas.{Puts}
use Rattle.wc_framing.proofs.messages.put_messages.Given as goal

-- the messages so far are put
abbrev pub invariant-loop-message : goal.invariant-loop-message
invariant-loop-message l = Puts l.bytes l.count l.fn.link l.link

abbrev pub decreases-loop-message : goal.decreases-loop-message
decreases-loop-message l = length l.bytes - l.count
