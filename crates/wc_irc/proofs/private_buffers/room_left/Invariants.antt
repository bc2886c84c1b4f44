use Rattle.std.proofs.Common.{◌≡◌, ◌-◌, length}
use Rattle.wc_irc.specs.PrivateBuffers.{private_buffers}
use Rattle.wc_irc.specs.PrivatesSeen.{all_privates_at}
use Rattle.wc_irc.specs.ServersSeen.{seen}
use Rattle.wc_irc.proofs.private_buffers.room_left.Given as goal

abbrev pub invariant-loop-group : goal.invariant-loop-group
invariant-loop-group l = l.room - all_privates_at l.buffers (seen l.state) l.group-iterator
    ≡ l.state.private_max - length (private_buffers l.buffers (seen l.state))
