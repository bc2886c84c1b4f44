use Rattle.std.proofs.Common.{◌≡◌, ◌-◌, drop}
use Rattle.wc_irc.specs.PrivatesSeen.{privates_at}
use Rattle.wc_irc.specs.ServersSeen.{seen}
use Rattle.wc_irc.proofs.private_buffers.room_after.Given as goal

abbrev pub invariant-loop-buffer : goal.invariant-loop-buffer
invariant-loop-buffer l = l.left - privates_at l.buffers (seen l.state) (drop l.buffer-index l.group)
    ≡ l.room - privates_at l.buffers (seen l.state) l.group
