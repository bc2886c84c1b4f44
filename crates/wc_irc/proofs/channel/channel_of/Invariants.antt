use Rattle.std.proofs.Common.{◌≡◌, length}
use Rattle.wc_irc.specs.Channels.{channel_of}
use Rattle.wc_irc.proofs.channel.channel_of.Given as goal

abbrev pub invariant-loop-rest : goal.invariant-loop-rest
invariant-loop-rest l = channel_of l.case_map l.name l.rest ≡ channel_of l.case_map l.name l.channels

abbrev pub decreases-loop-rest : goal.decreases-loop-rest
decreases-loop-rest l = length l.rest
