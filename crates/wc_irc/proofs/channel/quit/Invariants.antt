use Rattle.std.proofs.Common.{◌≡◌, map}
use Rattle.wc_irc.specs.Channels.{joined, without_nick}
use Rattle.wc_irc.proofs.ChannelLemmas.{so_far}
use Rattle.wc_irc.proofs.channel.quit.Given as goal

-- the channels up to here are changed, and the others are as they were
abbrev pub invariant-loop-channel : goal.invariant-loop-channel
invariant-loop-channel l = map joined l.channel-items ≡ so_far (without_nick l.nick) l.channel-index (map joined l.fn.channels)
