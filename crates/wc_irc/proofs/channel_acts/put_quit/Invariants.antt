use Rattle.std.proofs.Common.{◌≡◌, ◌++◌, drop, map, flat_map}
use Rattle.wc_irc.specs.Channels.{joined}
use Rattle.wc_irc.specs.ChannelActs.{quit_of, quit_acts}
use Rattle.wc_irc.specs.ServersSeen.{seen}
use Rattle.wc_irc.proofs.channel_acts.put_quit.Given as goal

abbrev pub invariant-loop-channel : goal.invariant-loop-channel
invariant-loop-channel l = l.acts ++ flat_map (quit_of l.buffers (seen l.state) l.m) (map joined (drop l.channel-index l.channel-items)) ≡ l.fn.acts ++ quit_acts l.buffers (seen l.state) l.m
